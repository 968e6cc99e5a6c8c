-- `player::first_piece` meets its contract. The first field is L, of which the board is made, or the listing is one
-- line, or the field is not finished. Assumes nothing.
use mathlib.Core.Path.{refl, ap, sym, ◌∙◌}
use mathlib.Core.Logic.{inl, inr}
use native.Mathlib.Omega.{arith}
use Rattle.base.proofs.Numbers.{eqb_true}
use Rattle.log_bytes.proofs.First.{not_largest}
use Rattle.std.specs.Prelude.{Some}
use Rattle.fragments.proofs.Readers.{read_whole}
use Rattle.player.proofs.Ends.{before_turn, first_none, first_last, first_more, first_field}
use Rattle.player.proofs.first_piece.Goals as goal
use Rattle.player.proofs.first_piece.Goals.{then-out-lt-LINE_ROOM-via-then-out-lt-LINE_ROOM, then-out-lt-LINE_ROOM-via-else-out-lt-LINE_ROOM+then-is_empty}

pub returns-then-out-lt-LINE_ROOM : goal.returns-then-out-lt-LINE_ROOM
returns-then-out-lt-LINE_ROOM c =
    first_none _ _ _ _ _ c.requires.0 c.requires.1
    (elim c.then-out-lt-LINE_ROOM.branch [
      | then-out-lt-LINE_ROOM-via-then-out-lt-LINE_ROOM w ↦ inl w.if-out-lt-LINE_ROOM.true
      | then-out-lt-LINE_ROOM-via-else-out-lt-LINE_ROOM+then-is_empty w ↦
          inr (eqb_true _ 0 (sym w.is_empty.ensures ∙ w.if-is_empty.true))
    ])

pub unreachable-requires : goal.unreachable-requires
unreachable-requires c =
    let g = read_whole _ _ _ _ c.in-Ok.ensures.read c.in-Ok.ensures.after _ c.in-Some.is in
    not_largest _ (before_turn _ _ c.requires.1 g.turn) c.in_default-event.not-Largest

pub returns-in-Err : goal.returns-in-Err
returns-in-Err c =
    let shown = c.show_end-used.ensures in
    first_last _ _ _ _ _ c.requires.0 c.requires.1 _ c.in-Err.ensures.after _ (c.in-Err.ensures.read.ends _ refl) _ _ shown.0 (omega arith)

pub returns-in-Largest : goal.returns-in-Largest
returns-in-Largest c =
    first_field _ _ _ _ _ c.requires.0 c.requires.1 _ _ c.in-Ok.ensures.read c.in-Ok.ensures.after _ (c.in-Some.is ∙ ap Some c.in-Largest.is) _ _ _
    c.make_in-s.ensures

pub returns-in_default : goal.returns-in_default
returns-in_default c =
    first_more _ _ _ _ _ c.requires.0 c.requires.1 _ _ c.in-Ok.ensures.read c.in-Ok.ensures.after c.in_default.not-Some
