-- `reporting::first_piece` meets its contract. The first field is L, of which the board is made; or it is not finished, or
-- the report is one line. Assumes nothing.
use mathlib.Core.Path.{refl, ap, ◌∙◌}
use native.Mathlib.Omega.{arith}
use Rattle.std.specs.Prelude.{Some}
use Rattle.log_bytes.proofs.First.{not_largest}
use Rattle.fragments.proofs.Readers.{read_whole}
use Rattle.reporting.proofs.Feeding.{before_turn, first_last, first_more, first_field}
use Rattle.reporting.proofs.first_piece.Goals as goal

pub unreachable-requires : goal.unreachable-requires
unreachable-requires c =
    let g = read_whole _ _ _ _ c.in-Ok.ensures.read c.in-Ok.ensures.after _ c.in-Some.is in
    not_largest _ (before_turn _ _ c.requires.1.0 g.turn) c.in_default-event.not-Largest

pub returns-in-Err : goal.returns-in-Err
returns-in-Err c =
    first_last _ _ _ _ _ c.requires.0 c.requires.1.0 _ c.in-Err.ensures.after _ (c.in-Err.ensures.read.ends _ refl) _ _
    c.put_end.ensures.0 (omega (arith, c.put_end.ensures.1, c.requires.1.1.0))

pub returns-in-Largest : goal.returns-in-Largest
returns-in-Largest c =
    rw c.blank-s.ensures.0
    (first_field _ _ _ _ _ c.requires.0 c.requires.1.0 _ _ c.in-Ok.ensures.read c.in-Ok.ensures.after _ (c.in-Some.is ∙ ap Some c.in-Largest.is) _ _ _
    c.make_in-s.ensures)

pub returns-in_default : goal.returns-in_default
returns-in_default c =
    first_more _ _ _ _ _ c.requires.0 c.requires.1.0 _ _ c.in-Ok.ensures.read c.in-Ok.ensures.after c.in_default.not-Some
