-- `player::next_piece` meets its contract. What is written up to a field, and the listing from it on, is what was left
-- at the beginning, whatever comes later; the rest of the fragment gets shorter. Assumes nothing.
use mathlib.Core.Logic.{inl, inr}
use native.Mathlib.Omega.{arith}
use Rattle.player.proofs.Feeding.{under_small, under_moves, under_late, under_more, under_field, under_last, under_stop}
use Rattle.player.proofs.next_piece.Goals as goal

pub returns-in-Err : goal.returns-in-Err
returns-in-Err c =
    under_last _ _ _ _ _ _ _ _ _ _ _ c.loop-out.invariant.1 _ c.loop-out.invariant.0 _ _ c.waiting.ensures _ c.in-Err.ensures.read _ _
    c.show_end-used.ensures (omega arith)

pub overflow_add-taken : goal.overflow_add-taken
overflow_add-taken c =
    let moves = under_moves _ _ _ _ _ _ _ _ _ c.loop-out.invariant.1 _ _ c.in-Ok.ensures.read c.in-Ok.ensures.after in omega (arith, moves.1)

pub play_field-moved-requires-clause-known_memory : goal.play_field-moved-requires-clause-known_memory
play_field-moved-requires-clause-known_memory c =
    let u = c.loop-out.invariant.1 in (
      u.can.good u.past,
      (under_small _ _ _ _ _ _ _ _ _ u, under_late _ _ _ _ _ _ _ _ _ u _ _ c.in-Ok.ensures.read c.in-Ok.ensures.after _ c.in-Some.is),
    )

pub loop-out-smaller-in-Some : goal.loop-out-smaller-in-Some
loop-out-smaller-in-Some c =
    let moves = under_moves _ _ _ _ _ _ _ _ _ c.loop-out.invariant.1 _ _ c.in-Ok.ensures.read c.in-Ok.ensures.after in
    omega (arith, moves.0, moves.1)

pub loop-out-preserved-in-Some : goal.loop-out-preserved-in-Some
loop-out-preserved-in-Some c = (
  c.loop-out.invariant.0,
  under_field _ _ _ _ _ _ _ _ _ c.loop-out.invariant.1 _ _ c.in-Ok.ensures.read c.in-Ok.ensures.after _ c.in-Some.is _ _ _ _ _ _
      c.play_field-moved.ensures (omega arith),
)

pub loop-out-smaller : goal.loop-out-smaller
loop-out-smaller c =
    let moves = under_moves _ _ _ _ _ _ _ _ _ c.loop-out.invariant.1 _ _ c.in-Ok.ensures.read c.in-Ok.ensures.after in
    omega (arith, moves.0, moves.1)

pub loop-out-preserved : goal.loop-out-preserved
loop-out-preserved c =
    (c.loop-out.invariant.0, under_more _ _ _ _ _ _ _ _ _ c.loop-out.invariant.1 _ _ c.in-Ok.ensures.read c.in-Ok.ensures.after c.in_default.not-Some)

pub returns-else-taken-fragment : goal.returns-else-taken-fragment
returns-else-taken-fragment c = under_stop _ _ _ _ _ _ _ _ _ _ _ c.loop-out.invariant.1 (inr c.if-taken-fragment.false)

pub returns-after-loop-out : goal.returns-after-loop-out
returns-after-loop-out c = under_stop _ _ _ _ _ _ _ _ _ _ _ c.loop-out.invariant.1 (inl c.loop-out-test.false)
