-- `report_play::play_on` meets its contract. What was left at the beginning is left of what stands after each field; the
-- rest of the fragment gets shorter. Assumes nothing.
use native.Mathlib.Omega.{arith}
use Rattle.report_play.proofs.Playing.{played_moves, played_late, played_field, played_more, played_stops, played_ends}
use Rattle.report_play.proofs.play_on.Goals as goal

pub returns-in-Err-clause-played : goal.returns-in-Err-clause-played
returns-in-Err-clause-played c =
    played_ends _ _ _ _ _ _ _ _ _ (played_stops _ _ _ _ _ _ _ c.loop-taken.invariant.played _ _ c.in-Err.ensures.read)

pub overflow_add-taken : goal.overflow_add-taken
overflow_add-taken c =
    let moves = played_moves _ _ _ _ _ _ _ c.loop-taken.invariant.played _ _ c.in-Ok.ensures.read c.in-Ok.ensures.after in
    omega (arith, moves.1)

pub play_counted-requires : goal.play_counted-requires
play_counted-requires c =
    let u = c.loop-taken.invariant.played in
    (u.good, played_late _ _ _ _ _ _ _ u _ _ c.in-Ok.ensures.read c.in-Ok.ensures.after _ c.in-Some.is)

pub loop-taken-smaller-in-Some : goal.loop-taken-smaller-in-Some
loop-taken-smaller-in-Some c =
    let moves = played_moves _ _ _ _ _ _ _ c.loop-taken.invariant.played _ _ c.in-Ok.ensures.read c.in-Ok.ensures.after in
    omega (arith, moves.0, moves.1)

pub loop-taken-preserved-in-Some : goal.loop-taken-preserved-in-Some
loop-taken-preserved-in-Some c = record {
  played = played_field _ _ _ _ _ _ _ c.loop-taken.invariant.played _ _ c.in-Ok.ensures.read c.in-Ok.ensures.after _ c.in-Some.is _
      c.play_counted.ensures;
  shown = c.loop-taken.invariant.shown;
}

pub loop-taken-smaller : goal.loop-taken-smaller
loop-taken-smaller c =
    let moves = played_moves _ _ _ _ _ _ _ c.loop-taken.invariant.played _ _ c.in-Ok.ensures.read c.in-Ok.ensures.after in
    omega (arith, moves.0, moves.1)

pub loop-taken-preserved : goal.loop-taken-preserved
loop-taken-preserved c = record {
  played = played_more _ _ _ _ _ _ _ c.loop-taken.invariant.played _ _ c.in-Ok.ensures.read c.in-Ok.ensures.after c.in_default.not-Some;
  shown = c.loop-taken.invariant.shown;
}
