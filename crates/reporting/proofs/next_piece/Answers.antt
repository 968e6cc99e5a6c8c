-- `reporting::next_piece` meets its contract. All of the fragment is played, or the report is one line. Assumes nothing.
use native.Mathlib.Omega.{arith}
use Rattle.std.proofs.Common.{rules}
use Rattle.reporting.proofs.Feeding.{next_done, next_last}
use Rattle.reporting.proofs.next_piece.Goals as goal

pub returns-in-Err : goal.returns-in-Err
returns-in-Err c =
    next_last _ _ _ _ _ c.requires.0 c.requires.1.0 _ _ _ _ c.in-Err.ensures.played (c.in-Err.ensures.stays (search rules))
    c.play_on.auto.ids c.play_on.auto.lens _ _ c.put_end-used.ensures.0 (omega (arith, c.put_end-used.ensures.1, c.requires.1.1))

pub returns-in_default : goal.returns-in_default
returns-in_default c = next_done _ _ _ _ _ c.requires.0 c.requires.1.0 _ _ _ c.in_default.ensures.played
