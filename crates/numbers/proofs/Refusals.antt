-- No refusal has the code of a call that is done.
use Rattle.std.specs.Prelude.{◌≡◌, ◌≢◌, ℕ, Result, Ok, Err, IsOk, IsErr}
use mathlib.Core.Path.{refl}
use native.Mathlib.Omega.{arith}
use Rattle.numbers.specs.declared.refusal.Refusal.{Refusal}
use Rattle.numbers.specs.declared.refusal.Refusal.TheVariants.{TableLength, Spoilt, NoBlockWaits, OutOfRange}
use Rattle.numbers.specs.declared.refusal.Refusal.TheVariants.{UnknownBlock, NumberIsOpen, NoFreePlace, ShareNotFree}
use Rattle.numbers.specs.declared.refusal.Refusal.TheVariants.{LaneFull, LaneNotEmpty, ClockSpent, ListFull, OverBudget}
use Rattle.numbers.specs.Codes.{refusal_code, outcome_code}

pub refusal_not_done : (r : Refusal) → refusal_code r ≢ 0
refusal_not_done TableLength e = omega arith
refusal_not_done Spoilt e = omega arith
refusal_not_done NoBlockWaits e = omega arith
refusal_not_done OutOfRange e = omega arith
refusal_not_done UnknownBlock e = omega arith
refusal_not_done NumberIsOpen e = omega arith
refusal_not_done NoFreePlace e = omega arith
refusal_not_done ShareNotFree e = omega arith
refusal_not_done LaneFull e = omega arith
refusal_not_done LaneNotEmpty e = omega arith
refusal_not_done ClockSpent e = omega arith
refusal_not_done ListFull e = omega arith
refusal_not_done OverBudget e = omega arith

-- what is told as done was done
pub done_is_ok : {A : Type 0} (r : Result A Refusal) → outcome_code r ≡ 0 → IsOk r
done_is_ok (Ok _) e = refl
done_is_ok (Err r) e = absurd (refusal_not_done r e)
