-- THE CODES of document 01's table: the code of each refusal, and of what came of a call, which is 0 where it is done.
use Rattle.std.specs.Prelude.{ℕ, Result, Ok, Err}
use Rattle.numbers.specs.declared.refusal.Refusal.{Refusal}
use Rattle.numbers.specs.declared.refusal.Refusal.TheVariants.{TableLength, Spoilt, NoBlockWaits, OutOfRange}
use Rattle.numbers.specs.declared.refusal.Refusal.TheVariants.{UnknownBlock, NumberIsOpen, NoFreePlace, ShareNotFree}
use Rattle.numbers.specs.declared.refusal.Refusal.TheVariants.{LaneFull, LaneNotEmpty, ClockSpent, ListFull, OverBudget}

abbrev pub refusal_code : Refusal → ℕ
refusal_code TableLength = 3
refusal_code Spoilt = 2
refusal_code NoBlockWaits = 1
refusal_code OutOfRange = 4
refusal_code UnknownBlock = 6
refusal_code NumberIsOpen = 5
refusal_code NoFreePlace = 7
refusal_code ShareNotFree = 8
refusal_code LaneFull = 9
refusal_code LaneNotEmpty = 10
refusal_code ClockSpent = 11
refusal_code ListFull = 14
refusal_code OverBudget = 13

abbrev pub outcome_code : {A : Type 0} → Result A Refusal → ℕ
outcome_code (Ok _) = 0
outcome_code (Err refusal) = refusal_code refusal
