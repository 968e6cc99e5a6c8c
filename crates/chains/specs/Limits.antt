-- LIMITS of every chain from a done making (document 01): the clocks that are answered, the deficits that are left.
use Rattle.std.specs.Prelude.{ℕ, ◌*◌, ◌^◌, ◌<◌, List, [], ◌∷◌, get_or}
use Rattle.units.specs.Credit.{largest_charge}
use Rattle.rules.specs.Calls.{Single, Call, Answer}
use Rattle.rules.specs.Runs.{clock_of}
use Rattle.board.specs.Memory.{Holding}
use Rattle.chains.specs.Chains.{Chain, Made}
use Rattle.chains.specs.Demands.{Row}

-- Clock: no slot begins at 2^62 or later. A send is answered with the clock at which its slot began.
unfoldable pub InTime : List Answer → Type 0
InTime [] = Unit {0}
InTime (a ∷ said) = (clock_of a < 2 ^ 62) × InTime said

abbrev pub ClocksInTime : Type 0
ClocksInTime = (L : ℕ) (s e : Holding) (cs : List Call) (told : List Answer) (xs : List Single) (said : List Answer)
    → Made L s → Row s cs told xs said e → InTime said

-- A deficit is always under L bytes: each that the value left has.
abbrev pub DeficitsSmall : Type 0
DeficitsSmall = (L : ℕ) (s e : Holding) (cs : List Call) (told : List Answer) → Made L s → Chain s cs told e
    → (p : ℕ) → get_or e.board.deficits p 0 < largest_charge L * 65536
