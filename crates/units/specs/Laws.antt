-- WHAT IS PROVED of classes, starts and credit, for any class k.
use Rattle.std.specs.Prelude.{◌≡◌, ℕ, ◌*◌, ◌≤◌, ◌<◌}
use Rattle.units.specs.Classes.{IsClass, class_of, Start, IsNextStart, next_start}
use Rattle.units.specs.Credit.{largest_charge, credit_of}

-- A share from 1 to 65,536 has a class, and no other.
abbrev pub ClassIs : Type 0
ClassIs = (s : ℕ) → 1 ≤ s → s ≤ 65536 → IsClass (class_of s) s

abbrev pub ClassOnly : Type 0
ClassOnly = (s k m : ℕ) → IsClass k s → IsClass m s → k ≡ m

-- Every clock has a next start above it, and no other.
abbrev pub NextStartIs : Type 0
NextStartIs = (k t : ℕ) → IsNextStart k t (next_start k t)

abbrev pub NextStartOnly : Type 0
NextStartOnly = (k t m : ℕ) → IsNextStart k t m → m ≡ next_start k t

-- A start of a class is a start of every lower class, whose next start is therefore no later.
abbrev pub StartDown : Type 0
StartDown = (j k m : ℕ) → j ≤ k → Start k m → Start j m

abbrev pub NextAlign : Type 0
NextAlign = (j k t : ℕ) → j ≤ k → next_start j t ≤ next_start k t

-- The credit of one slot is at least L bytes and less than 2L bytes.
abbrev pub CreditLeast : Type 0
CreditLeast = (L s : ℕ) → 1 ≤ s → largest_charge L * 65536 ≤ credit_of L s

abbrev pub CreditUnder : Type 0
CreditUnder = (L s : ℕ) → s ≤ 65536 → 1 ≤ largest_charge L → credit_of L s < 2 * largest_charge L * 65536
