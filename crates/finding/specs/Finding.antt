-- WORKING DEFINITIONS: what is known of a number, on the board's list of numbers. Theorems tie them to the rules; no
-- promise of a call cites one.
use Rattle.std.specs.Prelude.{Bool, true, false, not, ◌||◌, List, ℕ, eqb, get_or, Option, Some, None}
use Rattle.base.specs.Tests.{least}

-- the first place with this number, or 64
unfoldable pub place_with : (numbers : List ℕ) (number : ℕ) → ℕ
place_with numbers number = least (λ i. eqb (get_or numbers i 0) number) 64

-- a place that is found, or none
abbrev pub found_at : (found : Bool) (p : ℕ) → Option ℕ
found_at true p = Some p
found_at false p = None

-- the place, where it is one of the 64
abbrev pub place_at : (p : ℕ) → Option ℕ
place_at p = found_at (not (eqb p 64)) p

-- where an open block has the number; a free place has number 0, which is no block's
unfoldable pub found_in : (numbers : List ℕ) (number : ℕ) → Option ℕ
found_in numbers number =
    found_at (not (eqb number 0 || eqb (place_with numbers number) 64)) (place_with numbers number)

-- by what is known of a number
abbrev pub by_found : {A : Type 0} → Option ℕ → (is_open : ℕ → A) (isUnknown : A) → A
by_found (Some p) is_open isUnknown = is_open p
by_found None is_open isUnknown = isUnknown

-- the lowest free place, or 64
unfoldable pub lowest_free : (numbers : List ℕ) → ℕ
lowest_free numbers = place_with numbers 0
