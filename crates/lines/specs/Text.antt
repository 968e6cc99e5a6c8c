-- Texts, and what writing one does.
use Rattle.std.specs.Prelude.{cond, ◌≡◌, ◌⊎◌, List, [], ◌∷◌, ◌++◌, ℕ, zero, suc, ◌+◌, ◌-◌, ◌*◌, ◌/◌, ◌%◌, ◌≤◌, ◌<◌, ltb}
use Rattle.std.specs.Prelude.{length, take, drop}
use Rattle.std.proofs.lemmas.List.Edits.{sets}

-- Numbers are decimal with no zero in front: the last digits of n, of which there are at most so many.
unfoldable pub decimal_in : (most n : ℕ) → List ℕ
decimal_in zero n = []
decimal_in (suc most) n = cond (ltb n 10) ((48 + n % 10) ∷ []) (decimal_in most (n / 10) ++ ((48 + n % 10) ∷ []))

-- A number has no more digits than one more than itself.
unfoldable pub decimal : (n : ℕ) → List ℕ
decimal n = decimal_in (suc n) n

-- Back from a text: every byte of it is a digit; none but 0 itself has a zero in front; and the number that the digits
-- spell.
abbrev pub Digits : List ℕ → Type 0
Digits [] = Unit {0}
Digits (d ∷ ds) = ((48 ≤ d) × (d < 58)) × Digits ds

abbrev pub Plain : List ℕ → Type 0
Plain [] = ⊥
Plain (d ∷ ds) = (48 < d) ⊎ ((d ≡ 48) × (ds ≡ []))

unfoldable pub number_on : (before : ℕ) (digits : List ℕ) → ℕ
number_on before [] = before
number_on before (d ∷ ds) = number_on (before * 10 + (d - 48)) ds

abbrev pub number_of : (digits : List ℕ) → ℕ
number_of digits = number_on 0 digits

-- Each number after a space, which is byte 32.
unfoldable pub columns : List ℕ → List ℕ
columns [] = []
columns (n ∷ ns) = 32 ∷ (decimal n ++ columns ns)

-- A line is a word and its numbers, and ends with one byte 10.
unfoldable pub line_of : (word numbers : List ℕ) → List ℕ
line_of word numbers = word ++ (columns numbers ++ (10 ∷ []))

-- The text stands in the list from an offset on, all else is as it was, and next is the offset after it.
pub record Written (before : List ℕ) (at : ℕ) (text : List ℕ) (next : ℕ) (after : List ℕ) : Type 0 where
  pub ends : next ≡ at + length text
  pub list : after ≡ sets before at text

-- The first bytes are exactly the line, and all others are as they were.
pub record Line (before line : List ℕ) (count : ℕ) (after : List ℕ) : Type 0 where
  pub counts : count ≡ length line
  pub text : take count after ≡ line
  pub rest : drop count after ≡ drop count before
