-- Sums: over a list, and over the numbers below a bound.
use Rattle.std.specs.Prelude.{Bool, true, false, List, [], ◌∷◌, ℕ, zero, suc, ◌+◌}

-- 1 where the test holds, and 0 where it does not
abbrev pub one_if : Bool → ℕ
one_if true = 1
one_if false = 0

module _ {A : Type 0} where
  unfoldable pub sum : (A → ℕ) → List A → ℕ
  sum f [] = 0
  sum f (x ∷ xs) = f x + sum f xs

-- f 0 + f 1 + .. + f (n - 1)
unfoldable pub below : (f : ℕ → ℕ) (n : ℕ) → ℕ
below f zero = 0
below f (suc n) = below f n + f n
