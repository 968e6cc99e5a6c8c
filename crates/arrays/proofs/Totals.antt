-- The sum of a list, as sums over other lists and over numbers are written.
use mathlib.Core.Path.{◌≡◌, refl, ap, ◌∙◌}
use mathlib.Core.List.{List, [], ◌∷◌, map}
use Prim.Native.Nat.{ℕ, ◌+◌, ◌<◌}
use lib.ListN.{length, get_or}
use Rattle.std.proofs.lemmas.List.{map-id}
use Rattle.base.specs.Sums.{sum, below}
use Rattle.base.proofs.Sums.{below_ext, below_first}
use Rattle.arrays.specs.Lists.{total_of}

-- of one field of each element
pub total_map : {A : Type 0} (f : A → ℕ) (l : List A) → total_of (map f l) ≡ sum f l
unfolding total_of sum below
total_map f [] = refl
total_map f (x ∷ xs) = below_first (λ i. get_or (f x ∷ map f xs) i 0) (length (map f xs)) ∙ ap (λ (r : ℕ). f x + r) (total_map f xs)

-- of n numbers that a function gives
pub total_below : (l : List ℕ) (n : ℕ) (f : ℕ → ℕ) → length l ≡ n → ((i : ℕ) → i < n → get_or l i 0 ≡ f i) → total_of l ≡ below f n
unfolding total_of
total_below l n f e h = ap (below (λ i. get_or l i 0)) e ∙ below_ext (λ i. get_or l i 0) f n h

-- of numbers that are summed as they are
pub total_plain : (r : ℕ) (l : List ℕ) → r ≡ total_of (map (λ (n : ℕ). n) l) → r ≡ total_of l
total_plain r l e = e ∙ ap total_of (map-id l)
