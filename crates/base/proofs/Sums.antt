-- Laws of sums.
use mathlib.Core.Path.{◌≡◌, refl}
use mathlib.Core.Bool.{Bool, true, false}
use mathlib.Core.Logic.{◌⊎◌, inl, inr, ◌≢◌}
use mathlib.Core.List.{List, [], ◌∷◌}
use Prim.Native.Nat.{ℕ, zero, suc, ◌+◌, ◌*◌, ◌≤◌, ◌<◌}
use native.Mathlib.Omega.{arith}
use native.Mathlib.Decide.{ℕ_discrete}
use lib.ListN.{length, get_or, set}
use Rattle.base.specs.Sums.{one_if, sum, below}
use Rattle.base.proofs.Numbers.{split}

pub one_if_le : (b : Bool) → one_if b ≤ 1
one_if_le true = omega arith
one_if_le false = omega arith

pub one_if_true : (b : Bool) → 1 ≤ one_if b → b ≡ true
one_if_true true h = refl
one_if_true false h = absurd (omega arith)

module _ {A : Type 0} where
  pub sum_le : (f g : A → ℕ) (d : A) (l : List A) → ((i : ℕ) → f (get_or l i d) ≤ g (get_or l i d)) → sum f l ≤ sum g l
  unfolding sum
  sum_le f g d [] h = omega arith
  sum_le f g d (x ∷ xs) h = omega (arith, h 0, sum_le f g d xs (λ i. h (suc i)))

  pub sum_add : (f g : A → ℕ) (l : List A) → sum (λ x. f x + g x) l ≡ sum f l + sum g l
  unfolding sum
  sum_add f g [] = refl
  sum_add f g (x ∷ xs) = omega (arith, sum_add f g xs)

  pub sum_mul : (n : ℕ) (f : A → ℕ) (l : List A) → sum (λ x. n * f x) l ≡ n * sum f l
  unfolding sum
  sum_mul n f [] = omega arith
  sum_mul n f (x ∷ xs) = omega (arith, sum_mul n f xs)

  pub sum_zero : (f : A → ℕ) (d : A) (l : List A) → ((i : ℕ) → f (get_or l i d) ≡ 0) → sum f l ≡ 0
  unfolding sum
  sum_zero f d [] h = refl
  sum_zero f d (x ∷ xs) h = omega (arith, h 0, sum_zero f d xs (λ i. h (suc i)))

  pub sum_at : (f : A → ℕ) (d : A) (l : List A) (p : ℕ) → p < length l → f (get_or l p d) ≤ sum f l
  unfolding sum
  sum_at f d [] p h = omega arith
  sum_at f d (x ∷ xs) zero h = omega arith
  sum_at f d (x ∷ xs) (suc p) h = omega (arith, sum_at f d xs p (omega arith))

  pub sum_set : (f : A → ℕ) (d : A) (l : List A) (p : ℕ) (y : A) → p < length l → sum f (set l p y) + f (get_or l p d) ≡ sum f l + f y
  unfolding sum
  sum_set f d [] p y h = omega arith
  sum_set f d (x ∷ xs) zero y h = omega arith
  sum_set f d (x ∷ xs) (suc p) y h = omega (arith, sum_set f d xs p y (omega arith))

  -- an inequality that holds for each element, with both sides changed, holds for the sums
  pub sum_trade : (f g f' g' : A → ℕ) (d : A) (l : List A)
      → ((i : ℕ) → f' (get_or l i d) + g (get_or l i d) ≤ g' (get_or l i d) + f (get_or l i d))
      → sum f' l + sum g l ≤ sum g' l + sum f l
  unfolding sum
  sum_trade f g f' g' d [] h = omega arith
  sum_trade f g f' g' d (x ∷ xs) h = omega (arith, h 0, sum_trade f g f' g' d xs (λ i. h (suc i)))

pub below_le : (f g : ℕ → ℕ) (n : ℕ) → ((j : ℕ) → j < n → f j ≤ g j) → below f n ≤ below g n
unfolding below
below_le f g zero h = omega arith
below_le f g (suc n) h = omega (arith, h n (omega arith), below_le f g n (λ j l. h j (omega arith)))

pub below_zero : (f : ℕ → ℕ) (n : ℕ) → ((j : ℕ) → j < n → f j ≡ 0) → below f n ≡ 0
unfolding below
below_zero f zero h = refl
below_zero f (suc n) h = omega (arith, h n (omega arith), below_zero f n (λ j l. h j (omega arith)))

pub below_add : (f g : ℕ → ℕ) (n : ℕ) → below (λ j. f j + g j) n ≡ below f n + below g n
unfolding below
below_add f g zero = refl
below_add f g (suc n) = omega (arith, below_add f g n)

pub below_ext : (f g : ℕ → ℕ) (n : ℕ) → ((j : ℕ) → j < n → f j ≡ g j) → below f n ≡ below g n
unfolding below
below_ext f g zero h = refl
below_ext f g (suc n) h = omega (arith, h n (omega arith), below_ext f g n (λ j l. h j (omega arith)))

pub below_mono : (f : ℕ → ℕ) (m n : ℕ) → m ≤ n → below f m ≤ below f n
unfolding below
below_mono f m zero h = let e : m ≡ 0 = omega arith in rw e (omega arith)
below_mono f m (suc n) h = go (below_mono f m n) (split m n)
  where
    go : (m ≤ n → below f m ≤ below f n) → (m ≤ n) ⊎ (n < m) → below f m ≤ below f n + f n
    go r (inl l) = omega (arith, r l)
    go r (inr l) = let e : m ≡ suc n = omega arith in rw e (omega arith)

-- the sum of a function that differs at one number
pub below_one : (f g : ℕ → ℕ) (n p : ℕ) → p < n → ((j : ℕ) → j ≢ p → f j ≡ g j) → below f n + g p ≡ below g n + f p
unfolding below
below_one f g zero p l h = omega arith
below_one f g (suc n) p l h = go (below_one f g n p) (ℕ_discrete n p)
  where
    go : (p < n → ((j : ℕ) → j ≢ p → f j ≡ g j) → below f n + g p ≡ below g n + f p) → Dec (n ≡ p) → below f n + f n + g p ≡ below g n + g n + f p
    go r (yes e) = rw e (omega (arith, below_ext f g p (λ j k. h j (omega arith))))
    go r (no e) = omega (arith, r (omega arith) h, h n e)

-- a sum by its first term
pub below_first : (f : ℕ → ℕ) (n : ℕ) → below f (suc n) ≡ f 0 + below (λ i. f (suc i)) n
unfolding below
below_first f zero = omega arith
below_first f (suc n) = omega (arith, below_first f n)
