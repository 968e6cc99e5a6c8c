-- Laws of tests over the numbers below a bound.
use mathlib.Core.Path.{◌≡◌, refl, sym, ◌∙◌}
use mathlib.Core.Bool.{Bool, true, false, cond, ◌&&◌, true≢false, false≢true}
use mathlib.Core.Logic.{◌⊎◌, inl, inr}
use Prim.Native.Nat.{ℕ, zero, suc, ◌≤◌, ◌<◌}
use native.Mathlib.Nat.{eq-or-lt_of_le, le_of_suc-le-suc}
use native.Mathlib.Omega.{arith}
use Rattle.base.specs.Tests.{all_below, least}
use Rattle.base.proofs.Numbers.{split}

-- ---- both of two tests

pub and_left : (a b : Bool) → a && b ≡ true → a ≡ true
and_left true b h = refl
and_left false b h = h

pub and_right : (a b : Bool) → a && b ≡ true → b ≡ true
and_right true b h = h
and_right false b h = absurd (false≢true h)

pub and_both : (a b : Bool) → a ≡ true → b ≡ true → a && b ≡ true
and_both a b p q = rw (p, q)

-- ---- every number below a bound

pub all_at : (t : ℕ → Bool) (n i : ℕ) → all_below n t ≡ true → i < n → t i ≡ true
unfolding all_below
all_at t zero i h l = absurd (omega arith)
all_at t (suc n) i h l = go (eq-or-lt_of_le (le_of_suc-le-suc l)) (λ g. all_at t n i (and_left (all_below n t) (t n) h) g)
  where
    go : (i ≡ n) ⊎ (i < n) → (i < n → t i ≡ true) → t i ≡ true
    go (inl e) rest = rw e (and_right (all_below n t) (t n) h)
    go (inr g) rest = rest g

pub all_intro : (t : ℕ → Bool) (n : ℕ) → ((i : ℕ) → i < n → t i ≡ true) → all_below n t ≡ true
unfolding all_below
all_intro t zero h = refl
all_intro t (suc n) h = and_both (all_below n t) (t n) (all_intro t n (λ i l. h i (omega arith))) (h n (omega arith))

-- ---- the first number that passes

pub least_le : (t : ℕ → Bool) (n : ℕ) → least t n ≤ n
unfolding least
least_le t zero = omega arith
least_le t (suc n) = go (least_le (λ i. t (suc i)) n) (t 0)
  where
    go : least (λ i. t (suc i)) n ≤ n → (b : Bool) → cond b 0 (suc (least (λ i. t (suc i)) n)) ≤ suc n
    go r true = omega arith
    go r false = omega arith

-- it passes
pub least_true : (t : ℕ → Bool) (n : ℕ) → least t n < n → t (least t n) ≡ true
unfolding least
least_true t zero h = absurd (omega arith)
least_true t (suc n) h = go (least_true (λ i. t (suc i)) n) (t 0) refl h
  where
    r : ℕ
    r = least (λ i. t (suc i)) n

    go : (r < n → t (suc r) ≡ true) → (b : Bool) → t 0 ≡ b → cond b 0 (suc r) < suc n → t (cond b 0 (suc r)) ≡ true
    go f true e l = e
    go f false e l = f (omega arith)

-- and none before it does
pub least_false : (t : ℕ → Bool) (n j : ℕ) → j < least t n → t j ≡ false
unfolding least
least_false t zero j h = absurd (omega arith)
least_false t (suc n) j h = go (least_false (λ i. t (suc i)) n) (t 0) refl j h
  where
    r : ℕ
    r = least (λ i. t (suc i)) n

    go : ((i : ℕ) → i < r → t (suc i) ≡ false) → (b : Bool) → t 0 ≡ b → (i : ℕ) → i < cond b 0 (suc r) → t i ≡ false
    go f true e i l = absurd (omega arith)
    go f false e zero l = e
    go f false e (suc i) l = f i (omega arith)

-- a search that has met no number that passes, and stands at one that does
pub least_found : (t : ℕ → Bool) (n i : ℕ) → i < n → ((j : ℕ) → j < i → t j ≡ false) → t i ≡ true → least t n ≡ i
least_found t n i h none here = go (split (least t n) i)
  where
    exactly : least t n ≤ i → (i ≤ least t n) ⊎ (least t n < i) → least t n ≡ i
    exactly l (inl g) = omega arith
    exactly l (inr g) = absurd (true≢false (sym (least_true t n (omega arith)) ∙ none (least t n) g))

    go : (least t n ≤ i) ⊎ (i < least t n) → least t n ≡ i
    go (inl l) = exactly l (split i (least t n))
    go (inr g) = absurd (true≢false (sym here ∙ least_false t n i g))

pub least_none : (t : ℕ → Bool) (n : ℕ) → ((j : ℕ) → j < n → t j ≡ false) → least t n ≡ n
least_none t n none = go (split n (least t n))
  where
    go : (n ≤ least t n) ⊎ (least t n < n) → least t n ≡ n
    go (inl l) = omega (arith, least_le t n)
    go (inr g) = absurd (true≢false (sym (least_true t n g) ∙ none (least t n) g))
