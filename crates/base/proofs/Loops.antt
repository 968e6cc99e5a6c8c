-- What a loop has seen: a test of each number and a sum, begun, one step on, and ended early.
use mathlib.Core.Path.{◌≡◌, refl}
use mathlib.Core.Logic.{◌⊎◌, inl, inr}
use mathlib.Core.Bool.{Bool, true, false, ◌&&◌}
use Prim.Native.Nat.{ℕ, zero, suc, ◌+◌, ◌<◌}
use native.Mathlib.Nat.{le_of_suc-le-suc, eq-or-lt_of_le}
use native.Mathlib.Numerals.{add-one}
use native.Mathlib.Omega.{arith}
use Rattle.base.specs.Sums.{below}
use Rattle.base.specs.Tests.{all_below}
use Rattle.base.proofs.Tests.{and_both}

-- ---- each number below a bound passes a test

pub all_none : (t : ℕ → Bool) → all_below 0 t ≡ true
unfolding all_below
all_none t = refl

pub all_more : (t : ℕ → Bool) (n : ℕ) → all_below n t ≡ true → t n ≡ true → all_below (n + 1) t ≡ true
unfolding all_below
all_more t n h e = rw (add-one n) (and_both (all_below n t) (t n) h e)

pub all_stop : (t : ℕ → Bool) (n i : ℕ) → i < n → t i ≡ false → all_below n t ≡ false
unfolding all_below
all_stop t zero i l e = absurd (omega arith)
all_stop t (suc n) i l e = go (eq-or-lt_of_le (le_of_suc-le-suc l)) (λ g. all_stop t n i g e)
  where
    last : (a b : Bool) → b ≡ false → a && b ≡ false
    last true b h = h
    last false b h = refl

    go : (i ≡ n) ⊎ (i < n) → (i < n → all_below n t ≡ false) → all_below n t && t n ≡ false
    go (inl q) rest = last (all_below n t) (t n) (rw (← q) e)
    go (inr g) rest = rw (rest g)

-- ---- a sum

pub below_none : (f : ℕ → ℕ) → below f 0 ≡ 0
unfolding below
below_none f = refl

pub below_more : (f : ℕ → ℕ) (n : ℕ) → below f (n + 1) ≡ below f n + f n
unfolding below
below_more f n = rw (add-one n)

-- ---- the last test of a list

pub last_test : (t : Bool) → t ≡ t && true
last_test true = refl
last_test false = refl
