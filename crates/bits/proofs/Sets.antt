-- Laws of the set of the classes that pass a test, and of the lowest class of a set.
use mathlib.Core.Path.{◌≡◌, refl, sym, ap, ◌∙◌}
use mathlib.Core.Logic.{◌⊎◌, inl, inr}
use mathlib.Core.Bool.{Bool, true, false, cond}
use Prim.Native.Nat.{ℕ, zero, suc, ◌/◌, ◌%◌, ◌^◌, ◌<◌}
use native.Mathlib.Nat.{mod-lt, le_of_suc-le-suc, eq-or-lt_of_le, lt_of_le_of_lt}
use native.Mathlib.Decide.{ℕ_discrete}
use native.Mathlib.Omega.{arith}
use lib.Count.{count_trailing_zeros, under}
use lib.Dec.{eqb, lit<}
use Rattle.base.specs.Sums.{one_if}
use Rattle.base.specs.Tests.{least}
use Rattle.bits.specs.Sets.{bit_at, in_set, with_bit, without_bit, set_below}
use Rattle.bits.specs.Laws.{SetBit}
use Rattle.bits.proofs.Bits.{with_own, with_other, with_lt, without_own, without_other, without_le}
use Rattle.bits.proofs.Bits.{bits_ext, bit_high, bit_zero, bit_suc, two_cases}

pub set_lt : (f : ℕ → Bool) (n : ℕ) → set_below n f < 2 ^ n
unfolding set_below
set_lt f zero = omega arith
set_lt f (suc n) = go (f n) (set_lt f n)
  where
    go : (t : Bool) → set_below n f < 2 ^ n → cond t (with_bit (set_below n f) n) (set_below n f) < 2 ^ suc n
    go true h = with_lt (suc n) (set_below n f) n (omega arith) (omega arith)
    go false h = omega arith

-- bit k is set exactly when class k passes
pub set_bit : SetBit
unfolding set_below
set_bit f zero k h = absurd (omega arith)
set_bit f (suc n) k h = go (f n) refl (eq-or-lt_of_le (le_of_suc-le-suc h)) (λ g. set_bit f n k g)
  where
    go : (t : Bool) → f n ≡ t → (k ≡ n) ⊎ (k < n) → (k < n → bit_at (set_below n f) k ≡ one_if (f k))
        → bit_at (cond t (with_bit (set_below n f) n) (set_below n f)) k ≡ one_if (f k)
    go true e (inl q) rest = rw (q, e) (with_own (set_below n f) n)
    go true e (inr g) rest = with_other (set_below n f) n k (λ q. omega arith) ∙ rest g
    go false e (inl q) rest = rw (q, e) (bit_high n (set_below n f) n (set_lt f n) (omega arith))
    go false e (inr g) rest = rest g

-- a number below 2 ^ n whose bits are f's is f's set
pub set_is : (f : ℕ → Bool) (n s : ℕ) → s < 2 ^ n → ((k : ℕ) → k < n → bit_at s k ≡ one_if (f k)) → s ≡ set_below n f
set_is f n s h e = bits_ext n s (set_below n f) h (set_lt f n) (λ k l. e k l ∙ sym (set_bit f n k l))

pub set_ext : (f g : ℕ → Bool) (n : ℕ) → ((k : ℕ) → k < n → f k ≡ g k) → set_below n f ≡ set_below n g
set_ext f g n e = set_is g n (set_below n f) (set_lt f n) (λ k l. set_bit f n k l ∙ ap one_if (e k l))

-- the set with class k is the set of those that pass where k now passes, and without it of those where k no longer does
pub set_more : (f g : ℕ → Bool) (n k : ℕ) → k < n → g k ≡ true → ((j : ℕ) → (j ≡ k → ⊥) → g j ≡ f j) → with_bit (set_below n f) k ≡ set_below n g
set_more f g n k h e o = set_is g n (with_bit (set_below n f) k) (with_lt n (set_below n f) k (set_lt f n) h) bit
  where
    bit : (j : ℕ) → j < n → bit_at (with_bit (set_below n f) k) j ≡ one_if (g j)
    bit j l = go (ℕ_discrete j k)
      where
        go : Dec (j ≡ k) → bit_at (with_bit (set_below n f) k) j ≡ one_if (g j)
        go (yes q) = rw (q, e) (with_own (set_below n f) k)
        go (no q) = with_other (set_below n f) k j q ∙ set_bit f n j l ∙ ap one_if (sym (o j q))

pub set_less : (f g : ℕ → Bool) (n k : ℕ) → k < n → g k ≡ false → ((j : ℕ) → (j ≡ k → ⊥) → g j ≡ f j) → without_bit (set_below n f) k ≡ set_below n g
set_less f g n k h e o = set_is g n (without_bit (set_below n f) k) (lt_of_le_of_lt (without_le (set_below n f) k) (set_lt f n)) bit
  where
    bit : (j : ℕ) → j < n → bit_at (without_bit (set_below n f) k) j ≡ one_if (g j)
    bit j l = go (ℕ_discrete j k)
      where
        go : Dec (j ≡ k) → bit_at (without_bit (set_below n f) k) j ≡ one_if (g j)
        go (yes q) = rw (q, e) (without_own (set_below n f) k)
        go (no q) = without_other (set_below n f) k j q ∙ set_bit f n j l ∙ ap one_if (sym (o j q))

-- ---- the lowest class by the zero bits below it

-- without its lowest bit a set is another set, so this is shown of every test that tells one
first_zeros : (w set : ℕ) (told : ℕ → Bool) → ((k : ℕ) → told k ≡ in_set set k) → least told w ≡ count_trailing_zeros w set
unfolding least count_trailing_zeros
first_zeros zero set told e = refl
first_zeros (suc w) set told e =
    go (two_cases (set % 2) (mod-lt set (lit< tt))) (first_zeros w (set / 2) (λ k. told (suc k)) above)
  where
    lowest_bit : told 0 ≡ eqb (set % 2) 1
    lowest_bit = e 0 ∙ ap (λ b. eqb b 1) (bit_zero set)

    above : (k : ℕ) → told (suc k) ≡ in_set (set / 2) k
    above k = e (suc k) ∙ ap (λ b. eqb b 1) (bit_suc set k)

    go : (set % 2 ≡ 0) ⊎ (set % 2 ≡ 1) → least (λ k. told (suc k)) w ≡ count_trailing_zeros w (set / 2)
        → cond (told 0) 0 (suc (least (λ k. told (suc k)) w)) ≡ under (set % 2) (count_trailing_zeros w (set / 2))
    go (inl even) later = rw (lowest_bit, even, later)
    go (inr odd) later = rw (lowest_bit, odd)

-- the first of w classes that is in the set is as many as the zero bits that stand below it, and w where none is
pub lowest_zeros : (w set : ℕ) → least (in_set set) w ≡ count_trailing_zeros w set
lowest_zeros w set = first_zeros w set (in_set set) (λ k. refl)
