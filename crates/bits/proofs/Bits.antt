-- Laws of the bits of one number: set, cleared, and all of them.
use mathlib.Core.Path.{◌≡◌, refl, sym, ap, ◌∙◌}
use mathlib.Core.Logic.{◌⊎◌, inl, inr, ◌≢◌}
use Prim.Native.Nat.{ℕ, zero, suc, ◌+◌, ◌*◌, ◌/◌, ◌%◌, ◌^◌, ◌≤◌, ◌<◌}
use native.Mathlib.Nat.{one-mul, add-div_right, zero-mul, sub-zero, lt_of_le_of_lt}
use native.Mathlib.Decide.{ℕ_discrete}
use mir.Syntax.{w32}
use Rattle.std.specs.Int.{bit_not}
use native.Mathlib.Omega.{arith}
use lib.Dec.{lit<}
use lib.Pow.{pow_pos, pow-lt, shl_exact}
use lib.Bits.{bit_and, or_disjoint, and_le_l, or_lt}
use Rattle.std.proofs.lemmas.Nat.Bits.{bit_at-lt, bit_at_or, bit_at-pow_same, bit_at-pow_other, and_pow, bit_at_lowest, bit_at-suc, same_from_bits_below}
use Rattle.std.proofs.lemmas.Nat.Bits.{bit_at_above, bit_at_clear_same, bit_at_clear_other}
use Rattle.bits.specs.Sets.{bit_at, with_bit, without_bit}
use Rattle.bits.specs.Laws.{WithOwn, WithOther, WithoutOwn, WithoutOther}

pub two_cases : (a : ℕ) → a < 2 → (a ≡ 0) ⊎ (a ≡ 1)
two_cases zero h = inl refl
two_cases (suc zero) h = inr refl
two_cases (suc (suc a)) h = absurd (omega arith)

bit_cases : (x k : ℕ) → (bit_at x k ≡ 0) ⊎ (bit_at x k ≡ 1)
unfolding bit_at
bit_cases x k = two_cases _ (bit_at-lt x k)

-- ---- a bit is set

pub with_own : WithOwn
unfolding bit_at with_bit
with_own x k = bit_at_or x (2 ^ k) k ∙ omega (arith, bit_at-pow_same k, bit_at-lt x k)

pub with_other : WithOther
unfolding bit_at with_bit
with_other x k j ne = bit_at_or x (2 ^ k) j ∙ omega (arith, bit_at-pow_other k j ne)

pub with_lt : (w x k : ℕ) → x < 2 ^ w → k < w → with_bit x k < 2 ^ w
unfolding with_bit
with_lt w x k h l = or_lt w x (2 ^ k) h (pow-lt l)

-- ---- a bit is cleared

and_power : (x k : ℕ) → bit_and x (2 ^ k) ≡ bit_at x k * 2 ^ k
unfolding bit_at
and_power x k = and_pow x k

-- a number without bit k: itself where it has no bit k, and with the bit again itself where it has
without_none : (x k : ℕ) → bit_at x k ≡ 0 → without_bit x k ≡ x
unfolding without_bit
without_none x k e = rw (and_power x k, e, zero-mul) (sub-zero x)

without_some : (x k : ℕ) → bit_at x k ≡ 1 → x ≡ without_bit x k + 2 ^ k
unfolding without_bit
without_some x k e =
    let l = and_le_l x (2 ^ k) in
    let s : bit_and x (2 ^ k) ≡ 2 ^ k = and_power x k ∙ ap (λ (n : ℕ). n * 2 ^ k) e ∙ one-mul (2 ^ k) in
    omega arith

-- adding 2^k to y turns bit k round
odd_next : (n : ℕ) → (n + 1) % 2 ≡ 1 → n % 2 ≡ 0
odd_next n h = omega arith

add_power : (y k : ℕ) → bit_at (y + 2 ^ k) k ≡ 1 → bit_at y k ≡ 0
unfolding bit_at
add_power y k h = odd_next (y / 2 ^ k) (rw (add-div_right y (pow_pos k)) at h)

pub without_own : WithoutOwn
without_own x k = go (bit_cases x k)
  where
    go : (bit_at x k ≡ 0) ⊎ (bit_at x k ≡ 1) → bit_at (without_bit x k) k ≡ 0
    go (inl e) = rw (without_none x k e) e
    go (inr e) = add_power (without_bit x k) k (ap (λ (n : ℕ). bit_at n k) (sym (without_some x k e)) ∙ e)

-- to add 2^k to what has no bit k is to set it
add_is : (y k : ℕ) → bit_at y k ≡ 0 → y + 2 ^ k ≡ with_bit y k
unfolding with_bit
add_is y k e = sym (or_disjoint y (2 ^ k) (and_power y k ∙ ap (λ (n : ℕ). n * 2 ^ k) e ∙ zero-mul (2 ^ k)))

pub without_other : WithoutOther
without_other x k j ne = go (bit_cases x k)
  where
    go : (bit_at x k ≡ 0) ⊎ (bit_at x k ≡ 1) → bit_at (without_bit x k) j ≡ bit_at x j
    go (inl e) = rw (without_none x k e)
    go (inr e) =
        let q = without_some x k e ∙ add_is (without_bit x k) k (without_own x k) in
        sym (ap (λ (n : ℕ). bit_at n j) q ∙ with_other (without_bit x k) k j ne)

pub without_le : (x k : ℕ) → without_bit x k ≤ x
unfolding without_bit
without_le x k = omega arith

-- ---- all bits of a number

pub bit_zero : (n : ℕ) → bit_at n 0 ≡ n % 2
unfolding bit_at
bit_zero n = bit_at_lowest n

pub bit_suc : (n j : ℕ) → bit_at n (suc j) ≡ bit_at (n / 2) j
unfolding bit_at
bit_suc n j = bit_at-suc n j

-- two numbers below 2 ^ w with the same bits are one
pub bits_ext : (w a b : ℕ) → a < 2 ^ w → b < 2 ^ w → ((k : ℕ) → k < w → bit_at a k ≡ bit_at b k) → a ≡ b
unfolding bit_at
bits_ext w a b h g e = same_from_bits_below w a b h g e

pub bit_high : (w a k : ℕ) → a < 2 ^ w → w ≤ k → bit_at a k ≡ 0
unfolding bit_at
bit_high w a k h g = bit_at_above a w k h g

-- ---- what the machine gives, in 32 bits

pub shl_one : (k : ℕ) → k < 32 → (1 * 2 ^ k) % 2 ^ 32 ≡ 2 ^ k
shl_one k h = shl_exact 1 k 32 (lit< tt) (omega arith) ∙ one-mul (2 ^ k)

cleared : (x k : ℕ) → ℕ
cleared x k = bit_and x (bit_not w32 (1 * 2 ^ k % 2 ^ 32))

cleared_own : (x k : ℕ) → k < 32 → bit_at (cleared x k) k ≡ 0
unfolding bit_at cleared
cleared_own x k h = bit_at_clear_same w32 x k h

cleared_other : (x k i : ℕ) → k < 32 → i < 32 → i ≢ k → bit_at (cleared x k) i ≡ bit_at x i
unfolding bit_at cleared
cleared_other x k i h g ne = bit_at_clear_other w32 x k h i g ne

cleared_bit : (x k i : ℕ) → k < 32 → i < 32 → Dec (i ≡ k) → bit_at (cleared x k) i ≡ bit_at (without_bit x k) i
cleared_bit x k i h g (yes e) = rw e (cleared_own x k h ∙ sym (without_own x k))
cleared_bit x k i h g (no ne) = cleared_other x k i h g ne ∙ sym (without_other x k i ne)

cleared_lt : (x k : ℕ) → x < 2 ^ 32 → cleared x k < 2 ^ 32
unfolding cleared
cleared_lt x k l = omega (arith, and_le_l x (bit_not w32 (1 * 2 ^ k % 2 ^ 32)))

-- all bits but k
pub clear_is : (x k : ℕ) → x < 2 ^ 32 → k < 32 → bit_and x (bit_not w32 (1 * 2 ^ k % 2 ^ 32)) ≡ without_bit x k
unfolding cleared
clear_is x k l h =
    bits_ext 32 (cleared x k) (without_bit x k) (cleared_lt x k l) (lt_of_le_of_lt (without_le x k) l) (λ i g. cleared_bit x k i h g (ℕ_discrete i k))
