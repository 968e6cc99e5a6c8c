-- Laws of the class of a share, for any class.
use mathlib.Core.Path.{◌≡◌, refl, sym, ◌∙◌}
use mathlib.Core.Bool.{Bool}
use mathlib.Core.Logic.{◌⊎◌, inl, inr}
use Prim.Native.Nat.{ℕ, zero, suc, ◌+◌, ◌*◌, ◌-◌, ◌^◌, ◌≤◌, ◌<◌}
use native.Mathlib.Nat.{mul-le-mul_right, mul-lt-mul_of_pos_right, le_antisymm, pow-suc}
use native.Mathlib.Omega.{arith}
use lib.Count.{count_leading_zeros, leading_unique}
use lib.Dec.{leb}
use lib.Pow.{pow_pos, pow_mono, pow-add}
use Rattle.base.specs.Tests.{least}
use Rattle.base.proofs.Numbers.{split, true_le, false_lt}
use Rattle.base.proofs.Tests.{least_le, least_true, least_false}
use Rattle.units.specs.Classes.{IsClass, class_of}
use Rattle.units.specs.Laws.{ClassIs, ClassOnly}

abbrev reaches : ℕ → ℕ → Bool
reaches s k = leb (2 ^ (16 - k)) s

pub class_le : (s : ℕ) → class_of s ≤ 16
unfolding class_of
class_le s = least_le (reaches s) 16

class_low : (s : ℕ) → 1 ≤ s → 2 ^ (16 - class_of s) ≤ s
unfolding class_of
class_low s h = go (split 16 (least (reaches s) 16))
  where
    go : (16 ≤ least (reaches s) 16) ⊎ (least (reaches s) 16 < 16) → 2 ^ (16 - least (reaches s) 16) ≤ s
    go (inl l) = let e : least (reaches s) 16 ≡ 16 = omega (arith, least_le (reaches s) 16) in rw e (omega arith)
    go (inr l) = true_le (2 ^ (16 - least (reaches s) 16)) s (least_true (reaches s) 16 l)

class_high : (s : ℕ) → s ≤ 65536 → s < 2 ^ (17 - class_of s)
unfolding class_of
class_high s h = go (least (reaches s) 16) refl
  where
    go : (k : ℕ) → least (reaches s) 16 ≡ k → s < 2 ^ (17 - k)
    go zero e = omega arith
    go (suc k) e = let down : 17 - suc k ≡ 16 - k = omega arith in rw down (false_lt (2 ^ (16 - k)) s (least_false (reaches s) 16 k (omega arith)))

-- the class of a share in range is the class of the rules, and no other number is
pub class_is : ClassIs
class_is s l h = record { within = class_le s; low = class_low s l; high = class_high s h }

class_below : (s k m : ℕ) → IsClass k s → IsClass m s → k ≤ m
class_below s k m a b = go (split k m)
  where
    go : (k ≤ m) ⊎ (m < k) → k ≤ m
    go (inl l) = l
    go (inr l) = absurd (omega (arith, a.high, b.low, pow_mono (apart l)))
      where
        apart : m < k → 17 - k ≤ 16 - m
        apart g = omega arith

pub class_only : ClassOnly
class_only s k m a b = le_antisymm (class_below s k m a b) (class_below s m k b a)

-- ---- the same rule multiplied out: 65,536 <= s x 2^k < 131,072

power_up : (n k : ℕ) → k ≤ n → 2 ^ (n - k) * 2 ^ k ≡ 2 ^ n
power_up n k h = sym (pow-add 2 (n - k) k) ∙ (let e : n - k + k ≡ n = omega arith in rw e)

pub class_lo : (s : ℕ) → 1 ≤ s → 65536 ≤ s * 2 ^ class_of s
class_lo s h = rw (← power_up 16 (class_of s) (class_le s)) (mul-le-mul_right (2 ^ class_of s) (class_low s h))

pub class_hi : (s : ℕ) → s ≤ 65536 → s * 2 ^ class_of s < 131072
class_hi s h = rw (← power_up 17 (class_of s) (omega (arith, class_le s))) (mul-lt-mul_of_pos_right (class_high s h) (pow_pos (class_of s)))

-- ---- the class by the zero bits in front of a share

-- a share of class k has k + 15 of them: with the 17 - k bits from its highest 1 on they make 32
pub class_zeros : (k s : ℕ) → IsClass k s → count_leading_zeros 32 s ≡ k + 15
class_zeros k s c = sym (leading_unique 32 s (k + 15) (17 - k) (omega (arith, c.within)) c.high reaches_top)
  where
    reaches_top : 2 ^ (17 - k) ≤ 2 * s + 1
    reaches_top = let up : 17 - k ≡ suc (16 - k) = omega (arith, c.within) in rw (up, pow-suc) (omega (arith, c.low))
