-- Whole numbers as an i64 holds them: the difference of two counts, and the size of a number. Assumes nothing.
use mathlib.Core.Path.{◌≡◌, ap₂, ◌∙◌}
use mathlib.Core.Bool.{Bool, true, false, cond}
use Prim.Native.Nat.{ℕ, zero, suc, ◌-◌, ◌^◌, ◌≤◌, ◌<◌}
use native.Mathlib.Omega.{arith}
use lib.Dec.{ltb}
use lib.IntN.{ℤ, pos, negsuc, ◌-ℤ◌, nat_abs}
use lib.Signed.{mag}
use mir.Syntax.{w64}
use mir.Val.{SFits, to_z, of_z}
use mir.Facts.{to_z_pos, to_z-of_z}

-- ---- the difference of two counts

mag_sub : (h a b : ℕ) → a < h → b < h → mag (pos a -ℤ pos b) < h
mag_sub h a zero p q = omega arith
mag_sub h a (suc n) p q = go (ltb a (suc n))
  where
    go : (t : Bool) → mag (cond t (negsuc (suc n - suc a)) (pos (a - suc n))) < h
    go true = omega arith
    go false = omega arith

module _ (a b : ℕ) (p : a ≤ 2 ^ 62) (q : b ≤ 2 ^ 62) where
  as_pos : to_z w64 a -ℤ to_z w64 b ≡ pos a -ℤ pos b
  as_pos = ap₂ ◌-ℤ◌ (to_z_pos w64 {n = a} (omega arith)) (to_z_pos w64 {n = b} (omega arith))

  pub sub_fits : SFits w64 (to_z w64 a -ℤ to_z w64 b)
  sub_fits = rw as_pos (record { sfits = mag_sub (2 ^ 63) a b (omega arith) (omega arith) })

  pub sub_is : to_z w64 (of_z w64 (to_z w64 a -ℤ to_z w64 b)) ≡ pos a -ℤ pos b
  sub_is = to_z-of_z sub_fits ∙ as_pos

-- ---- the size of an i64

pub size_most : (d : ℤ) → SFits w64 d → nat_abs d ≤ 2 ^ 63
size_most (pos n) f = omega (arith, f.sfits)
size_most (negsuc n) f = omega (arith, f.sfits)
