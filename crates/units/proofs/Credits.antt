-- Laws of credits and charges.
use Prim.Native.Nat.{ℕ, ◌*◌, ◌^◌, ◌≤◌, ◌<◌}
use native.Mathlib.Nat.{mul-le-mul_right, mul-lt-mul_of_pos_right, lt_of_le_of_lt, mul-le-mul}
use native.Mathlib.Omega.{arith}
use lib.Dec.{lit<}
use Rattle.units.specs.Credit.{framing, charged, largest_charge, credit_of}
use Rattle.units.specs.Laws.{CreditLeast, CreditUnder}
use Rattle.units.proofs.Classes.{class_lo, class_hi}

-- the credit of a slot is at least the largest charge, and less than twice that
pub credit_least : CreditLeast
unfolding credit_of
credit_least L s h = omega (arith, mul-le-mul_right (largest_charge L) (class_lo s h))

pub credit_under : CreditUnder
unfolding credit_of
credit_under L s h p = omega (arith, mul-lt-mul_of_pos_right (class_hi s h) p)

-- ---- the numbers of the code

pub charge_small : (L : ℕ) → L ≤ 2048 → largest_charge L < 65536
unfolding framing charged largest_charge
charge_small L h = omega arith

pub credit_fits : (a m : ℕ) → a < 131072 → m < 65536 → a * m < 2 ^ 64
credit_fits a m h g = let most : a * m ≤ 131072 * 65536 = mul-le-mul (below a 131072 h) (below m 65536 g) in lt_of_le_of_lt most (lit< tt)
  where
    below : (i n : ℕ) → i < n → i ≤ n
    below i n l = omega arith
