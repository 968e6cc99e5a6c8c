-- A set of classes as the bits of one number: class k is in the set exactly when bit k is 1.
use Rattle.std.specs.Prelude.{Bool, cond, ℕ, zero, suc, ◌-◌, ◌/◌, ◌%◌, ◌^◌, eqb}
use Rattle.std.specs.Int.Bits.{bit_or, bit_and}
use Rattle.base.specs.Tests.{least}

-- bit k of a number
unfoldable pub bit_at : (set k : ℕ) → ℕ
bit_at set k = set / 2 ^ k % 2

-- class k is in the set
abbrev pub in_set : (set k : ℕ) → Bool
in_set set k = eqb (bit_at set k) 1

-- the set with class k, and without it
unfoldable pub with_bit : (set k : ℕ) → ℕ
with_bit set k = bit_or set (2 ^ k)

unfoldable pub without_bit : (set k : ℕ) → ℕ
without_bit set k = set - bit_and set (2 ^ k)

-- the lowest class of a set of 32 bits, and 32 where it has none
unfoldable pub lowest_bit : (set : ℕ) → ℕ
lowest_bit set = least (in_set set) 32

-- the set of the classes below n that pass a test
unfoldable pub set_below : (n : ℕ) (test : ℕ → Bool) → ℕ
set_below zero test = 0
set_below (suc n) test = cond (test n) (with_bit (set_below n test) n) (set_below n test)
