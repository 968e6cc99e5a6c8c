-- WHAT IS PROVED of class sets: a class is put in and taken out alone, and a set has exactly the classes that pass.
use Rattle.std.specs.Prelude.{◌≡◌, ◌≢◌, Bool, ℕ, ◌<◌}
use Rattle.base.specs.Sums.{one_if}
use Rattle.bits.specs.Sets.{bit_at, with_bit, without_bit, set_below}

-- The set with class k has class k, and every other class as before.
abbrev pub WithOwn : Type 0
WithOwn = (set k : ℕ) → bit_at (with_bit set k) k ≡ 1

abbrev pub WithOther : Type 0
WithOther = (set k j : ℕ) → j ≢ k → bit_at (with_bit set k) j ≡ bit_at set j

-- The set without class k has not class k, and every other class as before.
abbrev pub WithoutOwn : Type 0
WithoutOwn = (set k : ℕ) → bit_at (without_bit set k) k ≡ 0

abbrev pub WithoutOther : Type 0
WithoutOther = (set k j : ℕ) → j ≢ k → bit_at (without_bit set k) j ≡ bit_at set j

-- Bit k is set exactly when class k is so.
abbrev pub SetBit : Type 0
SetBit = (passes : ℕ → Bool) (n k : ℕ) → k < n → bit_at (set_below n passes) k ≡ one_if (passes k)
