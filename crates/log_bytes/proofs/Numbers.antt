-- Laws of numbers in bytes. Assumes nothing.
use mathlib.Core.List.{List}
use Prim.Native.Nat.{ℕ, zero, suc, ◌+◌, ◌^◌, ◌<◌}
use native.Mathlib.Nat.{pow-suc}
use native.Mathlib.Omega.{arith}
use lib.Dec.{lit<}
use lib.ListN.{get_or}
use Rattle.log_bytes.specs.Format.{number_at}

-- n bytes spell a number below 256 ^ n
pub number_lt : (s : List ℕ) (at n : ℕ) → ((j : ℕ) → get_or s j 0 < 256) → number_at s at n < 256 ^ n
unfolding number_at
number_lt s at zero h = lit< tt
number_lt s at (suc n) h = rw (pow-suc 256 n) (omega (arith, number_lt s at n h, h (at + n)))
