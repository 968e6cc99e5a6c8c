-- CLASSES AND STARTS (document 01, 'Classes, starts and credit'), for any class k.
use Rattle.std.specs.Prelude.{◌≡◌, ℕ, ◌+◌, ◌-◌, ◌*◌, ◌/◌, ◌^◌, ◌≤◌, ◌<◌, leb}
use Rattle.base.specs.Tests.{least}

-- A share s has the class k for which 2^(16-k) <= s < 2^(17-k); k runs from 0 to 16.
pub record IsClass (k s : ℕ) : Type 0 where
  pub within : k ≤ 16
  pub low : 2 ^ (16 - k) ≤ s
  pub high : s < 2 ^ (17 - k)

-- So it is the first k, from 0 on, at which the share reaches 2^(16-k).
unfoldable pub class_of : (share : ℕ) → ℕ
class_of share = least (λ k. leb (2 ^ (16 - k)) share) 16

-- Class k has starts at every multiple of 2^k.
unfoldable pub Start : (k time : ℕ) → Type 0
Start k time = (q : ℕ) × (time ≡ q * 2 ^ k)

-- The next start above t is the smallest multiple greater than t.
pub record IsNextStart (k t m : ℕ) : Type 0 where
  pub start : Start k m
  pub above : t < m
  pub first : (n : ℕ) → Start k n → t < n → m ≤ n

unfoldable pub next_start : (k clock : ℕ) → ℕ
next_start k clock = (clock / 2 ^ k + 1) * 2 ^ k
