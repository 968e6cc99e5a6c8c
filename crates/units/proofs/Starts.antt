-- Laws of the starts of a class, for any class.
use mathlib.Core.Path.{◌≡◌, refl, sym, ◌∙◌}
use mathlib.Core.Logic.{◌⊎◌, inl, inr}
use Prim.Native.Nat.{ℕ, suc, ◌+◌, ◌*◌, ◌/◌, ◌^◌, ◌≤◌, ◌<◌}
use native.Mathlib.Nat.{lt-div-mul-add, div-mul-le_self, mul-le-mul_right, lt_of_mul-lt-mul_right, mul_assoc, le_dest, add_comm, le_antisymm}
use native.Mathlib.Omega.{arith}
use lib.Pow.{pow_pos, pow-add}
use Rattle.base.proofs.Numbers.{split}
use Rattle.units.specs.Classes.{Start, next_start}
use Rattle.units.specs.Laws.{NextStartIs, NextStartOnly, StartDown, NextAlign}

-- ---- the next start is a start, above the clock, at most one interval away

pub next_gt : (k t : ℕ) → t < next_start k t
unfolding next_start
next_gt k t = omega (arith, lt-div-mul-add {a = t} (pow_pos k))

pub next_le : (k t : ℕ) → next_start k t ≤ t + 2 ^ k
unfolding next_start
next_le k t = omega (arith, div-mul-le_self t (2 ^ k))

pub next_start_lem : (k t : ℕ) → Start k (next_start k t)
unfolding Start next_start
next_start_lem k t = (t / 2 ^ k + 1, refl)

-- ---- two starts, the first below the second, are at least an interval apart

mul_gap : (a b p : ℕ) → a * p < b * p → a * p + p ≤ b * p
mul_gap a b p h = omega (arith, mul-le-mul_right p (lt_of_mul-lt-mul_right p h))

pub start_gap : (k m n : ℕ) → Start k m → Start k n → m < n → m + 2 ^ k ≤ n
unfolding Start
start_gap k m n (q, e) (r, f) h = rw (e, f) (mul_gap q r (2 ^ k) (rw (← e, ← f) h))

pub start_add : (k m : ℕ) → Start k m → Start k (m + 2 ^ k)
unfolding Start
start_add k m (q, e) = (q + 1, omega arith)

-- ---- no start stands between the clock and the next start

pub next_least : (k t m : ℕ) → Start k m → t < m → next_start k t ≤ m
next_least k t m s h = go (split (next_start k t) m)
  where
    go : (next_start k t ≤ m) ⊎ (m < next_start k t) → next_start k t ≤ m
    go (inl l) = l
    go (inr l) = omega (arith, start_gap k m (next_start k t) s (next_start_lem k t) l, next_le k t)

-- so it is the next start of the rules, and no other number is
pub next_start_is : NextStartIs
next_start_is k t = record { start = next_start_lem k t; above = next_gt k t; first = next_least k t }

pub next_start_only : NextStartOnly
next_start_only k t m n = le_antisymm (n.first (next_start k t) (next_start_lem k t) (next_gt k t)) (next_least k t m n.start n.above)

-- ---- the next start as the clock goes on

pub next_mono : (k c d : ℕ) → c ≤ d → next_start k c ≤ next_start k d
next_mono k c d h = next_least k c (next_start k d) (next_start_lem k d) (omega (arith, next_gt k d))

pub next_stay : (k c d : ℕ) → c ≤ d → d < next_start k c → next_start k d ≡ next_start k c
next_stay k c d h l = le_antisymm (next_least k d (next_start k c) (next_start_lem k c) l) (next_mono k c d h)

pub next_at : (k c : ℕ) → Start k c → next_start k c ≡ c + 2 ^ k
next_at k c s = le_antisymm (next_le k c) (start_gap k c (next_start k c) s (next_start_lem k c) (next_gt k c))

pub next_is : (k c m : ℕ) → Start k m → c < m → m ≤ next_start k c → m ≡ next_start k c
next_is k c m s h l = le_antisymm l (next_least k c m s h)

pub next_suc : (k c : ℕ) → Start k (suc c) → next_start k c ≡ suc c
next_suc k c s = le_antisymm (next_least k c (suc c) s (omega arith)) (next_gt k c)

-- ---- alignment: a start of a class is a start of every lower class

pub start_down : StartDown
unfolding Start
start_down j k m h (q, e) = go (le_dest h)
  where
    go : (d : ℕ) × (j + d ≡ k) → (r : ℕ) × (m ≡ r * 2 ^ j)
    go (d, f) = (q * 2 ^ d, e ∙ rw (← f, add_comm j d, pow-add 2 d j) (sym (mul_assoc q (2 ^ d) (2 ^ j))))

pub next_align : NextAlign
next_align j k c h = next_least j c (next_start k c) (start_down j k (next_start k c) h (next_start_lem k c)) (next_gt k c)
