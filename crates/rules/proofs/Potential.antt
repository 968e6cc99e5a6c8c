-- The bytes that may still go to others before a block's slot begins.
use mathlib.Core.Path.{◌≡◌}
use Prim.Native.Nat.{ℕ, suc, ◌+◌, ◌*◌, ◌-◌, ◌^◌, ◌≤◌}
use native.Mathlib.Nat.{mul-le-mul_right, suc-mul}
use native.Mathlib.Omega.{arith}
use Rattle.units.specs.Classes.{next_start}
use Rattle.units.proofs.Starts.{next_gt, next_le}
use Rattle.rules.proofs.Line.{Seat, class, SeatOk}

-- the slots that may begin before the block's own, from clock c, d = 1 if a slot is open at c
unfoldable pub slots_left : ℕ → ℕ → Seat → ℕ
slots_left c d s = s.ready + 2 ^ class s - suc (c + d)

unfoldable pub ahead : ℕ → ℕ → ℕ → Seat → ℕ
ahead most c d s = slots_left c d s * most

-- another block's slot begins, and sends at most `most`
pub ahead_begin : (most left c : ℕ) (s : Seat) → SeatOk c 1 s → left ≤ most → left + ahead most c 1 s ≤ ahead most c 0 s
unfolding ahead slots_left
ahead_begin most left c s ok h =
    let n : s.ready + 2 ^ class s - suc (c + 0) ≡ suc (s.ready + 2 ^ class s - suc (c + 1)) = omega (arith, ok.fresh) in
    rw n (omega (arith, suc-mul (s.ready + 2 ^ class s - suc (c + 1)) most))

pub ahead_tick : (most c : ℕ) (s : Seat) → ahead most (suc c) 0 s ≡ ahead most c 1 s
unfolding ahead slots_left
ahead_tick most c s = let n : s.ready + 2 ^ class s - suc (suc c + 0) ≡ s.ready + 2 ^ class s - suc (c + 1) = omega arith in rw n

pub ahead_jump : (most c c' d : ℕ) (s : Seat) → c ≤ c' → ahead most c' d s ≤ ahead most c d s
unfolding ahead slots_left
ahead_jump most c c' d s h = mul-le-mul_right most (omega arith)

-- where a block has just joined at clock c
pub ahead_join : (most left c d : ℕ) (s : Seat) → s.ready ≡ next_start (class s) c → d ≤ 1 → left ≤ d * most
    → left + ahead most c d s ≤ (2 ^ suc (class s) - 1) * most
unfolding ahead slots_left
ahead_join most left c d s e d1 h =
    let n : d + (s.ready + 2 ^ class s - suc (c + d)) ≤ 2 ^ suc (class s) - 1 = rw e (omega (arith, next_gt (class s) c, next_le (class s) c)) in
    omega (arith, mul-le-mul_right most n)
