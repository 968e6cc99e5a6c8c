-- The view of a board that demand 3 is about: shares, ready times, held shares, the clock, whether a slot is open.
use mathlib.Core.Path.{◌≡◌, refl, sym, ap, ◌∙◌}
use mathlib.Core.Bool.{Bool, true, false, cond, ◌&&◌, true≢false}
use mathlib.Core.Logic.{◌⊎◌, inl, inr, ◌≢◌}
use mathlib.Core.List.{List}
use Prim.Native.Nat.{ℕ, suc, ◌+◌, ◌*◌, ◌-◌, ◌^◌, ◌≤◌, ◌<◌}
use native.Mathlib.Nat.{mul-zero, mul-suc, le_refl, mul-le-mul_left}
use native.Mathlib.Omega.{arith}
use lib.Pow.{pow_pos}
use lib.Dec.{leb}
use lib.ListN.{length, get_or, set, get_or-eq_default}
use lib.Seq.{get_or-set_same, get_or-set_other}
use native.Mathlib.Decide.{ℕ_discrete}
use Rattle.base.proofs.Numbers.{split, leb_yes, leb_no}
use Rattle.base.specs.Sums.{one_if, sum, below}
use Rattle.base.proofs.Sums.{sum_le, sum_add, sum_mul, sum_zero, sum_at, sum_set, sum_trade, below_le, below_zero, below_add, below_mono}
use Rattle.units.specs.Classes.{Start, next_start, class_of}
use Rattle.units.proofs.Starts.{next_gt, next_least, next_mono, next_align, next_at, next_suc, start_add}
use Rattle.units.proofs.Classes.{class_le, class_lo}

-- one place: its share (0 if free), whether its block stands in an order, and then its ready time
pub record Seat : Type 0 where
  pub share : ℕ
  pub ord : Bool
  pub ready : ℕ

abbrev pub free : Seat
free = record { share = 0; ord = false; ready = 0 }

abbrev pub class : Seat → ℕ
class s = class_of s.share

-- 1 if the block is pending at c and its class is at most k
unfoldable pub pend : ℕ → ℕ → Seat → ℕ
pend k c s = one_if (s.ord && leb s.ready c && leb (class s) k)

-- what is left of a share's slots before the next start of its class
unfoldable pub room : ℕ → ℕ → ℕ → Seat → ℕ
room k c d s = cond (leb (class s) k) (s.share * (next_start (class s) c - c - d)) 0

pub pend_yes : (k c : ℕ) (s : Seat) → s.ord ≡ true → s.ready ≤ c → class s ≤ k → pend k c s ≡ 1
unfolding pend
pend_yes k c s e r l = rw (e, leb_yes s.ready c r, leb_yes (class s) k l)

pub pend_off : (k c : ℕ) (s : Seat) → s.ord ≡ false → pend k c s ≡ 0
unfolding pend
pend_off k c s e = rw e

pub pend_late : (k c : ℕ) (s : Seat) → c < s.ready → pend k c s ≡ 0
unfolding pend
pend_late k c s r = rw (leb_no s.ready c r) (go s.ord)
  where
    go : (b : Bool) → one_if (b && false && leb (class s) k) ≡ 0
    go true = refl
    go false = refl

pub pend_high : (k c : ℕ) (s : Seat) → k < class s → pend k c s ≡ 0
unfolding pend
pend_high k c s h = rw (leb_no (class s) k h) (go (s.ord && leb s.ready c))
  where
    go : (b : Bool) → one_if (b && false) ≡ 0
    go true = refl
    go false = refl

pub room_in : (k c d : ℕ) (s : Seat) → class s ≤ k → room k c d s ≡ s.share * (next_start (class s) c - c - d)
unfolding room
room_in k c d s h = rw (leb_yes (class s) k h)

pub room_high : (k c d : ℕ) (s : Seat) → k < class s → room k c d s ≡ 0
unfolding room
room_high k c d s h = rw (leb_no (class s) k h)

-- what holds of a block that stands in an order, at clock c, with d = 1 if a slot is open
pub record SeatOk (c d : ℕ) (s : Seat) : Type 0 where
  pub bought : 1 ≤ s.share
  pub start : Start (class s) s.ready
  pub soon : s.ready ≤ next_start (class s) c
  pub fresh : c + d < s.ready + 2 ^ class s

abbrev pub Ok : ℕ → ℕ → Seat → Type 0
Ok c d s = s.ord ≡ true → SeatOk c d s

-- TICK, one place: what becomes pending is paid by the interval that begins
pub tick_seat : (k c : ℕ) (s : Seat) → Ok c 1 s → 65536 * pend k (suc c) s + room k c 1 s ≤ room k (suc c) 0 s + 65536 * pend k c s
tick_seat k c s ok = go (split (class s) k) s.ord refl
  where
    more : class s ≤ k → room k c 1 s ≤ room k (suc c) 0 s
    more l = rw (room_in k c 1 s l, room_in k (suc c) 0 s l) (mul-le-mul_left s.share (omega (arith, next_mono (class s) c (suc c) (omega arith))))

    was : class s ≤ k → Start (class s) (suc c) → room k c 1 s ≡ 0
    was l t = let z : next_start (class s) c - c - 1 ≡ 0 = omega (arith, next_suc (class s) c t) in rw (room_in k c 1 s l, z) (mul-zero s.share)

    now : class s ≤ k → 1 ≤ s.share → Start (class s) (suc c) → 65536 ≤ room k (suc c) 0 s
    now l h t =
        let z : next_start (class s) (suc c) - suc c - 0 ≡ 2 ^ class s = omega (arith, next_at (class s) (suc c) t) in
        rw (room_in k (suc c) 0 s l, z) (class_lo s.share h)

    on : class s ≤ k → s.ord ≡ true → (s.ready ≤ c) ⊎ (c < s.ready) → (s.ready ≤ suc c) ⊎ (suc c < s.ready)
        → 65536 * pend k (suc c) s + room k c 1 s ≤ room k (suc c) 0 s + 65536 * pend k c s
    on l e (inl a) (inl b) = omega (arith, more l, pend_yes k c s e a l, pend_yes k (suc c) s e b l)
    on l e (inl a) (inr b) = omega arith
    on l e (inr a) (inr b) = omega (arith, more l, pend_late k (suc c) s b)
    on l e (inr a) (inl b) =
        let q : s.ready ≡ suc c = omega arith in
        let t : Start (class s) (suc c) = rw q at (ok e).start in
        omega (arith, pend_yes k (suc c) s e b l, was l t, now l (ok e).bought t)

    go : (class s ≤ k) ⊎ (k < class s) → (b : Bool) → s.ord ≡ b → 65536 * pend k (suc c) s + room k c 1 s ≤ room k (suc c) 0 s + 65536 * pend k c s
    go (inr h) b e = omega (arith, pend_high k (suc c) s h, room_high k c 1 s h)
    go (inl l) false e = omega (arith, more l, pend_off k (suc c) s e)
    go (inl l) true e = on l e (split s.ready c) (split s.ready (suc c))

-- HELD SHARES: the same room
unfoldable pub hroom : ℕ → ℕ → (ℕ → ℕ) → ℕ → ℕ
hroom c d H j = H j * (next_start j c - c - d)

-- the invariant of classes up to k
abbrev pub Fits : List Seat → (ℕ → ℕ) → ℕ → ℕ → ℕ → Type 0
Fits l H c d k = 65536 * sum (pend k c) l ≤ sum (room k c d) l + below (hroom c d H) (suc k)

-- the held shares of a class go when the clock reaches its next start
abbrev pub HeldStays : ℕ → ℕ → (ℕ → ℕ) → (ℕ → ℕ) → Type 0
HeldStays c c' H H' = (j : ℕ) → c' < next_start j c → H' j ≡ H j

pub tick_held : (c : ℕ) (H H' : ℕ → ℕ) → HeldStays c (suc c) H H' → (j : ℕ) → hroom c 1 H j ≤ hroom (suc c) 0 H' j
unfolding hroom
tick_held c H H' kept j = go (split (next_start j c) (suc c))
  where
    go : (next_start j c ≤ suc c) ⊎ (suc c < next_start j c) → H j * (next_start j c - c - 1) ≤ H' j * (next_start j (suc c) - suc c - 0)
    go (inl l) = let z : next_start j c - c - 1 ≡ 0 = omega arith in rw z (omega (arith, mul-zero (H j)))
    go (inr l) = rw (kept j l) (mul-le-mul_left (H j) (omega (arith, next_mono j c (suc c) (omega arith))))

pub tick_fits : (l : List Seat) (H H' : ℕ → ℕ) (c k : ℕ) → ((i : ℕ) → Ok c 1 (get_or l i free)) → HeldStays c (suc c) H H' → Fits l H c 1 k
    → Fits l H' (suc c) 0 k
tick_fits l H H' c k ok kept b =
    omega (
      arith,
      trade,
      below_le (hroom c 1 H) (hroom (suc c) 0 H') (suc k) (λ j _. tick_held c H H' kept j),
      sum_mul 65536 (pend k (suc c)) l,
      sum_mul 65536 (pend k c) l,
    )
  where
    trade : sum (λ s. 65536 * pend k (suc c) s) l + sum (room k c 1) l ≤ sum (room k (suc c) 0) l + sum (λ s. 65536 * pend k c s) l
    trade =
        sum_trade (λ s. 65536 * pend k c s) (room k c 1) (λ s. 65536 * pend k (suc c) s) (room k (suc c) 0) free l (λ i. tick_seat k c (get_or l i free) (ok i))

-- BEGIN: the block leaves its order
abbrev pub off : Seat → Seat
off s = record { share = s.share; ord = false; ready = 0 }

pub in_reach : (l : List Seat) (p : ℕ) → (get_or l p free).ord ≡ true → p < length l
in_reach l p e = go (split (length l) p)
  where
    go : (length l ≤ p) ⊎ (p < length l) → p < length l
    go (inr h) = h
    go (inl h) = absurd (true≢false (sym e ∙ ap (λ (s : Seat). s.ord) (get_or-eq_default l free h)))

-- a slot's time costs each share one of its slots
pub begin_seat : (k c : ℕ) (s : Seat) → room k c 0 s ≤ room k c 1 s + s.share
begin_seat k c s = go (split (class s) k)
  where
    go : (class s ≤ k) ⊎ (k < class s) → room k c 0 s ≤ room k c 1 s + s.share
    go (inr h) = omega (arith, room_high k c 0 s h)
    go (inl h) = rw (room_in k c 0 s h, room_in k c 1 s h)
        (let n : next_start (class s) c - c - 0 ≡ suc (next_start (class s) c - c - 1) = omega (arith, next_gt (class s) c) in
        rw n (omega (arith, mul-suc s.share (next_start (class s) c - c - 1))))

pub begin_held : (c : ℕ) (H : ℕ → ℕ) (j : ℕ) → hroom c 0 H j ≤ hroom c 1 H j + H j
unfolding hroom
begin_held c H j =
    let n : next_start j c - c - 0 ≡ suc (next_start j c - c - 1) = omega (arith, next_gt j c) in rw n (omega (arith, mul-suc (H j) (next_start j c - c - 1)))

-- all bought and held shares
abbrev pub Bought : List Seat → (ℕ → ℕ) → Type 0
Bought l H = sum (λ s. s.share) l + below H 17 ≤ 65536

-- s is pending, and no pending block has a lower class
pub record Lowest (l : List Seat) (c p : ℕ) : Type 0 where
  pub is_in : (get_or l p free).ord ≡ true
  pub is_due : (get_or l p free).ready ≤ c
  pub is_low : (i : ℕ) → (get_or l i free).ord ≡ true → (get_or l i free).ready ≤ c → class (get_or l p free) ≤ class (get_or l i free)

abbrev pub begun : List Seat → ℕ → List Seat
begun l p = set l p (off (get_or l p free))

pub pend_begun : (l : List Seat) (c p k : ℕ) → p < length l → sum (pend k c) (begun l p) + pend k c (get_or l p free) ≡ sum (pend k c) l
pend_begun l c p k h = omega (arith, sum_set (pend k c) free l p (off (get_or l p free)) h, pend_off k c (off (get_or l p free)) refl)

pub room_begun : (l : List Seat) (c d p k : ℕ) → p < length l → sum (room k c d) (begun l p) ≡ sum (room k c d) l
unfolding room
room_begun l c d p k h = omega (arith, sum_set (room k c d) free l p (off (get_or l p free)) h)

pub begin_fits : (l : List Seat) (H : ℕ → ℕ) (c p k : ℕ) → k ≤ 16 → Bought l H → Lowest l c p → Fits l H c 0 k → Fits (begun l p) H c 1 k
begin_fits l H c p k k16 bought low b = go (split (class (get_or l p free)) k)
  where
    h : p < length l
    h = in_reach l p low.is_in

    held : below (hroom c 0 H) (suc k) ≤ below (hroom c 1 H) (suc k) + below H 17
    held =
        omega (
          arith,
          below_le (hroom c 0 H) (λ j. hroom c 1 H j + H j) (suc k) (λ j _. begin_held c H j),
          below_add (hroom c 1 H) H (suc k),
          below_mono H (suc k) 17 (omega arith),
        )

    seats : sum (room k c 0) l ≤ sum (room k c 1) l + sum (λ s. s.share) l
    seats =
        omega (arith, sum_le (room k c 0) (λ s. room k c 1 s + s.share) free l (λ i. begin_seat k c (get_or l i free)), sum_add (room k c 1) (λ s. s.share) l)

    none : k < class (get_or l p free) → (i : ℕ) → pend k c (get_or l i free) ≡ 0
    none a i = each (get_or l i free).ord refl (split (get_or l i free).ready c) (split (class (get_or l i free)) k)
      where
        s : Seat
        s = get_or l i free

        each : (b : Bool) → s.ord ≡ b → (s.ready ≤ c) ⊎ (c < s.ready) → (class s ≤ k) ⊎ (k < class s) → pend k c s ≡ 0
        each false e x y = pend_off k c s e
        each true e (inr x) y = pend_late k c s x
        each true e (inl x) (inr y) = pend_high k c s y
        each true e (inl x) (inl y) = absurd (omega (arith, low.is_low i e x))

    go : (class (get_or l p free) ≤ k) ⊎ (k < class (get_or l p free)) → Fits (begun l p) H c 1 k
    go (inl a) = omega (arith, held, seats, pend_begun l c p k h, room_begun l c 1 p k h, pend_yes k c (get_or l p free) low.is_in low.is_due a)
    go (inr a) = omega (arith, pend_begun l c p k h, sum_zero (pend k c) free l (none a))

-- DEADLINE: after a slot has begun, a block that is still pending has a later slot before its next start
pub room_none : (l : List Seat) (H : ℕ → ℕ) (c k : ℕ) → next_start k c ≤ suc c → sum (room k c 1) l + below (hroom c 1 H) (suc k) ≡ 0
unfolding hroom
room_none l H c k h = omega (arith, sum_zero (room k c 1) free l (λ i. one (get_or l i free)), below_zero (hroom c 1 H) (suc k) two)
  where
    gone : (j : ℕ) → j ≤ k → next_start j c - c - 1 ≡ 0
    gone j a = omega (arith, next_align j k c a)

    one : (s : Seat) → room k c 1 s ≡ 0
    one s = go (split (class s) k)
      where
        go : (class s ≤ k) ⊎ (k < class s) → room k c 1 s ≡ 0
        go (inl a) = rw (room_in k c 1 s a, gone (class s) a) (mul-zero s.share)
        go (inr a) = room_high k c 1 s a

    two : (j : ℕ) → j < suc k → H j * (next_start j c - c - 1) ≡ 0
    two j a = rw (gone j (omega arith)) (mul-zero (H j))

pub deadline : (l : List Seat) (H : ℕ → ℕ) (c i : ℕ) → ((k : ℕ) → k ≤ 16 → Fits l H c 1 k) → Ok c 0 (get_or l i free) → Ok c 1 (get_or l i free)
deadline l H c i b ok e = record { bought = (ok e).bought; start = (ok e).start; soon = (ok e).soon; fresh = go (split s.ready c) }
  where
    s : Seat
    s = get_or l i free

    k : ℕ
    k = class s

    late : s.ready ≤ c → (next_start k c ≤ suc c) ⊎ (suc c < next_start k c) → suc c < next_start k c
    late a (inr h) = h
    late a (inl h) =
        absurd (omega (arith, b k (class_le s.share), room_none l H c k h, pend_yes k c s e a (le_refl k), sum_at (pend k c) free l i (in_reach l i e)))

    go : (s.ready ≤ c) ⊎ (c < s.ready) → c + 1 < s.ready + 2 ^ k
    go (inr a) = omega (arith, pow_pos k)
    go (inl a) =
        omega (
          arith,
          late a (split (next_start k c) (suc c)),
          next_least k c (s.ready + 2 ^ k) (start_add k s.ready (ok e).start) (omega (arith, (ok e).fresh)),
        )

pub ok_other : (l : List Seat) (c d p : ℕ) (s : Seat) → p < length l → ((i : ℕ) → Ok c d (get_or l i free)) → Ok c d s → (i : ℕ)
    → Ok c d (get_or (set l p s) i free)
ok_other l c d p s h ok new i = go (ℕ_discrete i p)
  where
    go : Dec (i ≡ p) → Ok c d (get_or (set l p s) i free)
    go (yes e) = rw (e, get_or-set_same l p s free h) new
    go (no e) = rw (get_or-set_other l p i s free e) (ok i)
