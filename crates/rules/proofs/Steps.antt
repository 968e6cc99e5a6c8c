-- The invariant of demand 3, and every small step that keeps it.
use mathlib.Core.Path.{◌≡◌, refl, sym, ◌∙◌}
use mathlib.Core.Bool.{Bool, true, false, false≢true}
use mathlib.Core.Logic.{◌⊎◌, inl, inr, ◌≢◌}
use mathlib.Core.List.{List}
use Prim.Native.Nat.{ℕ, suc, ◌+◌, ◌*◌, ◌-◌, ◌^◌, ◌≤◌, ◌<◌}
use native.Mathlib.Nat.{le_refl, zero-mul, add-mul}
use native.Mathlib.Omega.{arith}
use lib.Pow.{pow_pos}
use lib.ListN.{length, get_or, set}
use Rattle.base.proofs.Numbers.{split}
use Rattle.base.specs.Sums.{sum, below}
use Rattle.base.proofs.Sums.{sum_le, sum_mul, sum_zero, sum_set, below_le, below_ext, below_one}
use Rattle.units.specs.Classes.{next_start}
use Rattle.units.proofs.Starts.{next_gt, next_start_lem, next_mono, next_at}
use Rattle.units.proofs.Classes.{class_le, class_lo}
use Rattle.rules.proofs.Line.{Seat, free, class, pend, pend_yes, pend_off, pend_late, pend_high, room, room_in, room_high, SeatOk, Ok, hroom, Fits}
use Rattle.rules.proofs.Line.{HeldStays}
use Rattle.rules.proofs.Line.{Bought, Lowest, off, begun, begin_fits, tick_fits, deadline, ok_other, in_reach}
use Rattle.rules.proofs.Line

pub record InTime (l : List Seat) (H : ℕ → ℕ) (c d : ℕ) : Type 0 where
  pub ok : (i : ℕ) → Ok c d (get_or l i free)
  pub fits : (k : ℕ) → k ≤ 16 → Fits l H c d k
  pub bought : Bought l H

-- a slot begins
pub begin_in_time : (l : List Seat) (H : ℕ → ℕ) (c p : ℕ) → InTime l H c 0 → Lowest l c p → InTime (begun l p) H c 1
begin_in_time l H c p s low = record { ok = λ i. deadline (begun l p) H c i fits (oks i); fits = fits; bought = bought }
  where
    h : p < length l
    h = in_reach l p low.is_in

    fits : (k : ℕ) → k ≤ 16 → Fits (begun l p) H c 1 k
    fits k a = begin_fits l H c p k a s.bought low (s.fits k a)

    oks : (i : ℕ) → Ok c 0 (get_or (begun l p) i free)
    oks i = ok_other l c 0 p (off (get_or l p free)) h s.ok (λ e. absurd (false≢true e)) i

    bought : Bought (begun l p) H
    bought = omega (arith, s.bought, sum_set (λ t. t.share) free l p (off (get_or l p free)) h)

-- a slot ends: the clock goes on by one
pub tick_in_time : (l : List Seat) (H H' : ℕ → ℕ) (c : ℕ) → InTime l H c 1 → HeldStays c (suc c) H H' → ((j : ℕ) → H' j ≤ H j) → InTime l H' (suc c) 0
tick_in_time l H H' c s kept less =
    record { ok = oks; fits = λ k a. tick_fits l H H' c k s.ok kept (s.fits k a); bought = omega (arith, s.bought, below_le H' H 17 (λ j _. less j)) }
  where
    oks : (i : ℕ) → Ok (suc c) 0 (get_or l i free)
    oks i e =
        let o = s.ok i e in record {
          bought = o.bought;
          start = o.start;
          soon = omega (arith, o.soon, next_mono (class (get_or l i free)) c (suc c) (omega arith));
          fresh =
              omega (arith, o.fresh);
        }

-- nothing is pending: the clock goes to a time that is no later than any ready time
pub jump_in_time : (l : List Seat) (H H' : ℕ → ℕ) (c c' : ℕ) → c ≤ c' → ((i : ℕ) → (get_or l i free).ord ≡ true → c' ≤ (get_or l i free).ready)
    → InTime l H c 0 → ((j : ℕ) → H' j ≤ H j) → InTime l H' c' 0
jump_in_time l H H' c c' le first s less = record { ok = oks; fits = fits; bought = omega (arith, s.bought, below_le H' H 17 (λ j _. less j)) }
  where
    oks : (i : ℕ) → Ok c' 0 (get_or l i free)
    oks i e =
        let o = s.ok i e in record {
          bought = o.bought;
          start = o.start;
          soon = omega (arith, o.soon, next_mono (class (get_or l i free)) c c' le);
          fresh =
              omega (arith, first i e, pow_pos (class (get_or l i free)));
        }

    each : (k i : ℕ) → 65536 * pend k c' (get_or l i free) ≤ room k c' 0 (get_or l i free)
    each k i = go t.ord refl (split t.ready c') (split (class t) k)
      where
        t : Seat
        t = get_or l i free

        go : (b : Bool) → t.ord ≡ b → (t.ready ≤ c') ⊎ (c' < t.ready) → (class t ≤ k) ⊎ (k < class t) → 65536 * pend k c' t ≤ room k c' 0 t
        go false e x y = omega (arith, pend_off k c' t e)
        go true e (inr x) y = omega (arith, pend_late k c' t x)
        go true e (inl x) (inr y) = omega (arith, pend_high k c' t y)
        go true e (inl x) (inl y) =
            let q : t.ready ≡ c' = omega (arith, first i e) in
            let z : next_start (class t) c' - c' - 0 ≡ 2 ^ class t = omega (arith, next_at (class t) c' (rw q at (s.ok i e).start)) in
            omega (arith, pend_yes k c' t e x y, rw (← z, ← room_in k c' 0 t y) at (class_lo t.share (s.ok i e).bought))

    fits : (k : ℕ) → k ≤ 16 → Fits l H' c' 0 k
    fits k a = omega (arith, sum_mul 65536 (pend k c') l, sum_le (λ t. 65536 * pend k c' t) (room k c' 0) free l (each k))

-- a place's room hangs on its share alone
pub room_share : (k c d : ℕ) (s t : Seat) → s.share ≡ t.share → room k c d s ≡ room k c d t
unfolding room
room_share k c d s t e = rw e

-- a block joins its order, with ready time the next start of its class above the clock
abbrev pub joined : ℕ → Seat → Seat
joined c s = record { share = s.share; ord = true; ready = next_start (class s) c }

pub join_in_time : (l : List Seat) (H : ℕ → ℕ) (c d p : ℕ) → d ≤ 1 → p < length l → 1 ≤ (get_or l p free).share → (get_or l p free).ord ≡ false
    → InTime l H c d → InTime (set l p (joined c (get_or l p free))) H c d
join_in_time l H c d p d1 h one was s =
    record { ok = ok_other l c d p new h s.ok (λ e. ok_new); fits = fits; bought = omega (arith, s.bought, sum_set (λ t. t.share) free l p new h) }
  where
    old : Seat
    old = get_or l p free

    new : Seat
    new = joined c old

    ok_new : SeatOk c d new
    ok_new =
        record {
          bought = one;
          start = next_start_lem (class old) c;
          soon = le_refl (next_start (class old) c);
          fresh =
              omega (arith, next_gt (class old) c, pow_pos (class old));
        }

    fits : (k : ℕ) → k ≤ 16 → Fits (set l p new) H c d k
    fits k a =
        omega (
          arith,
          s.fits k a,
          sum_set (pend k c) free l p new h,
          pend_off k c old was,
          pend_late k c new (next_gt (class old) c),
          sum_set (room k c d) free l p new h,
          same,
        )
      where
        same : room k c d new ≡ room k c d old
        same = room_share k c d new old refl

-- a block opens at a free place: all that is left can only grow
abbrev pub opened_at : ℕ → Seat
opened_at n = record { share = n; ord = false; ready = 0 }

pub open_in_time : (l : List Seat) (H : ℕ → ℕ) (c d p n : ℕ) → p < length l → get_or l p free ≡ free → sum (λ s. s.share) l + below H 17 + n ≤ 65536
    → InTime l H c d → InTime (set l p (opened_at n)) H c d
open_in_time l H c d p n h was room-left s =
    record {
      ok = ok_other l c d p new h s.ok (λ e. absurd (false≢true e));
      fits = fits;
      bought =
          omega (arith, room-left, sum_set (λ t. t.share) free l p new h);
    }
  where
    new : Seat
    new = opened_at n

    fits : (k : ℕ) → k ≤ 16 → Fits (set l p new) H c d k
    fits k a =
        omega (arith, s.fits k a, sum_set (pend k c) free l p new h, pend_off k c new refl, sum_set (room k c d) free l p new h, rw (← was) at zero_room)
      where
        zero_room : room k c d free ≡ 0
        zero_room = go (split (class free) k)
          where
            go : (class free ≤ k) ⊎ (k < class free) → room k c d free ≡ 0
            go (inl x) = rw (room_in k c d free x) (zero-mul (next_start (class free) c - c - d))
            go (inr x) = room_high k c d free x

-- a block closes: its share is held by its class
pub record HeldMore (H H' : ℕ → ℕ) (k n : ℕ) : Type 0 where
  pub here : H' k ≡ H k + n
  pub there : (j : ℕ) → j ≢ k → H' j ≡ H j

pub close_in_time : (l : List Seat) (H H' : ℕ → ℕ) (c d p : ℕ) → p < length l → (get_or l p free).ord ≡ false
    → HeldMore H H' (class (get_or l p free)) (get_or l p free).share
    → InTime l H c d → InTime (set l p free) H' c d
unfolding hroom
close_in_time l H H' c d p h was hold s = record { ok = ok_other l c d p free h s.ok (λ e. absurd (false≢true e)); fits = fits; bought = bought }
  where
    old : Seat
    old = get_or l p free

    bought : Bought (set l p free) H'
    bought =
        omega (
          arith,
          s.bought,
          sum_set (λ t. t.share) free l p free h,
          below_one H' H 17 (class old) (omega (arith, class_le old.share)) hold.there,
          hold.here,
        )

    fits : (k : ℕ) → k ≤ 16 → Fits (set l p free) H' c d k
    fits k a =
        omega (
          arith,
          s.fits k a,
          sum_set (pend k c) free l p free h,
          pend_off k c free refl,
          pend_off k c old was,
          sum_set (room k c d) free l p free h,
          moved (split (class old) k),
        )
      where
        here : hroom c d H' (class old) ≡ hroom c d H (class old) + old.share * (next_start (class old) c - c - d)
        here = rw hold.here (add-mul (H (class old)) old.share (next_start (class old) c - c - d))

        there : (j : ℕ) → j ≢ class old → hroom c d H' j ≡ hroom c d H j
        there j e = rw (hold.there j e)

        moved : (class old ≤ k) ⊎ (k < class old) → room k c d old + below (hroom c d H) (suc k) ≡ below (hroom c d H') (suc k)
        moved (inl x) = omega (arith, room_in k c d old x, here, below_one (hroom c d H') (hroom c d H) (suc k) (class old) (omega arith) there)
        moved (inr x) = omega (arith, room_high k c d old x, below_ext (hroom c d H') (hroom c d H) (suc k) (λ j y. there j (omega arith)))

-- nobody waits: nothing is held, and the shares may be anything that can be bought
pub idle_in_time : (l : List Seat) (H : ℕ → ℕ) (c d : ℕ) → ((i : ℕ) → (get_or l i free).ord ≡ false) → Bought l H → InTime l H c d
idle_in_time l H c d none bought =
    record {
      ok = λ i e. absurd (false≢true (sym (none i) ∙ e));
      fits =
          λ k a. omega (arith, sum_zero (pend k c) free l (λ i. pend_off k c (get_or l i free) (none i)));
      bought = bought;
    }
