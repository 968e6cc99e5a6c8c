-- What holds of every board of a run: it is well formed, and no block has missed its interval.
use mathlib.Core.Path.{◌≡◌, refl, ap, ◌∙◌}
use mathlib.Core.Bool.{true, false, cond}
use mathlib.Core.Option.{Option, none, some}
use mathlib.Core.List.{List, [], ◌∷◌, ◌++◌, map}
use Prim.Native.Nat.{ℕ, suc, ◌+◌, ◌≤◌, ◌<◌}
use native.Mathlib.Omega.{arith}
use native.Mathlib.Decide.{ℕ_discrete}
use lib.ListN.{length, get_or, set, drop, get_or-map, length-map}
use lib.Seq.{get_or-set_same, get_or-set_other, map-set_same}
use Rattle.base.specs.Sums.{sum, below}
use Rattle.base.proofs.Sums.{sum_set, below_le, below_one}
use Rattle.units.proofs.Classes.{class_le}
use Rattle.rules.specs.Spoilt.{is_queued, ready_num}
use Rattle.rules.specs.Board.{Record, Place, free_place, block_class}
use Rattle.rules.specs.Choice.{upd, least_ready, is_none, release, settle, started}
use Rattle.rules.specs.Blocks.{Opening, opened}
use Rattle.rules.proofs.Line.{Seat, free, SeatOk, Bought, Lowest, off}
use Rattle.rules.proofs.Steps.{InTime, begin_in_time, tick_in_time, jump_in_time, join_in_time, open_in_time, close_in_time, idle_in_time, joined}
use Rattle.rules.proofs.Steps.{HeldMore}
use Rattle.rules.proofs.Orders.{pl, ready, map_set, upd_same, upd_other}
use Rattle.rules.proofs.Shape.{LeastIs, least_is, PlaceOk, Distinct, Shape, names_set, release_le, release_kept, Chosen, shape_same, joined_as}
use Rattle.rules.proofs.Shape.{shape_join, shape_clock, settle_le, shape_begin, shape_other, free_ok}

abbrev pub seat_of : Place → Seat
seat_of x = record { share = x.share; ord = is_queued x.stand; ready = ready_num x.stand }

abbrev pub seats : List Place → List Seat
seats l = map seat_of l

pub seat_at : (l : List Place) (i : ℕ) → get_or (seats l) i free ≡ seat_of (pl l i)
seat_at l i = get_or-map seat_of l i free_place

pub seat_ok : (l : List Place) (H : ℕ → ℕ) (c d : ℕ) → InTime (seats l) H c d → (i : ℕ) → is_queued (pl l i).stand ≡ true → SeatOk c d (seat_of (pl l i))
seat_ok l H c d s i e = rw (seat_at l i) at (s.ok i (rw (seat_at l i) e))

length_seats : (l : List Place) → length (seats l) ≡ length l
length_seats l = length-map l seat_of

pub sum_seats : (m : List Place) → sum (λ t. t.share) (seats m) ≡ sum (λ y. y.share) m
unfolding sum
sum_seats [] = refl
sum_seats (x ∷ xs) = omega (arith, sum_seats xs)

-- THE BOARD, but for its slot. d is 1 while a slot is open
pub record Fine (L c d : ℕ) (l : List Place) (o : ℕ → List ℕ) (H : ℕ → ℕ) : Type 0 where
  pub shape : Shape L c l o H
  pub in_time : InTime (seats l) H c d

-- a change that the orders and the clock don't see
pub fine_same : {L c d : ℕ} {l : List Place} {o : ℕ → List ℕ} {H : ℕ → ℕ} (p : ℕ) (x : Place) → p < length l → seat_of x ≡ seat_of (pl l p)
    → Distinct (set l p x)
    → PlaceOk L x
    → Fine L c d l o H → Fine L c d (set l p x) o H
fine_same {L} {c} {d} {l} {o} {H} p x h e dis new f =
    record {
      shape = shape_same p x h (ap (λ (s : Seat). s.share) e) (ap (λ (s : Seat). s.ord) e) (ap (λ (s : Seat). s.ready) e) dis new f.shape;
      in_time = rw (map-set_same seat_of l p x free_place e) f.in_time;
    }

-- a block joins its order
pub fine_join : {L c d : ℕ} {l : List Place} {o : ℕ → List ℕ} {H : ℕ → ℕ} (p start : ℕ) (lane : List Record) (owed : ℕ) → p < length l → d ≤ 1
    → is_queued (pl l p).stand ≡ false → 1 ≤ (pl l p).share → PlaceOk L (joined_as c start lane owed (pl l p))
    → Fine L c d l o H
    → Fine L c d (set l p (joined_as c start lane owed (pl l p))) (upd o (block_class (pl l p)) (o (block_class (pl l p)) ++ (p ∷ []))) H
fine_join {L} {c} {d} {l} {o} {H} p start lane owed h d1 was one new f =
    record { shape = shape_join p start lane owed h was new f.shape; in_time = rw (map_set seat_of l p (joined_as c start lane owed (pl l p))) in_time }
  where
    in_time : InTime (set (seats l) p (joined c (seat_of (pl l p)))) H c d
    in_time = rw (seat_at l p) at (join_in_time (seats l) H c d p d1 (rw (length_seats l) h) (rw (seat_at l p) one) (rw (seat_at l p) was) f.in_time)

-- a slot ends, its block being back in its order or out
pub fine_tick : {L c : ℕ} {l : List Place} {o : ℕ → List ℕ} {H : ℕ → ℕ} → Fine L c 1 l o H → Fine L (suc c) 0 l o (settle l (release c (suc c) H))
unfolding settle LeastIs
fine_tick {L} {c} {l} {o} {H} f =
    record {
      shape = shape_clock (suc c) (settle l (release c (suc c) H)) (omega arith) (settle_le c (suc c) l H) f.shape;
      in_time =
          go (least_ready l) (least_is l);
    }
  where
    go : (r : Option ℕ) → LeastIs l r → InTime (seats l) (λ j. cond (is_none r) 0 (release c (suc c) H j)) (suc c) 0
    go none e =
        idle_in_time (seats l) (λ j. 0) (suc c) 0 (λ i. rw (seat_at l i) (e i)) (omega (arith, f.in_time.bought, below_le (λ j. 0) H 17 (λ j a. omega arith)))
    go (some r) e = tick_in_time (seats l) H (release c (suc c) H) c f.in_time (release_kept c (suc c) H) (release_le c (suc c) H)

pub fine_jump : {L c : ℕ} {l : List Place} {o : ℕ → List ℕ} {H : ℕ → ℕ} (t : ℕ) → c ≤ t → ((i : ℕ) → is_queued (pl l i).stand ≡ true → t ≤ ready l i)
    → Fine L c 0 l o H → Fine L t 0 l o (release c t H)
fine_jump {L} {c} {l} {o} {H} t h first f =
    record {
      shape = shape_clock t (release c t H) h (release_le c t H) f.shape;
      in_time =
          jump_in_time (seats l) H (release c t H) c t h firsts f.in_time (release_le c t H);
    }
  where
    firsts : (i : ℕ) → (get_or (seats l) i free).ord ≡ true → t ≤ (get_or (seats l) i free).ready
    firsts i e = rw (seat_at l i) (first i (rw (seat_at l i) at e))

pub fine_begin : {L c : ℕ} {l : List Place} {o : ℕ → List ℕ} {H : ℕ → ℕ} (k p : ℕ) → Chosen l o c k p → Fine L c 0 l o H
    → Fine L c 1 (set l p (started L (pl l p))) (upd o k (drop 1 (o k))) H
fine_begin {L} {c} {l} {o} {H} k p ch f =
    record { shape = shape_begin c k p ch f.shape; in_time = rw (map_set seat_of l p (started L (pl l p))) in_time }
  where
    low : Lowest (seats l) c p
    low = record {
      is_in = rw (seat_at l p) ch.is_q;
      is_due = rw (seat_at l p) ch.is_due;
      is_low = λ i e a. rw (seat_at l p, seat_at l i, ← ch.is_kind) (ch.is_low i (rw (seat_at l i) at e) (rw (seat_at l i) at a));
    }

    in_time : InTime (set (seats l) p (off (seat_of (pl l p)))) H c 1
    in_time = rw (seat_at l p) at (begin_in_time (seats l) H c p f.in_time low)

-- OPEN
pub fine_open : {L c d : ℕ} {l : List Place} {o : ℕ → List ℕ} {H : ℕ → ℕ} (p : ℕ) (w : Opening) → p < length l → seat_of (pl l p) ≡ free
    → Distinct (set l p (opened w)) → PlaceOk L (opened w)
    → sum (λ x. x.share) l + below H 17 + w.share ≤ 65536 → Fine L c d l o H → Fine L c d (set l p (opened w)) o H
fine_open {L} {c} {d} {l} {o} {H} p w h was dis new room f =
    record {
      shape = shape_other p x H h (ap (λ (t : Seat). t.ord) was) refl dis new (omega arith) f.shape;
      in_time =
          rw (map_set seat_of l p x) (open_in_time (seats l) H c d p w.share (rw (length_seats l) h) (seat_at l p ∙ was) (rw (sum_seats l) room) f.in_time);
    }
  where
    x : Place
    x = opened w

-- CLOSE
pub names_free : (l : List Place) (p : ℕ) → p < length l → Distinct l → Distinct (set l p free_place)
names_free l p h dis = names_set l p free_place h (λ q ne a b e. absurd (omega arith)) dis

pub fine_close : {L c d : ℕ} {l : List Place} {o : ℕ → List ℕ} {H : ℕ → ℕ} (p : ℕ) → p < length l → is_queued (pl l p).stand ≡ false
    → Fine L c d l o H → Fine L c d (set l p free_place) o (upd H (block_class (pl l p)) (H (block_class (pl l p)) + (pl l p).share))
fine_close {L} {c} {d} {l} {o} {H} p h was f =
    record {
      shape =
          shape_other p free_place H' h was refl (names_free l p h f.shape.names) (free_ok L f.shape.least)
          (omega (arith, f.shape.used_share, below_one H' H 17 k (omega (arith, class_le (pl l p).share)) holds.there, holds.here)) f.shape;
      in_time =
          rw (map_set seat_of l p free_place)
          (close_in_time (seats l) H H' c d p (rw (length_seats l) h) (rw (seat_at l p) was) (rw (seat_at l p) holds) f.in_time);
    }
  where
    k : ℕ
    k = block_class (pl l p)

    H' : ℕ → ℕ
    H' = upd H k (H k + (pl l p).share)

    holds : HeldMore H H' k (pl l p).share
    holds = record { here = upd_same H k (H k + (pl l p).share); there = λ j e. upd_other H k (H k + (pl l p).share) j e }

-- and where nobody waits, its share is not held
pub fine_close_quiet : {L c d : ℕ} {l : List Place} {o : ℕ → List ℕ} {H : ℕ → ℕ} (p : ℕ) → p < length l → ((i : ℕ) → is_queued (pl l i).stand ≡ false)
    → Fine L c d l o H → Fine L c d (set l p free_place) o H
fine_close_quiet {L} {c} {d} {l} {o} {H} p h was f =
    record {
      shape =
          shape_other p free_place H h (was p) refl (names_free l p h f.shape.names) (free_ok L f.shape.least) (omega (arith, f.shape.used_share))
          f.shape;
      in_time = rw (map_set seat_of l p free_place) (idle_in_time (set (seats l) p free) H c d none less);
    }
  where
    h' : p < length (seats l)
    h' = rw (length_seats l) h

    none : (i : ℕ) → (get_or (set (seats l) p free) i free).ord ≡ false
    none i = go (ℕ_discrete i p)
      where
        go : Dec (i ≡ p) → (get_or (set (seats l) p free) i free).ord ≡ false
        go (yes e) = rw (e, get_or-set_same (seats l) p free free h')
        go (no e) = rw (get_or-set_other (seats l) p i free free e, seat_at l i) (was i)

    less : Bought (set (seats l) p free) H
    less = omega (arith, f.in_time.bought, sum_set (λ t. t.share) free (seats l) p free h')
