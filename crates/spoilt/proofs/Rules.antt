-- The rules of the test, by name, and what they say of the orders and the slot.
use mathlib.Core.Path.{◌≡◌, refl, ap}
use mathlib.Core.Bool.{Bool, true, false, cond, not, ◌&&◌}
use mathlib.Core.List.{List, [], ◌∷◌}
use Prim.Native.Nat.{ℕ, zero, suc, ◌*◌, ◌-◌, ◌/◌, ◌^◌, ◌≤◌, ◌<◌}
use native.Mathlib.Omega.{arith}
use native.Mathlib.Decide.{ℕ_discrete}
use lib.Dec.{leb, eqb}
use lib.ListN.{get_or}
use borrow.Author.Tests.{ne_eqb, not-true}
use Rattle.base.specs.Sums.{one_if, below}
use Rattle.base.proofs.Numbers.{eqb_yes, eqb_no}
use Rattle.base.proofs.Tests.{and_left, and_right, and_both}
use Rattle.base.specs.Tests.{Decides}
use Rattle.base.proofs.Decides.{Each, d_every, d_and, d_eqb, d_true, d_leb, d_all, d_iff}
use Rattle.bits.specs.Sets.{set_below}
use Rattle.units.specs.Classes.{next_start}
use Rattle.units.specs.Credit.{charge_of}
use Rattle.lanes.specs.Lanes.{lane_entry}
use Rattle.rules.specs.Spoilt.{count}
use Rattle.board.specs.declared.Board.{Board}
use Rattle.spoilt_places.specs.Ranges.{size_in_range, numbers_apart, in_order, place_rules, place_in_range, place_now, places_in_range, shares_fit}
use Rattle.spoilt_places.specs.Ranges.{held_while_waiting}
use Rattle.spoilt_orders.specs.Walks.{clock_in_range, of_class, blocks_in_order, orders_listed, class_active, class_pending, active_as_ruled, pending_as_ruled}
use Rattle.spoilt_orders.specs.Walks.{length_of}
use Rattle.spoilt.specs.Test.{tables_whole, lane_in_range, lanes_in_range, slot_open, slot_in_range, sound_test}
use Rattle.spoilt.proofs.Walk.{less, belongs, all_belong}

-- ---- one place

-- the rules of place p
abbrev pub place_rules_at : Board → ℕ → List Bool
place_rules_at b p = place_rules b.largest b.slot p (place_now b p)

-- ---- the open slot

-- with no mark nothing is left; a mark is a place's, whose block may serve on
pub record SlotRule (b : Board) (lens : List ℕ) : Type 0 where
  pub closed : b.slot ≡ 0 → b.left.0 ≡ 0
  pub place : (p : ℕ) → b.slot ≡ suc p → p < 64
  pub serves : (p : ℕ) → b.slot ≡ suc p
      → slot_open b.largest b.clock b.left.0 (get_or b.counts p 0) (get_or lens (lane_entry p (get_or b.starts p 0) 0) 0) ≡ true

pub d_slot : (b : Board) (lens : List ℕ) → Decides (slot_in_range lens b.largest b.clock b.slot b.left.0 b.starts b.counts) (SlotRule b lens)
unfolding slot_in_range
d_slot b lens = go b.slot refl
  where
    rest : ℕ → Bool
    rest p = slot_open b.largest b.clock b.left.0 (get_or b.counts p 0) (get_or lens (lane_entry p (get_or b.starts p 0) 0) 0)

    go : (s : ℕ) → b.slot ≡ s → Decides (cond (eqb s 0) (eqb b.left.0 0) (leb s 64 && rest (s - 1))) (SlotRule b lens)
    go zero e =
        d_iff (d_eqb b.left.0 0) (λ w. record { closed = λ z. w; place = λ p f. absurd (omega (arith, e)); serves = λ p f. absurd (omega (arith, e)) })
        (λ w. w.closed e)
    go (suc q) e = rw (ne_eqb (suc q) 0 (λ z. omega arith), less q)
        (d_iff (d_and (d_leb (suc q) 64) (d_true (rest q)))
        (λ w. record { closed = λ z. absurd (omega (arith, e)); place = λ p f. omega (arith, e, w.0); serves = λ p f. rw (← same p f) w.1 })
        (λ w. (w.place q e, w.serves q e)))
      where
        same : (p : ℕ) → b.slot ≡ suc p → q ≡ p
        same p f = omega (arith, e)

-- what the open slot asks, as facts
pub record SlotAsks (largest clock left count len : ℕ) : Type 0 where
  pub waits : eqb count 0 ≡ false
  pub fits : charge_of len ≤ left
  pub under : left < 3 * charge_of largest
  pub early : clock < 2 ^ 62

pub d_serves : (largest clock left count len : ℕ) → Decides (slot_open largest clock left count len) (SlotAsks largest clock left count len)
unfolding slot_open
d_serves largest clock left count len =
    d_iff (d_and (d_true (not (eqb count 0)))
    (d_and (d_leb (charge_of len) left) (d_and (d_leb (suc left) (3 * charge_of largest)) (d_leb (suc clock) (2 ^ 62)))))
    (λ w. record { waits = not-true (eqb count 0) w.0; fits = w.1.0; under = w.1.1.0; early = w.1.1.1 })
    (λ w. (ap not w.waits, (w.fits, (w.under, w.early))))

-- ---- all rules

pub record Rules (b : Board) (lens : List ℕ) : Type 0 where
  pub size : size_in_range b.largest ≡ true
  pub clock : clock_in_range b.clock ≡ true
  pub apart : numbers_apart b.numbers ≡ true
  pub places : (p : ℕ) → p < 64 → Each (place_rules_at b p)
  pub lanes : (p : ℕ) → p < 64 → lane_in_range lens b.largest p (get_or b.starts p 0) (get_or b.counts p 0) ≡ true
  pub shares : shares_fit b.shares b.held ≡ true
  pub held : held_while_waiting b.active b.held ≡ true
  pub slot : SlotRule b lens
  pub orders : (k : ℕ) → k < 17 → length_of b k ≤ 64
  pub listed : below (length_of b) 17 ≡ blocks_in_order b.slot b.counts
  pub active : b.active ≡ set_below 17 (class_active b.slot b.shares b.heads)
  pub pending : b.pending ≡ set_below 17 (class_pending b.clock b.ready b.heads)

pub d_rules : (b : Board) (ids lens : List ℕ) → Decides (sound_test b ids lens) ((tables_whole ids lens ≡ true) × Rules b lens)
unfolding sound_test places_in_range place_in_range lanes_in_range orders_listed active_as_ruled pending_as_ruled
d_rules b ids lens = d_iff
    (d_and (d_true (tables_whole ids lens))
    (d_and (d_true (size_in_range b.largest))
    (d_and (d_true (numbers_apart b.numbers))
    (d_and (d_all 64 _ (λ p. Each (place_rules_at b p)) (λ p. d_every (place_rules_at b p)))
    (d_and (d_all 64 _ (λ p. lane_in_range lens b.largest p (get_or b.starts p 0) (get_or b.counts p 0) ≡ true) (λ p. d_true _))
    (d_and (d_true (shares_fit b.shares b.held))
    (d_and (d_true (held_while_waiting b.active b.held))
    (d_and (d_slot b lens)
    (d_and (d_and (d_true (clock_in_range b.clock))
    (d_and (d_all 17 _ (λ k. length_of b k ≤ 64) (λ k. d_leb (length_of b k) 64)) (d_eqb (below (length_of b) 17) (blocks_in_order b.slot b.counts))))
    (d_and (d_eqb b.active (set_below 17 (class_active b.slot b.shares b.heads)))
    (d_and (d_eqb b.pending (set_below 17 (class_pending b.clock b.ready b.heads)))
    (d_true true))))))))))))
    (λ w. (
      w.0,
      record {
        size = w.1.0;
        apart = w.1.1.0;
        places = w.1.1.1.0;
        lanes = w.1.1.1.1.0;
        shares = w.1.1.1.1.1.0;
        held = w.1.1.1.1.1.1.0;
        slot = w.1.1.1.1.1.1.1.0;
        clock = w.1.1.1.1.1.1.1.1.0.0;
        orders = w.1.1.1.1.1.1.1.1.0.1.0;
        listed = w.1.1.1.1.1.1.1.1.0.1.1;
        active = w.1.1.1.1.1.1.1.1.1.0;
        pending = w.1.1.1.1.1.1.1.1.1.1.0;
      },
    ))
    (λ w. let r = w.1 in (
      w.0,
      (
        r.size,
        (
          r.apart,
          (r.places, (r.lanes, (r.shares, (r.held, (r.slot, ((r.clock, (r.orders, r.listed)), (r.active, (r.pending, refl)))))))),
        ),
      ),
    ))

-- ---- what the rules say of a place that an order lists

-- each place that a walk meets belongs there
pub belong_at : (b : Board) (k : ℕ) (qs : List ℕ) (q : ℕ) → all_belong b k qs ≡ true → 1 ≤ count q qs → belongs b k q ≡ true
unfolding all_belong count
belong_at b k [] q h c = absurd (omega arith)
belong_at b k (p ∷ ps) q h c = go (ℕ_discrete q p) (belong_at b k ps q (and_right (belongs b k p) (all_belong b k ps) h))
  where
    go : Dec (q ≡ p) → (1 ≤ count q ps → belongs b k q ≡ true) → belongs b k q ≡ true
    go (yes e) r = rw e (and_left (belongs b k p) (all_belong b k ps) h)
    go (no e) r = r (omega (arith, ap one_if (eqb_no q p e)))

pub belong_all : (b : Board) (k : ℕ) (qs : List ℕ) → ((q : ℕ) → 1 ≤ count q qs → belongs b k q ≡ true) → all_belong b k qs ≡ true
unfolding all_belong count
belong_all b k [] h = refl
belong_all b k (p ∷ ps) h =
    and_both (belongs b k p) (all_belong b k ps) (h p (omega (arith, ap one_if (eqb_yes p p refl)))) (belong_all b k ps (λ q c. h q (omega arith)))

pub record Belongs (b : Board) (k p : ℕ) : Type 0 where
  pub inside : p < 64
  pub listed : in_order p (get_or b.counts p 0) b.slot ≡ true
  pub class : of_class k (get_or b.shares p 0) ≡ true
  pub times : get_or b.ready p 0 / 2 ^ k * 2 ^ k ≡ get_or b.ready p 0
  pub soon : get_or b.ready p 0 ≤ next_start k b.clock

pub d_belongs : (b : Board) (k p : ℕ) → Decides (belongs b k p) (Belongs b k p)
unfolding belongs
d_belongs b k p =
    d_iff (d_and (d_leb (suc p) 64) (d_and (d_true (in_order p (get_or b.counts p 0) b.slot)) (d_and (d_true (of_class k (get_or b.shares p 0)))
    (d_and (d_eqb (get_or b.ready p 0 / 2 ^ k * 2 ^ k) (get_or b.ready p 0)) (d_leb (get_or b.ready p 0) (next_start k b.clock))))))
    (λ w. record { inside = w.0; listed = w.1.0; class = w.1.1.0; times = w.1.1.1.0; soon = w.1.1.1.1 })
    (λ w. (w.inside, (w.listed, (w.class, (w.times, w.soon)))))
