-- A value that is not spoilt passes every rule of the test.
use mathlib.Core.Path.{◌≡◌, refl, sym, ap, ap₂, subst, ◌∙◌}
use mathlib.Core.Bool.{Bool, true, false, cond, not, ◌&&◌, ◌||◌}
use mathlib.Core.Logic.{◌⊎◌, inl, inr}
use mathlib.Core.Option.{none, some}
use mathlib.Core.List.{List}
use Prim.Native.Nat.{ℕ, suc, ◌+◌, ◌*◌, ◌%◌, ◌^◌, ◌≤◌, ◌<◌}
use native.Mathlib.Omega.{arith}
use native.Mathlib.Nat.{div-add-mod'}
use native.Mathlib.Numerals.{add-one}
use lib.Dec.{leb, eqb}
use lib.ListN.{length, get_or, get_or-map}
use borrow.Author.Tests.{not-true}
use Rattle.base.specs.Sums.{one_if, below}
use Rattle.base.specs.Tests.{alike, all_below}
use Rattle.base.proofs.Numbers.{eqb_yes, leb_yes}
use Rattle.base.proofs.Sums.{below_ext}
use Rattle.base.proofs.Tests.{and_left, and_right, and_both}
use Rattle.base.proofs.Decides.{Each, d_and, d_imp, d_eqb, d_leb, d_true}
use Rattle.bits.specs.Sets.{set_below}
use Rattle.bits.proofs.Sets.{set_ext}
use Rattle.units.specs.Classes.{class_of, next_start}
use Rattle.units.specs.Credit.{largest_charge, charge_of}
use Rattle.lanes.specs.Lanes.{lane_entry}
use Rattle.rules.specs.Board
use Rattle.rules.specs.Board.{out, queued, serving, Place, free_place, at, front, bytes_charged, block_class, is_open, waits, used_share, active, pending}
use Rattle.rules.specs.Spoilt.{is_queued, is_serving, is_at, count, ready_num, slot_of}
use Rattle.rules.proofs.Shape.{listed_in}
use Rattle.rules.proofs.Slot.{serving_in}
use Rattle.rules.proofs.Spoilt.{PlacePasses, place_passes, d_ready, d_held, d_rising, unspoilt_tidy}
use Rattle.rules.proofs.Tidy.{Tidy}
use Rattle.rules.proofs.Turns.{busy}
use Rattle.board.specs.declared.Board as struct
use Rattle.board.specs.Reading.{last_link, behind, slot_left, encode, place_of, slot_by, view, Sound, bare_of, Sized}
use Rattle.board.proofs.Lists.{get_d_tab, linked_behind, behind_none}
use Rattle.board.proofs.Reading.{once, small, class, few}
use Rattle.board.proofs.Sound.{seventeen_view}
use Rattle.board.proofs.Walks.{ends, linked_ends, first_follow, follow_length}
use Rattle.spoilt_places.specs.Ranges.{size_in_range, numbers_apart, in_order, unused_is_zero, place_now, shares_fit, held_while_waiting, none_held}
use Rattle.spoilt_orders.specs.Walks.{clock_in_range, class_active, class_pending, blocks_in_order, length_of}
use Rattle.spoilt.specs.Test.{slot_open}
use Rattle.spoilt.proofs.Apart.{d_apart}
use Rattle.spoilt.proofs.Counts.{all_met}
use Rattle.spoilt.proofs.Walk.{order_of, walked_from}
use Rattle.spoilt.proofs.Places.{inner, share_at, number_at, waits_is, stand_is, serving_is, ready_is, number_is, share_is, ring_is, deficit_is, free_is}
use Rattle.spoilt.proofs.Places.{lengths_to, queued_at}
use Rattle.spoilt.proofs.Sets.{in_class_lem, Ordered, active_is, pending_is, quiet_is}
use Rattle.spoilt.proofs.Rules.{SlotRule, d_serves, Rules, place_rules_at, belong_all, Belongs, d_belongs}
use Rattle.spoilt.proofs.Spelling.{falls_as, last_is}
use Rattle.spoilt.proofs.Clauses.{used_is, front_charge}

module _ (b : struct.Board) (ids lens : List ℕ) (z : Sized b) (s : Sound b ids lens) where
  abbrev v : Board.Board
  v = view b ids lens

  tidy : Tidy (view b ids lens)
  tidy = unspoilt_tidy (view b ids lens) (seventeen_view b ids lens z.heads z.held) s.keeps

  -- the clauses on a place, by name
  passes : (p : ℕ) → p < 64 → PlacePasses b.largest (place_of b ids lens p)
  unfolding view
  passes p h = subst (PlacePasses b.largest) (inner b ids lens p h) (place_passes b.largest (at v p) (tidy.shape.place_ok p))

  -- ---- what the fields spell

  ready_field : (p : ℕ) → p < 64 → get_or b.ready p 0 ≡ ready_num (at v p).stand
  unfolding encode
  ready_field p h =
      sym (ap (λ (c : struct.Board). get_or c.ready p 0) s.spells) ∙ get_or-map (λ (x : Place). ready_num x.stand) v.places p free_place

  next_field : (p : ℕ) → p < 64 → get_or b.next p 0 ≡ behind p (v.orders (block_class (at v p)))
  unfolding encode
  next_field p h = sym (ap (λ (c : struct.Board). get_or c.next p 0) s.spells) ∙ get_d_tab 64 (λ i. behind i (v.orders (block_class (at v i)))) p 0 h

  tail_field : (k : ℕ) → k < 17 → get_or b.tails k 0 ≡ last_link (v.orders k)
  unfolding encode
  tail_field k h = sym (ap (λ (c : struct.Board). get_or c.tails k 0) s.spells) ∙ get_d_tab 17 (λ j. last_link (v.orders j)) k 0 h

  left_field : b.left.0 ≡ slot_left v.places v.slot
  unfolding encode
  left_field = sym (ap (λ (c : struct.Board). c.left.0) s.spells)

  active_field : b.active ≡ set_below 17 (active v)
  unfolding encode
  active_field = sym (ap (λ (c : struct.Board). c.active) s.spells)

  pending_field : b.pending ≡ set_below 17 (pending v)
  unfolding encode
  pending_field = sym (ap (λ (c : struct.Board). c.pending) s.spells)

  slot_as : (p : ℕ) → b.slot ≡ suc p → v.slot ≡ some p
  unfolding view
  slot_as p e = ap slot_by e

  -- ---- a place

  unused : (p : ℕ) → p < 64 → unused_is_zero (in_order p (get_or b.counts p 0) b.slot) (place_now b p) ≡ true
  unfolding unused_is_zero
  unused p h = go (in_order p (get_or b.counts p 0) b.slot) refl
    where
      go : (t : Bool) → in_order p (get_or b.counts p 0) b.slot ≡ t → t || (eqb (get_or b.ready p 0) 0 && eqb (get_or b.next p 0) 0) ≡ true
      go true e = refl
      go false e =
          and_both (eqb (get_or b.ready p 0) 0) (eqb (get_or b.next p 0) 0) (eqb_yes (get_or b.ready p 0) 0 no_ready)
          (eqb_yes (get_or b.next p 0) 0 no_next)
        where
          no_ready : get_or b.ready p 0 ≡ 0
          no_ready =
              ready_field p h ∙ ap (λ (x : Place). ready_num x.stand) (inner b ids lens p h) ∙ ready_is b ids lens p
              ∙ ap (λ (t : Bool). cond t (get_or b.ready p 0) 0) e

          no_next : get_or b.next p 0 ≡ 0
          no_next =
              next_field p h ∙ behind_none p (v.orders (block_class (at v p)))
              (tidy.shape.listed (block_class (at v p)) p
              ∙ ap (λ (t : Bool). one_if (t && eqb (block_class (at v p)) (block_class (at v p)))) (queued_at b ids lens p h ∙ e))

  place_rules_lem : (p : ℕ) → p < 64 → Each (place_rules_at b p)
  unfolding view
  place_rules_lem p h = (
    sym (number_is b ids lens p) ∙ (passes p h).number,
    (
      sym (share_is b ids lens p) ∙ (passes p h).share,
      (
        sym (ring_is b ids lens p) ∙ (passes p h).ring,
        (
          sym (deficit_is b ids lens p) ∙ (passes p h).deficit,
          (
            sym (free_is b ids lens p) ∙ (passes p h).free,
            (
              unused p h,
              tt,
            ),
          ),
        ),
      ),
    ),
  )

  -- ---- the orders and the slot

  open_at : (p : ℕ) → p < 64 → eqb (get_or b.counts p 0) 0 ≡ false → 1 ≤ get_or b.shares p 0
  unfolding place_of bare_of
  open_at p h e =
      (d_imp (waits (place_of b ids lens p)) (d_leb 1 (get_or b.shares p 0))).yes (and_right (alike (waits (place_of b ids lens p)) _) _ (passes p h).stands)
      (waits_is b ids lens p ∙ ap not e)

  slot_at : (p : ℕ) → b.slot ≡ suc p → (p < 64) × (eqb (get_or b.counts p 0) 0 ≡ false)
  slot_at p e = (
    inside,
    not-true (eqb (get_or b.counts p 0) 0)
        (and_left (not (eqb (get_or b.counts p 0) 0)) _
        (sym (serving_is b ids lens p) ∙ ap (λ (x : Place). is_serving x.stand) (sym (inner b ids lens p inside)) ∙ serves)),
  )
    where
      serves : is_serving (at v p).stand ≡ true
      serves = tidy.one p ∙ ap (is_at p) (slot_as p e) ∙ eqb_yes p p refl

      inside : p < 64
      inside = omega (arith, serving_in v.places p serves, tidy.shape.all64)

  ordered : Ordered b ids lens
  ordered = record {
    listed = λ k h p l. tidy.shape.listed k p;
    inside = λ k h p c. small v tidy k p c;
    rising = λ k h. tidy.shape.rising k;
    slot = slot_at;
    share = λ p h. omega (arith, (tidy.shape.place_ok p).most, share_at b ids lens p h);
    is_open = open_at;
  }

  listed_at : (k q : ℕ) → 1 ≤ count q (v.orders k) → (is_queued (at v q).stand ≡ true) × (k ≡ block_class (at v q))
  listed_at k q c = listed_in v.places v.orders tidy.shape.listed k q c

  ready_at : (k q : ℕ) → 1 ≤ count q (v.orders k) → (ready_num (at v q).stand % 2 ^ k ≡ 0) × (ready_num (at v q).stand ≤ next_start k b.clock)
  unfolding view
  ready_at k q c =
      rw (← same) at ((d_imp (is_queued (at v q).stand)
      (d_and (d_eqb (ready_num (at v q).stand % 2 ^ block_class (at v q)) 0)
      (d_leb (ready_num (at v q).stand) (next_start (block_class (at v q)) b.clock)))).yes
      ((d_ready b.clock (at v q)).no (tidy.shape.seat q)) (listed_at k q c).0)
    where
      same : k ≡ block_class (at v q)
      same = (listed_at k q c).1

  belong : (k q : ℕ) → 1 ≤ count q (v.orders k) → Belongs b k q
  unfolding in_order
  belong k q c = record {
    inside = inside;
    listed = listed;
    class =
        in_class_lem (get_or b.shares q 0) k (open_at q inside waiting) (omega (arith, (tidy.shape.place_ok q).most, share_at b ids lens q inside))
        ∙ eqb_yes k (class_of (get_or b.shares q 0)) ((listed_at k q c).1 ∙ ap class_of (share_at b ids lens q inside));
    times = omega (arith, times, div-add-mod' (get_or b.ready q 0) (2 ^ k));
    soon = omega (arith, (ready_at k q c).1, ready_field q inside);
  }
    where
      inside : q < 64
      inside = small v tidy k q c

      listed : in_order q (get_or b.counts q 0) b.slot ≡ true
      listed = sym (queued_at b ids lens q inside) ∙ (listed_at k q c).0

      waiting : eqb (get_or b.counts q 0) 0 ≡ false
      waiting = not-true (eqb (get_or b.counts q 0) 0) (and_left (not (eqb (get_or b.counts q 0) 0)) _ listed)

      times : get_or b.ready q 0 % 2 ^ k ≡ 0
      times = ap (λ (n : ℕ). n % 2 ^ k) (ready_field q inside) ∙ (ready_at k q c).0

  walks : (k : ℕ) → k < 17 → length_of b k ≡ length (order_of b k)
  unfolding view
  walks k h = walked_from b k ends! (belong_all b k (order_of b k) (λ q c. (d_belongs b k q).no (belong k q c)))
      (sym (falls_as v.places b.ready (order_of b k) (λ q c. sym (ready_field q (small v tidy k q c))))
      ∙ (d_rising v.places (v.orders k)).no (tidy.shape.rising k))
      (last_is (order_of b k) ∙ sym (tail_field k h))
    where
      ends! : ends b.next 64 (get_or b.heads k 0) ≡ true
      ends! =
          sym (ap (ends b.next 64) (first_follow b.next (get_or b.heads k 0)))
          ∙ linked_ends b.next 64 (order_of b k) (follow_length b.next 64 (get_or b.heads k 0))
          (linked_behind b.next (order_of b k) (once v tidy k)
          (λ q c. next_field q (small v tidy k q c) ∙ ap (λ (j : ℕ). behind q (v.orders j)) (class v tidy k q c)))

  all_listed : below (length_of b) 17 ≡ blocks_in_order b.slot b.counts
  unfolding view blocks_in_order
  all_listed =
      below_ext (length_of b) (λ k. length (order_of b k)) 17 walks
      ∙ all_met v.places (order_of b) (λ k h q l. few v tidy k q l) (λ k h q l. tidy.shape.listed k q)
      ∙ below_ext (λ p. one_if (is_queued (at v p).stand)) (λ p. one_if (in_order p (get_or b.counts p 0) b.slot)) 64
      (λ p h. ap one_if (queued_at b ids lens p h))

  slot_none : b.slot ≡ 0 → v.slot ≡ none
  unfolding view
  slot_none e = ap slot_by e

  front_rule : (p : ℕ) → b.slot ≡ suc p → p < 64 → eqb (get_or b.counts p 0) 0 ≡ false
      → (bytes_charged (front (place_of b ids lens p)) * 65536 ≤ b.left.0) × (b.left.0 < 3 * largest_charge b.largest * 65536)
  unfolding view
  front_rule p e h c =
      ((d_and (d_true (waits (place_of b ids lens p)))
      (d_and (d_leb (bytes_charged (front (place_of b ids lens p)) * 65536) b.left.0)
      (d_leb (suc b.left.0) (3 * largest_charge b.largest * 65536)))).yes
      (ap (slot_of b.largest (place_of b ids lens p)) (sym stands) ∙ (passes p h).slot)).1
    where
      stands : (place_of b ids lens p).stand ≡ serving b.left.0
      stands =
          stand_is b ids lens p
          ∙ ap₂ (λ (c s : Bool). cond c out (cond s (serving b.left.0) (queued (get_or b.ready p 0)))) c (eqb_yes b.slot (p + 1) (e ∙ sym (add-one p)))

  early : (p : ℕ) → b.slot ≡ suc p → b.clock < 2 ^ 62
  unfolding view
  early p e = omega (arith, tidy.time, ap busy (slot_as p e))

  slot_rule : SlotRule b lens
  unfolding charge_of largest_charge
  slot_rule =
      record { closed = λ e. left_field ∙ ap (slot_left v.places) (slot_none e); place = λ p e. (slot_at p e).0; serves = λ p e. serves p e (slot_at p e) }
    where
      serves : (p : ℕ) → b.slot ≡ suc p → (p < 64) × (eqb (get_or b.counts p 0) 0 ≡ false)
          → slot_open b.largest b.clock b.left.0 (get_or b.counts p 0) (get_or lens (lane_entry p (get_or b.starts p 0) 0) 0) ≡ true
      serves p e w = (d_serves b.largest b.clock b.left.0 (get_or b.counts p 0) (get_or lens (lane_entry p (get_or b.starts p 0) 0) 0)).no (record {
        waits = w.1;
        fits = omega (arith, (front_rule p e w.0 w.1).0, front_charge b ids lens p w.1);
        under = omega (arith, (front_rule p e w.0 w.1).1);
        early = early p e;
      })

  apart : numbers_apart b.numbers ≡ true
  apart = (d_apart b.numbers z.numbers).no (λ p h. go p h (tidy.shape.place_ok p).named)
    where
      named : (p q : ℕ) → p < 64 → q < 64 → 1 ≤ (at v p).number → get_or b.numbers p 0 ≡ get_or b.numbers q 0
          → (at v q ≡ free_place) ⊎ ((1 ≤ (at v q).number) × (1 ≤ (at v q).share)) → 1 ≤ (at v q).share
      named p q h l n e (inl f) = absurd (omega (arith, n, number_at b ids lens p h, number_at b ids lens q l, ap (λ (x : Place). x.number) f))
      named p q h l n e (inr f) = f.1

      go : (p : ℕ) → p < 64 → (at v p ≡ free_place) ⊎ ((1 ≤ (at v p).number) × (1 ≤ (at v p).share))
          → (get_or b.numbers p 0 ≡ 0) ⊎ ((q : ℕ) → q < 64 → get_or b.numbers p 0 ≡ get_or b.numbers q 0 → p ≡ q)
      go p h (inl f) = inl (sym (number_at b ids lens p h) ∙ ap (λ (x : Place). x.number) f)
      go p h (inr f) =
          inr (λ q l e. tidy.shape.names p q f.1 (named p q h l f.0 e (tidy.shape.place_ok q).named)
          (number_at b ids lens p h ∙ e ∙ sym (number_at b ids lens q l)))

  pub rules_of : Rules b lens
  unfolding view used_share size_in_range clock_in_range shares_fit held_while_waiting none_held
  rules_of = record {
    size =
        and_both (leb 64 b.largest) (leb b.largest 2048) (leb_yes 64 b.largest tidy.shape.least) (leb_yes b.largest 2048 tidy.shape.most);
    clock = leb_yes b.clock (2 ^ 62) (omega (arith, tidy.time));
    apart = apart;
    places = place_rules_lem;
    lanes = λ p h. lengths_to b ids lens p (passes p h).lengths;
    shares = ap (λ (n : ℕ). leb n 65536) (sym (used_is b ids lens z)) ∙ leb_yes (used_share v) 65536 tidy.shape.used_share;
    held =
        ap (λ (t : Bool). not t || all_below 17 (λ k. eqb (get_or b.held k 0) 0)) (ap (λ (n : ℕ). eqb n 0) active_field ∙ sym (quiet_is b ids lens ordered))
        ∙ (d_held v).no (λ q k _. tidy.calm q k);
    slot = slot_rule;
    orders = λ k h. omega (arith, walks k h, follow_length b.next 64 (get_or b.heads k 0));
    listed = all_listed;
    active = active_field ∙ set_ext (active v) (class_active b.slot b.shares b.heads) 17 (active_is b ids lens ordered);
    pending = pending_field ∙ set_ext (pending v) (class_pending b.clock b.ready b.heads) 17 (pending_is b ids lens ordered);
  }
