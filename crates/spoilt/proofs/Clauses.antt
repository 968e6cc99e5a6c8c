-- The board that is read from a value that passes the rules breaks no clause of 'spoilt'.
use mathlib.Core.Path.{◌≡◌, refl, sym, ap, ap₂, ◌∙◌}
use mathlib.Core.Bool.{Bool, true, false, cond, not, ◌&&◌, ◌||◌, true≢false}
use mathlib.Core.Logic.{◌⊎◌, inl, inr}
use mathlib.Core.List.{List, [], ◌∷◌}
use Prim.Native.Nat.{ℕ, zero, suc, ◌+◌, ◌*◌, ◌%◌, ◌^◌, ◌≤◌, ◌<◌}
use native.Mathlib.Omega.{arith}
use native.Mathlib.Nat.{div-add-mod', suc_inj}
use native.Mathlib.Numerals.{add-one}
use native.Mathlib.Decide.{ℕ_discrete}
use lib.Dec.{leb, ltb, eqb}
use lib.ListN.{length, get_or}
use borrow.Author.Tests.{ne_eqb, le-leb}
use Rattle.base.specs.Sums.{one_if, sum, below}
use Rattle.base.specs.Tests.{alike, all_below}
use Rattle.base.proofs.Numbers.{eqb_yes, eqb_no, eqb_true}
use Rattle.base.proofs.Sums.{below_first}
use Rattle.base.proofs.Tests.{and_both, all_intro}
use Rattle.base.proofs.Decides.{d_every, d_and, d_or, d_not, d_eqb, d_leb, d_imp}
use Rattle.arrays.specs.Lists.{total_of}
use Rattle.arrays.proofs.Totals.{total_below}
use Rattle.units.specs.Classes.{next_start}
use Rattle.units.specs.Credit.{charged, largest_charge, charge_of}
use Rattle.units.proofs.Classes.{class_le}
use Rattle.lanes.specs.Lanes.{lane_entry}
use Rattle.rules.specs.Board
use Rattle.rules.specs.Board.{Record, bytes_charged, out, queued, serving, Place, at, front, block_class, is_open, waits, used_share}
use Rattle.rules.specs.Spoilt
use Rattle.rules.specs.Spoilt.{every_place, is_queued, is_serving, lengths_in, stands_by_lane, is_at, count, in_class, all_places, slot_at_place, orders_listed}
use Rattle.rules.specs.Spoilt.{ready_num}
use Rattle.rules.specs.Spoilt.{never_falling, slot_of, slot_in_time, clauses, unspoilt}
use Rattle.board.specs.declared.Board as struct
use Rattle.board.specs.Reading.{tab, bare_of, place_of, slot_by, view, Sized}
use Rattle.board.proofs.Rings.{lane_at}
use Rattle.board.proofs.ClassSets.{and_never}
use Rattle.spoilt_places.specs.Ranges.{size_in_range, number_in_range, in_order, shares_fit, held_while_waiting, none_held}
use Rattle.spoilt_orders.specs.Walks.{clock_in_range}
use Rattle.spoilt.proofs.Apart.{d_apart}
use Rattle.spoilt.proofs.Places.{stand_is, inner, waits_is, queued_is, serving_is, number_is, share_is, ring_is, deficit_is, free_is, lengths_from}
use Rattle.spoilt.proofs.Places.{record_is, share_at, number_at, queued_at, all_64}
use Rattle.spoilt.proofs.Sets.{quiet_is}
use Rattle.spoilt.proofs.Rules.{Rules, Belongs}
use Rattle.spoilt.proofs.Spelling.{walk!, member, member_ready, ready_at, open_at, lists_all, slot_at, ordered, falls_as, active_field, slot_serves}
use Rattle.spoilt.proofs.Walk.{order_of}

-- ---- the shares of the places that are read

sum_tab : {A : Type 0} (f : A → ℕ) (n : ℕ) (g : ℕ → A) → sum f (tab n g) ≡ below (λ i. f (g i)) n
unfolding tab sum below
sum_tab f zero g = refl
sum_tab f (suc n) g = omega (arith, sum_tab f n (λ i. g (suc i)), below_first (λ i. f (g i)) n)

pub used_is : (b : struct.Board) (ids lens : List ℕ) → Sized b → used_share (view b ids lens) ≡ total_of b.shares + total_of b.held
unfolding used_share view place_of bare_of
used_is b ids lens z =
    ap₂ (λ (m n : ℕ). m + n)
    (sum_tab (λ (x : Place). x.share) 64 (place_of b ids lens) ∙ sym (total_below b.shares 64 (λ p. get_or b.shares p 0) z.shares (λ p l. refl)))
    (sym (total_below b.held 17 (λ k. get_or b.held k 0) z.held (λ k l. refl)))

-- ---- a test of every place that is read

pub every_from : (b : struct.Board) (ids lens : List ℕ) (t : Place → Bool) → ((p : ℕ) → p < 64 → t (place_of b ids lens p) ≡ true)
    → every_place (view b ids lens) t ≡ true
every_from b ids lens t h = all_intro (λ p. t (at (view b ids lens) p)) 64 (λ p l. rw (inner b ids lens p l) (h p l))

-- the front record's charge, in parts
pub front_charge : (b : struct.Board) (ids lens : List ℕ) (p : ℕ) → eqb (get_or b.counts p 0) 0 ≡ false
    → bytes_charged (front (place_of b ids lens p)) * 65536 ≡ charge_of (get_or lens (lane_entry p (get_or b.starts p 0) 0) 0)
unfolding bytes_charged charge_of place_of
front_charge b ids lens p e =
    ap (λ (r : Record). charged r.bytes * 65536) (lane_at ids lens p (bare_of b p) (get_or b.counts p 0) 0 (pos (get_or b.counts p 0) e))
    ∙ ap (λ (i : ℕ). charged (get_or lens i 0) * 65536) (record_is b ids lens p 0)
  where
    pos : (n : ℕ) → eqb n 0 ≡ false → 0 < n
    pos zero f = absurd (true≢false f)
    pos (suc n) f = omega arith

-- every place of a list is one of the board
pub all_places_lem : (qs : List ℕ) → ((q : ℕ) → 1 ≤ count q qs → q < 64) → all_places qs ≡ true
unfolding all_places count
all_places_lem [] h = refl
all_places_lem (q ∷ qs) h =
    and_both (ltb q 64) (all_places qs) (le-leb (suc q) 64 (h q (omega (arith, ap one_if (eqb_yes q q refl))))) (all_places_lem qs (λ p c. h p (omega arith)))

module _ (b : struct.Board) (ids lens : List ℕ) (z : Sized b) (r : Rules b lens) where
  abbrev v : Board.Board
  v = view b ids lens

  -- open block numbers distinct
  alone : (p q : ℕ) → p < 64 → q < 64 → 1 ≤ get_or b.shares p 0 → get_or b.numbers p 0 ≡ get_or b.numbers q 0 → p ≡ q
  unfolding number_in_range
  alone p q hp hq s e =
      go ((d_imp (ltb 0 (get_or b.shares p 0)) (d_leb 1 (get_or b.numbers p 0))).yes (r.places p hp).0 (le-leb 1 (get_or b.shares p 0) s))
      ((d_apart b.numbers z.numbers).yes r.apart p hp)
    where
      go : 1 ≤ get_or b.numbers p 0 → (get_or b.numbers p 0 ≡ 0) ⊎ ((i : ℕ) → i < 64 → get_or b.numbers p 0 ≡ get_or b.numbers i 0 → p ≡ i) → p ≡ q
      go l (inl f) = absurd (omega arith)
      go l (inr f) = f q hq e

  apart_clause : Spoilt.numbers_apart v ≡ true
  unfolding Spoilt.numbers_apart
  apart_clause = all_intro _ 64 (λ p hp. all_intro _ 64 (λ q hq. test p q hp hq))
    where
      test : (p q : ℕ) → p < 64 → q < 64 → eqb p q || not (is_open (at v p) && (is_open (at v q) && eqb (at v p).number (at v q).number)) ≡ true
      test p q hp hq =
          (d_or (d_eqb p q) (d_not (d_and (d_leb 1 (at v p).share) (d_and (d_leb 1 (at v q).share) (d_eqb (at v p).number (at v q).number))))).no
          (go (ℕ_discrete p q))
        where
          go : Dec (p ≡ q) → (p ≡ q) ⊎ ((1 ≤ (at v p).share) × ((1 ≤ (at v q).share) × ((at v p).number ≡ (at v q).number)) → ⊥)
          go (yes e) = inl e
          go (no e) =
              inr (λ w. e (alone p q hp hq (omega (arith, w.0, share_at b ids lens p hp))
              (sym (number_at b ids lens p hp) ∙ w.1.1 ∙ number_at b ids lens q hq)))

  -- each waiting block in an order or in the open slot
  stands : (p : ℕ) → p < 64 → stands_by_lane (place_of b ids lens p) ≡ true
  unfolding in_order
  stands p h = rw (waits_is b ids lens p, queued_is b ids lens p, serving_is b ids lens p) (go (eqb (get_or b.counts p 0) 0) refl (eqb b.slot (p + 1)))
    where
      has_share : eqb (get_or b.counts p 0) 0 ≡ false → is_open (place_of b ids lens p) ≡ true
      has_share e = ap is_open (sym (inner b ids lens p h)) ∙ le-leb 1 (at v p).share (omega (arith, share_at b ids lens p h, open_at b ids lens r p h e))

      go : (c : Bool) → eqb (get_or b.counts p 0) 0 ≡ c → (s : Bool)
          → alike (not c) ((not c && not s) || (not c && s)) && (not (not c) || is_open (place_of b ids lens p)) ≡ true
      go true e s = refl
      go false e true = has_share e
      go false e false = has_share e

  -- the open slot's block and no other
  one_serves : (p : ℕ) → p < 64 → alike (is_serving (at v p).stand) (is_at p v.slot) ≡ true
  unfolding view
  one_serves p h = rw (inner b ids lens p h, serving_is b ids lens p, add-one p) (go b.slot refl)
    where
      go : (s : ℕ) → b.slot ≡ s → alike (not (eqb (get_or b.counts p 0) 0) && eqb s (suc p)) (is_at p (slot_by s)) ≡ true
      go zero e = rw (ne_eqb 0 (suc p) (λ f. omega arith), and_never (not (eqb (get_or b.counts p 0) 0)))
      go (suc q) e = by (ℕ_discrete p q)
        where
          by : Dec (p ≡ q) → alike (not (eqb (get_or b.counts p 0) 0) && eqb (suc q) (suc p)) (eqb p q) ≡ true
          by (yes f) = rw (eqb_yes (suc q) (suc p) (ap suc (sym f)), eqb_yes p q f, (slot_at b ids lens r p (e ∙ ap suc (sym f))).1)
          by (no f) = rw (eqb_no (suc q) (suc p) (λ g. f (suc_inj (sym g))), eqb_no p q f, and_never (not (eqb (get_or b.counts p 0) 0)))

  size : Spoilt.size_in_range v ≡ true
  unfolding view size_in_range
  size = r.size

  clock : Spoilt.clock_in_range v ≡ true
  unfolding view clock_in_range
  clock = r.clock

  fits : leb (used_share v) 65536 ≡ true
  unfolding shares_fit
  fits = ap (λ (n : ℕ). leb n 65536) (used_is b ids lens z) ∙ r.shares

  rising : (k : ℕ) → k < 17 → never_falling v.places (v.orders k) ≡ true
  unfolding view
  rising k h = falls_as v.places b.ready (order_of b k) (member_ready b ids lens r k h) ∙ (walk! b ids lens r k h).rises

  slot_place : slot_at_place v.slot ≡ true
  unfolding view
  slot_place = go b.slot refl
    where
      go : (s : ℕ) → b.slot ≡ s → slot_at_place (slot_by s) ≡ true
      go zero e = refl
      go (suc p) e = le-leb (suc p) 64 (r.slot.place p e)

  lists : orders_listed v ≡ true
  unfolding orders_listed view
  lists =
      and_both (all_below 64 (λ p. alike (is_serving (at v p).stand) (is_at p v.slot))) _ (all_intro _ 64 one_serves)
      (and_both (slot_at_place v.slot) _ slot_place
      (and_both (all_below 17 (λ k. all_below 64 (λ p. eqb (count p (v.orders k)) (one_if (in_class k (at v p)))))) _
      (all_intro _ 17 (λ k hk. all_intro _ 64 (λ p hp. eqb_yes (count p (order_of b k)) (one_if (in_class k (at v p))) (lists_all b ids lens r k hk p hp))))
      (all_intro _ 17 (λ k hk. all_places_lem (order_of b k) (λ q c. (member b ids lens r k hk q c).inside)))))

  -- ready times of the blocks in an order
  readies : (p : ℕ) → p < 64 → Spoilt.ready_in_range b.clock (at v p) ≡ true
  readies p h =
      (d_imp (is_queued (at v p).stand) (d_and (d_eqb (ready_num (at v p).stand % 2 ^ k) 0) (d_leb (ready_num (at v p).stand) (next_start k b.clock)))).no
      (λ e. (multiple e, soon e))
    where
      k : ℕ
      k = block_class (at v p)

      own : is_queued (at v p).stand ≡ true → Belongs b k p
      own e =
          member b ids lens r k (omega (arith, class_le (at v p).share)) p
          (omega (arith, lists_all b ids lens r k (omega (arith, class_le (at v p).share)) p h, ap one_if (ap₂ (λ (s t : Bool). s && t) e (eqb_yes k k refl))))

      same : is_queued (at v p).stand ≡ true → ready_num (at v p).stand ≡ get_or b.ready p 0
      same e = ready_at b ids lens r p h (sym (queued_at b ids lens p h) ∙ e)

      multiple : is_queued (at v p).stand ≡ true → ready_num (at v p).stand % 2 ^ k ≡ 0
      multiple e = ap (λ (n : ℕ). n % 2 ^ k) (same e) ∙ omega (arith, (own e).times, div-add-mod' (get_or b.ready p 0) (2 ^ k))

      soon : is_queued (at v p).stand ≡ true → ready_num (at v p).stand ≤ next_start k b.clock
      soon e = omega (arith, same e, (own e).soon)

  -- the open slot's block
  slot_front : (p : ℕ) → p < 64 → slot_of b.largest (place_of b ids lens p) (place_of b ids lens p).stand ≡ true
  unfolding charge_of largest_charge
  slot_front p h = ap (slot_of b.largest (place_of b ids lens p)) (stand_is b ids lens p) ∙ go (eqb (get_or b.counts p 0) 0) refl (eqb b.slot (p + 1)) refl
    where
      go : (c : Bool) → eqb (get_or b.counts p 0) 0 ≡ c → (s : Bool) → eqb b.slot (p + 1) ≡ s
          → slot_of b.largest (place_of b ids lens p) (cond c out (cond s (serving b.left.0) (queued (get_or b.ready p 0)))) ≡ true
      go true ec s es = refl
      go false ec false es = refl
      go false ec true es =
          let w = slot_serves b ids lens r p (eqb_true b.slot (p + 1) es ∙ add-one p) in
          and_both (waits (place_of b ids lens p)) _ (waits_is b ids lens p ∙ ap not ec)
          (and_both (leb (bytes_charged (front (place_of b ids lens p)) * 65536) b.left.0) _
          (le-leb (bytes_charged (front (place_of b ids lens p)) * 65536) b.left.0 (omega (arith, w.fits, front_charge b ids lens p ec)))
          (le-leb (suc b.left.0) (3 * largest_charge b.largest * 65536) (omega (arith, w.under))))

  slot_time : slot_in_time v.slot v.clock ≡ true
  unfolding view
  slot_time = go b.slot refl
    where
      go : (s : ℕ) → b.slot ≡ s → slot_in_time (slot_by s) b.clock ≡ true
      go zero e = refl
      go (suc p) e = le-leb (suc b.clock) (2 ^ 62) (slot_serves b ids lens r p e).early

  held_clause : Spoilt.held_while_waiting v ≡ true
  unfolding held_while_waiting none_held view
  held_clause =
      ap (λ (t : Bool). not t || all_below 17 (λ k. eqb (get_or b.held k 0) 0))
      (quiet_is b ids lens (ordered b ids lens r) ∙ ap (λ (n : ℕ). eqb n 0) (active_field b ids lens r z)) ∙ r.held

  pub keeps_is : unspoilt v ≡ true
  unfolding unspoilt view
  keeps_is = (d_every (clauses v)).no (
    eqb_yes (length v.places) 64 (all_64 b ids lens),
    (
      size,
      (
        clock,
        (
          apart_clause,
          (
            each Spoilt.number_in_range (λ p h. number_is b ids lens p ∙ (r.places p h).0),
            (
              each Spoilt.share_in_range (λ p h. share_is b ids lens p ∙ (r.places p h).1.0),
              (
                each Spoilt.ring_in_range (λ p h. ring_is b ids lens p ∙ (r.places p h).1.1.0),
                (
                  each (λ x. lengths_in b.largest x.lane) (λ p h. lengths_from b ids lens p (r.lanes p h)),
                  (
                    each (Spoilt.deficit_in_range b.largest) (λ p h. deficit_is b ids lens p ∙ (r.places p h).1.1.1.0),
                    (
                      each Spoilt.free_is_zero (λ p h. free_is b ids lens p ∙ (r.places p h).1.1.1.1.0),
                      (
                        fits,
                        (
                          held_clause,
                          (
                            each stands_by_lane stands,
                            (
                              lists,
                              (
                                all_intro (λ p. Spoilt.ready_in_range b.clock (at v p)) 64 readies,
                                (
                                  all_intro (λ k. never_falling v.places (v.orders k)) 17 rising,
                                  (
                                    each (λ x. slot_of b.largest x x.stand) slot_front,
                                    (
                                      slot_time,
                                      tt,
                                    ),
                                  ),
                                ),
                              ),
                            ),
                          ),
                        ),
                      ),
                    ),
                  ),
                ),
              ),
            ),
          ),
        ),
      ),
    ),
  )
    where
      each : (t : Place → Bool) → ((p : ℕ) → p < 64 → t (place_of b ids lens p) ≡ true) → every_place v t ≡ true
      each = every_from b ids lens
