-- A value that passes the rules spells a board: its orders list what they must, and each field is what the board that is read is written as.
use mathlib.Core.Path.{◌≡◌, refl, sym, ap, ap₂, ◌∙◌}
use mathlib.Core.Bool.{Bool, true, false, cond, not, ◌&&◌, true≢false}
use mathlib.Core.Logic.{◌⊎◌, inl, inr, ⊎_elim}
use mathlib.Core.List.{List, [], ◌∷◌, map}
use Prim.Native.Nat.{ℕ, zero, suc, ◌≤◌, ◌<◌}
use native.Mathlib.Omega.{arith}
use native.Mathlib.Decide.{ℕ_discrete}
use lib.Dec.{leb, eqb}
use lib.ListN.{length, get_or}
use borrow.Author.Tests.{le-leb, not-true}
use Rattle.base.specs.Sums.{one_if}
use Rattle.base.proofs.Numbers.{split, eqb_yes, eqb_no, true_le}
use Rattle.base.proofs.Sums.{below_ext}
use Rattle.base.proofs.Tests.{and_left, and_right, and_both}
use Rattle.base.proofs.Decides.{d_and, d_or, d_eqb, d_leb, d_true}
use Rattle.bits.specs.Sets.{set_below}
use Rattle.bits.proofs.Sets.{set_ext}
use Rattle.units.specs.Classes.{class_of}
use Rattle.units.proofs.Classes.{class_le}
use Rattle.lanes.specs.Lanes.{lane_entry}
use Rattle.rules.specs.Board
use Rattle.rules.specs.Board.{Place, at, block_class, active, pending}
use Rattle.rules.specs.Choice.{left_of}
use Rattle.rules.specs.Spoilt.{count, is_queued, in_class, ready_num, never_falling}
use Rattle.rules.proofs.Orders.{Rising, ready}
use Rattle.board.specs.declared.Board as struct
use Rattle.board.specs.Reading.{tab, last_link, behind, slot_link, slot_left, encode, stand_by, bare_of, place_of, slot_by, view, Sized}
use Rattle.board.proofs.Lists.{tab_of, behind_none}
use Rattle.board.proofs.Same.{same}
use Rattle.board.proofs.Walks.{ends_once, ends_behind, first_follow}
use Rattle.spoilt_places.specs.declared.PlaceNow.{PlaceNow}
use Rattle.spoilt_places.specs.Ranges.{in_order, free_is_zero, share_in_range, unused_is_zero, place_now}
use Rattle.spoilt_orders.specs.Walks.{class_active, class_pending, blocks_in_order, length_of}
use Rattle.spoilt.proofs.Counts.{all_listed}
use Rattle.spoilt.proofs.Walk.{rises_from, last_from, Walked, walked, order_of}
use Rattle.spoilt.proofs.Places.{inner, lane_long, ready_is, share_at, queued_at}
use Rattle.spoilt.proofs.Sets.{in_class_lem, Ordered, active_is, pending_is}
use Rattle.spoilt.proofs.Rules.{Rules, belong_at, Belongs, d_belongs, SlotAsks, d_serves}

-- ---- along a list of places

-- ready times that never fall, by the array and by the places
fall_is : (l : List Place) (times : List ℕ) (qs : List ℕ) → ((q : ℕ) → 1 ≤ count q qs → ready l q ≡ get_or times q 0) → (q : ℕ) → ready l q ≡ get_or times q 0
    → never_falling l (q ∷ qs) ≡ rises_from times (get_or times q 0) qs
unfolding never_falling rises_from count
fall_is l times [] e q f = refl
fall_is l times (p ∷ ps) e q f = ap₂ (λ (s t : Bool). s && t) (ap₂ leb f here) (fall_is l times ps (λ r c. e r (omega arith)) p here)
  where
    here : ready l p ≡ get_or times p 0
    here = e p (omega (arith, ap one_if (eqb_yes p p refl)))

pub falls_as : (l : List Place) (times : List ℕ) (qs : List ℕ) → ((q : ℕ) → 1 ≤ count q qs → ready l q ≡ get_or times q 0)
    → never_falling l qs ≡ rises_from times 0 qs
unfolding never_falling rises_from count
falls_as l times [] e = refl
falls_as l times (q ∷ qs) e =
    fall_is l times qs (λ r c. e r (omega arith)) q (e q (omega (arith, ap one_if (eqb_yes q q refl))))
    ∙ ap (λ (t : Bool). t && rises_from times (get_or times q 0) qs) (sym (le-leb 0 (get_or times q 0) (omega arith)))

-- and each is at most the later ones
rises_least : (times : List ℕ) (least : ℕ) (qs : List ℕ) → rises_from times least qs ≡ true → (q : ℕ) → 1 ≤ count q qs → least ≤ get_or times q 0
unfolding rises_from count
rises_least times least [] h q c = absurd (omega arith)
rises_least times least (p ∷ ps) h q c =
    go (rises_least times (get_or times p 0) ps (and_right (leb least (get_or times p 0)) (rises_from times (get_or times p 0) ps) h) q) (ℕ_discrete q p)
  where
    low : least ≤ get_or times p 0
    low = true_le least (get_or times p 0) (and_left (leb least (get_or times p 0)) _ h)

    go : (1 ≤ count q ps → get_or times p 0 ≤ get_or times q 0) → Dec (q ≡ p) → least ≤ get_or times q 0
    go r (yes e) = rw e low
    go r (no e) = omega (arith, low, r (omega (arith, ap one_if (eqb_no q p e))))

rises_rising : (l : List Place) (times : List ℕ) (least : ℕ) (qs : List ℕ) → ((q : ℕ) → 1 ≤ count q qs → ready l q ≡ get_or times q 0)
    → rises_from times least qs ≡ true → Rising l qs
unfolding Rising rises_from count
rises_rising l times least [] e h = tt
rises_rising l times least (p ∷ ps) e h = (
  λ q c. omega (arith, e p (omega (arith, ap one_if (eqb_yes p p refl))), e q (omega arith), rises_least times (get_or times p 0) ps rest q c),
  rises_rising l times (get_or times p 0) ps (λ q c. e q (omega arith)) rest,
)
  where
    rest : rises_from times (get_or times p 0) ps ≡ true
    rest = and_right (leb least (get_or times p 0)) (rises_from times (get_or times p 0) ps) h

pub last_is : (qs : List ℕ) → last_from 0 qs ≡ last_link qs
unfolding last_from last_link
last_is [] = refl
last_is (q ∷ []) = refl
last_is (q ∷ (p ∷ ps)) = go (last_is (p ∷ ps))
  where
    go : last_from (suc p) ps ≡ last_link (p ∷ ps) → last_from (suc p) ps ≡ last_link (p ∷ ps)
    go e = e

map_tab : {A B : Type 0} (f : A → B) (n : ℕ) (g : ℕ → A) → map f (tab n g) ≡ tab n (λ i. f (g i))
unfolding tab
map_tab f zero g = refl
map_tab f (suc n) g = ap (λ (r : List _). f (g 0) ∷ r) (map_tab f n (λ i. g (suc i)))

-- ---- a place with records is not free

open_waits : (x : PlaceNow) → free_is_zero x ≡ true → eqb x.count 0 ≡ false → 1 ≤ x.share
unfolding free_is_zero
open_waits x h e =
    ⊎_elim
    (λ l. l)
    (λ f. absurd (true≢false (sym (and_left (eqb x.count 0) _ (and_right (eqb x.start 0) _ (and_right (eqb x.number 0) _ f))) ∙ e)))
    ((d_or (d_leb 1 x.share) (d_true _)).yes h)

-- ---- from the rules

module _ (b : struct.Board) (ids lens : List ℕ) (r : Rules b lens) where
  abbrev v : Board.Board
  v = view b ids lens

  pub walk! : (k : ℕ) → k < 17 → Walked b k
  walk! k h = walked b k (le-leb (length_of b k) 64 (r.orders k h))

  pub member : (k : ℕ) → k < 17 → (q : ℕ) → 1 ≤ count q (order_of b k) → Belongs b k q
  member k h q c = (d_belongs b k q).yes (belong_at b k (order_of b k) q (walk! k h).belong c)

  pub ready_at : (p : ℕ) → p < 64 → in_order p (get_or b.counts p 0) b.slot ≡ true → ready v.places p ≡ get_or b.ready p 0
  ready_at p h e = ap (λ (x : Place). ready_num x.stand) (inner b ids lens p h) ∙ ready_is b ids lens p ∙ ap (λ (t : Bool). cond t (get_or b.ready p 0) 0) e

  pub member_ready : (k : ℕ) → k < 17 → (q : ℕ) → 1 ≤ count q (order_of b k) → ready v.places q ≡ get_or b.ready q 0
  member_ready k h q c = let m = member k h q c in ready_at q m.inside m.listed

  pub shares_in : (p : ℕ) → p < 64 → get_or b.shares p 0 ≤ 65536
  unfolding share_in_range
  shares_in p h = true_le (get_or b.shares p 0) 65536 (r.places p h).1.0

  pub open_at : (p : ℕ) → p < 64 → eqb (get_or b.counts p 0) 0 ≡ false → 1 ≤ get_or b.shares p 0
  open_at p h e = open_waits (place_now b p) (r.places p h).1.1.1.1.0 e

  in_order_count : (p : ℕ) → in_order p (get_or b.counts p 0) b.slot ≡ true → eqb (get_or b.counts p 0) 0 ≡ false
  unfolding in_order
  in_order_count p e = not-true (eqb (get_or b.counts p 0) 0) (and_left (not (eqb (get_or b.counts p 0) 0)) _ e)

  class_of_lem : (k : ℕ) → k < 17 → (q : ℕ) → 1 ≤ count q (order_of b k) → in_class k (at v q) ≡ true
  class_of_lem k h q c =
      let m = member k h q c in
      and_both (is_queued (at v q).stand) (eqb k (block_class (at v q))) (queued_at b ids lens q m.inside ∙ m.listed)
      (ap (λ (s : ℕ). eqb k (class_of s)) (share_at b ids lens q m.inside)
      ∙ sym (in_class_lem (get_or b.shares q 0) k (open_at q m.inside (in_order_count q m.listed)) (shares_in q m.inside)) ∙ m.class)

  none_outside : (k : ℕ) → k < 17 → (q : ℕ) → 64 ≤ q → count q (order_of b k) ≡ 0
  none_outside k h q l = go (split 1 (count q (order_of b k)))
    where
      go : (1 ≤ count q (order_of b k)) ⊎ (count q (order_of b k) < 1) → count q (order_of b k) ≡ 0
      go (inl c) = absurd (omega (arith, (member k h q c).inside))
      go (inr c) = omega arith

  pub lists_all : (k : ℕ) → k < 17 → (q : ℕ) → q < 64 → count q (order_of b k) ≡ one_if (in_class k (at v q))
  unfolding blocks_in_order
  lists_all = all_listed v.places (order_of b) none_outside (λ k h q. ends_once b.next 64 (get_or b.heads k 0) (walk! k h).ends! q) class_of_lem
      (below_ext (λ k. length (order_of b k)) (length_of b) 17 (λ k h. sym (walk! k h).long) ∙ r.listed
      ∙ below_ext _ _ 64 (λ p h. ap one_if (sym (queued_at b ids lens p h))))

  pub slot_serves : (p : ℕ) → b.slot ≡ suc p
      → SlotAsks b.largest b.clock b.left.0 (get_or b.counts p 0) (get_or lens (lane_entry p (get_or b.starts p 0) 0) 0)
  slot_serves p e =
      (d_serves b.largest b.clock b.left.0 (get_or b.counts p 0) (get_or lens (lane_entry p (get_or b.starts p 0) 0) 0)).yes (r.slot.serves p e)

  pub slot_at : (p : ℕ) → b.slot ≡ suc p → (p < 64) × (eqb (get_or b.counts p 0) 0 ≡ false)
  slot_at p e = (r.slot.place p e, (slot_serves p e).waits)

  pub ordered : Ordered b ids lens
  unfolding view
  ordered = record {
    listed = lists_all;
    inside = λ k h q c. (member k h q c).inside;
    rising = λ k h. rises_rising v.places b.ready 0 (order_of b k) (member_ready k h) (walk! k h).rises;
    slot = slot_at;
    share = shares_in;
    is_open = open_at;
  }

  -- ---- the fields

  unused : (p : ℕ) → p < 64 → in_order p (get_or b.counts p 0) b.slot ≡ false → (get_or b.ready p 0 ≡ 0) × (get_or b.next p 0 ≡ 0)
  unfolding unused_is_zero
  unused p h e = (d_and (d_eqb (get_or b.ready p 0) 0) (d_eqb (get_or b.next p 0) 0)).yes (rw e at (r.places p h).1.1.1.1.1.0)

  ready_field : (p : ℕ) → p < 64 → get_or b.ready p 0 ≡ ready_num (place_of b ids lens p).stand
  ready_field p h = go (in_order p (get_or b.counts p 0) b.slot) refl ∙ sym (ready_is b ids lens p)
    where
      go : (t : Bool) → in_order p (get_or b.counts p 0) b.slot ≡ t
          → get_or b.ready p 0 ≡ cond (in_order p (get_or b.counts p 0) b.slot) (get_or b.ready p 0) 0
      go true e = rw e
      go false e = rw e (unused p h e).0

  next_field : (p : ℕ) → p < 64 → get_or b.next p 0 ≡ behind p (order_of b (block_class (at v p)))
  next_field p h = go (in_order p (get_or b.counts p 0) b.slot) refl
    where
      k : ℕ
      k = block_class (at v p)

      hk : k < 17
      hk = omega (arith, class_le (at v p).share)

      own : (t : Bool) → in_order p (get_or b.counts p 0) b.slot ≡ t → count p (order_of b k) ≡ one_if t
      own t e = lists_all k hk p h ∙ ap one_if (ap₂ (λ (s u : Bool). s && u) (queued_at b ids lens p h ∙ e) (eqb_yes k k refl) ∙ and_true t)
        where
          and_true : (t : Bool) → t && true ≡ t
          and_true true = refl
          and_true false = refl

      go : (t : Bool) → in_order p (get_or b.counts p 0) b.slot ≡ t → get_or b.next p 0 ≡ behind p (order_of b k)
      go true e = sym (ends_behind b.next 64 (get_or b.heads k 0) p (walk! k hk).ends! (omega (arith, own true e)))
      go false e = (unused p h e).1 ∙ sym (behind_none p (order_of b k) (own false e))

  left_field : slot_left v.places (slot_by b.slot) ≡ b.left.0
  unfolding place_of bare_of stand_by
  left_field = go b.slot refl
    where
      go : (s : ℕ) → b.slot ≡ s → slot_left v.places (slot_by s) ≡ b.left.0
      go zero e = sym (r.slot.closed e)
      go (suc p) e = ap (λ (x : Place). left_of x.stand) (inner b ids lens p (slot_at p e).0) ∙ rw ((slot_at p e).1, eqb_yes b.slot (suc p) e)

  link_slot : (s : ℕ) → slot_link (slot_by s) ≡ s
  link_slot zero = refl
  link_slot (suc p) = refl

  module _ (z : Sized b) where
    field : (f : Place → ℕ) (xs : List ℕ) → length xs ≡ 64 → ((i : ℕ) → i < 64 → get_or xs i 0 ≡ f (place_of b ids lens i))
        → map f (tab 64 (place_of b ids lens)) ≡ xs
    field f xs e h = map_tab f 64 (place_of b ids lens) ∙ sym (tab_of 0 xs 64 (λ i. f (place_of b ids lens i)) e h)

    pub active_field : set_below 17 (active v) ≡ b.active
    active_field = set_ext (active v) (class_active b.slot b.shares b.heads) 17 (active_is b ids lens ordered) ∙ sym r.active

    pending_field : set_below 17 (pending v) ≡ b.pending
    pending_field = set_ext (pending v) (class_pending b.clock b.ready b.heads) 17 (pending_is b ids lens ordered) ∙ sym r.pending

    pub spells_is : encode (view b ids lens) ≡ b
    unfolding encode view place_of bare_of
    spells_is = same (record {
      numbers = field (λ x. x.number) b.numbers z.numbers (λ i h. refl);
      shares = field (λ x. x.share) b.shares z.shares (λ i h. refl);
      deficits = field (λ x. x.deficit) b.deficits z.deficits (λ i h. refl);
      starts = field (λ x. x.start) b.starts z.starts (λ i h. refl);
      counts = field (λ x. length x.lane) b.counts z.counts (λ i h. sym (lane_long b ids lens i));
      ready = field (λ x. ready_num x.stand) b.ready z.ready ready_field;
      next = sym (tab_of 0 b.next 64 _ z.next next_field);
      heads = sym (tab_of 0 b.heads 17 _ z.heads (λ k h. sym (first_follow b.next (get_or b.heads k 0))));
      tails = sym (tab_of 0 b.tails 17 _ z.tails (λ k h. sym (walk! k h).last ∙ last_is (order_of b k)));
      held = sym (tab_of 0 b.held 17 _ z.held (λ k h. refl));
      largest = refl;
      clock = refl;
      active = active_field;
      pending = pending_field;
      slot = link_slot b.slot;
      left = left_field;
    })
