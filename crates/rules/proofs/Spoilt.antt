-- THE SPOILT TEST is passed exactly by the boards of which every fact of Tidy holds.
use mathlib.Core.Path.{◌≡◌, refl, sym, ap, ◌∙◌}
use mathlib.Core.Bool.{Bool, true, false, not, ◌&&◌, ◌||◌, true≢false, false≢true}
use mathlib.Core.Logic.{◌⊎◌, inl, inr}
use mathlib.Core.Option.{Option, none, some}
use mathlib.Core.List.{List, [], ◌∷◌}
use Prim.Native.Nat.{ℕ, suc, ◌+◌, ◌*◌, ◌/◌, ◌%◌, ◌^◌, ◌≤◌, ◌<◌}
use native.Mathlib.Omega.{arith}
use native.Mathlib.Nat.{div-add-mod', mul-mod_left}
use native.Mathlib.Decide.{ℕ_discrete}
use lib.Dec.{leb, eqb}
use lib.ListN.{length, get_or-eq_default}
use Rattle.base.specs.Sums.{one_if}
use Rattle.base.specs.Tests.{Decides, alike}
use Rattle.base.proofs.Numbers.{split, leb_no, true_le, leb_yes, false_lt, eqb_yes, eqb_no, eqb_true}
use Rattle.base.proofs.Tests.{and_right, all_at, all_intro, and_both, and_left}
use Rattle.base.proofs.Decides.{d_iff, d_true, d_leb, d_eqb, d_alike, d_not, d_and, d_or, d_imp, d_all, Each, d_every}
use Rattle.units.specs.Classes.{Start, next_start}
use Rattle.units.specs.Credit.{largest_charge}
use Rattle.units.proofs.Classes.{class_le}
use Rattle.rules.specs.Board.{Record, bytes_charged, Stand, out, queued, serving, Place, free_place, Board, at, Seventeen, depth, front, block_class, is_open}
use Rattle.rules.specs.Board.{waits, used_share}
use Rattle.rules.specs.Spoilt.{every_place, numbers_apart, number_in_range, share_in_range, ring_in_range, lengths_in, is_queued, is_serving, deficit_in_range}
use Rattle.rules.specs.Spoilt.{free_is_zero, held_while_waiting, stands_by_lane, is_at, count, in_class, all_places, slot_at_place, orders_listed, ready_num}
use Rattle.rules.specs.Spoilt.{ready_in_range, never_falling, slot_of, slot_in_time, clauses, unspoilt, clock_in_range}
use Rattle.rules.specs.Blocks.{quiet}
use Rattle.rules.proofs.Orders.{ready, Rising}
use Rattle.rules.proofs.Shape.{All, InSize, StandOk, PlaceOk, SeatP, Distinct, free_ok, queued_in, listed_in, named_num}
use Rattle.rules.proofs.Slot.{serving_in}
use Rattle.rules.proofs.Turns.{busy}
use Rattle.rules.proofs.Calls.{lane_out}
use Rattle.rules.proofs.Tidy.{Tidy}

-- ---- a place

d_lengths : (L : ℕ) (l : List Record) → Decides (lengths_in L l) (All (InSize L) l)
unfolding lengths_in All
d_lengths L [] = record { yes = λ e. tt; no = λ e. refl }
d_lengths L (r ∷ rs) = d_and (d_and (d_leb 1 r.bytes) (d_leb r.bytes L)) (d_lengths L rs)

-- where its block stands: by its lane, and what the slot asks
d_stand : (L : ℕ) (x : Place) (s : Stand)
    → Decides ((alike (waits x) (is_queued s || is_serving s) && (not (waits x) || is_open x)) && slot_of L x s) (StandOk L x.share x.lane s)
unfolding StandOk
d_stand L x out = d_iff (d_and (d_and (d_alike (waits x) false) (d_imp (waits x) (d_leb 1 x.share))) (d_true true))
    (λ w. omega (arith, false_lt 1 (length x.lane) w.0.0))
    (λ e. let no : waits x ≡ false = leb_no 1 (length x.lane) (omega arith) in ((no, λ h. absurd (true≢false (sym h ∙ no))), refl))
d_stand L x (queued ready) = d_iff (d_and (d_and (d_alike (waits x) true) (d_imp (waits x) (d_leb 1 x.share))) (d_true true))
    (λ w. (true_le 1 (length x.lane) w.0.0, w.0.1 w.0.0))
    (λ w. ((leb_yes 1 (length x.lane) w.0, λ _. w.1), refl))
d_stand L x (serving left) = d_iff
    (d_and (d_and (d_alike (waits x) true) (d_imp (waits x) (d_leb 1 x.share)))
    (d_and (d_leb 1 (length x.lane)) (d_and (d_leb (bytes_charged (front x) * 65536) left) (d_leb (suc left) (3 * largest_charge L * 65536)))))
    (λ w. (w.1.0, w.0.1 w.0.0, w.1.1.0, w.1.1.1))
    (λ w. ((leb_yes 1 (length x.lane) w.0, λ _. w.1), (w.0, (w.2, w.3))))

d_start : (k n : ℕ) → Decides (eqb (n % 2 ^ k) 0) (Start k n)
unfolding Start
d_start k n =
    d_iff (d_eqb (n % 2 ^ k) 0) (λ e. (n / 2 ^ k, omega (arith, e, div-add-mod' n (2 ^ k))))
    (λ w. ap (λ (a : ℕ). a % 2 ^ k) w.1 ∙ mul-mod_left w.0 (2 ^ k))

pub d_ready : (clock : ℕ) (x : Place) → Decides (ready_in_range clock x) (SeatP clock x)
d_ready clock x =
    d_imp (is_queued x.stand) (d_and (d_start (block_class x) (ready_num x.stand)) (d_leb (ready_num x.stand) (next_start (block_class x) clock)))

-- the clauses on a place by itself
pub record PlacePasses (L : ℕ) (x : Place) : Type 0 where
  pub number : number_in_range x ≡ true
  pub share : share_in_range x ≡ true
  pub ring : ring_in_range x ≡ true
  pub lengths : lengths_in L x.lane ≡ true
  pub deficit : deficit_in_range L x ≡ true
  pub free : free_is_zero x ≡ true
  pub stands : stands_by_lane x ≡ true
  pub slot : slot_of L x x.stand ≡ true

d_ring : (x : Place) → Decides (ring_in_range x) ((x.start < depth x) × (length x.lane ≤ depth x))
d_ring x = d_and (d_leb (suc x.start) (depth x)) (d_leb (length x.lane) (depth x))

d_deficit : (L : ℕ) (x : Place) → Decides (deficit_in_range L x) ((x.deficit < largest_charge L * 65536) × ((is_queued x.stand ≡ true) ⊎ (x.deficit ≡ 0)))
d_deficit L x = d_and (d_leb (suc x.deficit) (largest_charge L * 65536)) (d_or (d_true (is_queued x.stand)) (d_eqb x.deficit 0))

-- a free place has nothing else
abbrev Zeros : Place → Type 0
Zeros x = (x.number ≡ 0) × ((x.start ≡ 0) × ((1 ≤ length x.lane → ⊥) × (x.deficit ≡ 0)))

d_free : (x : Place) → Decides (free_is_zero x) ((1 ≤ x.share) ⊎ Zeros x)
d_free x =
    d_or (d_leb 1 x.share) (d_and (d_eqb x.number 0) (d_and (d_eqb x.start 0) (d_and (d_not (d_leb 1 (length x.lane))) (d_eqb x.deficit 0))))

d_number : (x : Place) → Decides (number_in_range x) (is_open x ≡ true → 1 ≤ x.number)
d_number x = d_imp (is_open x) (d_leb 1 x.number)

place_ok_lem : (L : ℕ) (x : Place) → PlacePasses L x → PlaceOk L x
place_ok_lem L x h = record {
  items = (d_lengths L x.lane).yes h.lengths;
  owed = owed.0;
  most = true_le x.share 65536 h.share;
  stand_ok = stand_ok;
  brief = ring.1;
  ring = ring.0;
  clear = λ e. clear e owed.1;
  named = named (split 1 x.share) ((d_free x).yes h.free);
}
  where
    ring : (x.start < depth x) × (length x.lane ≤ depth x)
    ring = (d_ring x).yes h.ring

    owed : (x.deficit < largest_charge L * 65536) × ((is_queued x.stand ≡ true) ⊎ (x.deficit ≡ 0))
    owed = (d_deficit L x).yes h.deficit

    stand_ok : StandOk L x.share x.lane x.stand
    stand_ok = (d_stand L x x.stand).yes (and_both (stands_by_lane x) (slot_of L x x.stand) h.stands h.slot)

    clear : is_queued x.stand ≡ false → (is_queued x.stand ≡ true) ⊎ (x.deficit ≡ 0) → x.deficit ≡ 0
    clear e (inl f) = absurd (true≢false (sym f ∙ e))
    clear e (inr f) = f

    empty : (l : List Record) → length l ≤ 0 → l ≡ []
    empty [] e = refl
    empty (r ∷ rs) e = absurd (omega arith)

    named : (1 ≤ x.share) ⊎ (x.share < 1) → (1 ≤ x.share) ⊎ Zeros x → (x ≡ free_place) ⊎ ((1 ≤ x.number) × (1 ≤ x.share))
    named (inl o) z = inr ((d_number x).yes h.number (leb_yes 1 x.share o), o)
    named (inr o) (inl z) = absurd (omega arith)
    named (inr o) (inr (number, (start, (full, deficit)))) =
        let share : x.share ≡ 0 = omega arith in
        let none : length x.lane ≤ 0 = omega arith in
        inl (λ j. record {
          number = number j;
          share = share j;
          start = start j;
          lane = empty x.lane none j;
          deficit = deficit j;
          stand =
              lane_out L x.share x.lane x.stand none stand_ok j;
        })

pub place_passes : (L : ℕ) (x : Place) → PlaceOk L x → PlacePasses L x
place_passes L x ok = record {
  number = (d_number x).no (λ o. named_num x (true_le 1 x.share o) ok.named);
  share = leb_yes x.share 65536 ok.most;
  ring = (d_ring x).no (ok.ring, ok.brief);
  lengths = (d_lengths L x.lane).no ok.items;
  deficit = (d_deficit L x).no (ok.owed, clear (is_queued x.stand) ok.clear);
  free = (d_free x).no (free ok.named);
  stands = and_left (stands_by_lane x) (slot_of L x x.stand) stand;
  slot = and_right (stands_by_lane x) (slot_of L x x.stand) stand;
}
  where
    stand : stands_by_lane x && slot_of L x x.stand ≡ true
    stand = (d_stand L x x.stand).no ok.stand_ok

    clear : (q : Bool) → (q ≡ false → x.deficit ≡ 0) → (q ≡ true) ⊎ (x.deficit ≡ 0)
    clear true f = inl refl
    clear false f = inr (f refl)

    free : (x ≡ free_place) ⊎ ((1 ≤ x.number) × (1 ≤ x.share)) → (1 ≤ x.share) ⊎ Zeros x
    free (inl e) =
        inr (
          ap (λ (y : Place). y.number) e,
          (ap (λ (y : Place). y.start) e, (λ l. omega (arith, ap (λ (y : Place). length y.lane) e), ap (λ (y : Place). y.deficit) e)),
        )
    free (inr o) = inl o.1

-- ---- the places together

d_apart : (b : Board)
    → Decides (numbers_apart b)
    ((p : ℕ) → p < 64 → (q : ℕ) → q < 64 → (p ≡ q) ⊎ ((1 ≤ (at b p).share) × ((1 ≤ (at b q).share) × ((at b p).number ≡ (at b q).number)) → ⊥))
unfolding numbers_apart
d_apart b =
    d_all 64 _ _ (λ p. d_all 64 _ _
    (λ q. d_or (d_eqb p q) (d_not (d_and (d_leb 1 (at b p).share) (d_and (d_leb 1 (at b q).share) (d_eqb (at b p).number (at b q).number))))))

pub d_held : (b : Board) → Decides (held_while_waiting b) (quiet b ≡ true → (k : ℕ) → k < 17 → b.held k ≡ 0)
d_held b = d_imp (quiet b) (d_all 17 _ _ (λ k. d_eqb (b.held k) 0))

-- ---- the orders and the slot

d_inside : (ps : List ℕ) → Decides (all_places ps) ((q : ℕ) → 1 ≤ count q ps → q < 64)
unfolding all_places count
d_inside [] = record { yes = λ e q h. absurd (omega arith); no = λ e. refl }
d_inside (p ∷ ps) =
    d_iff (d_and (d_leb (suc p) 64) (d_inside ps)) (λ w q h. go w q h (ℕ_discrete q p))
    (λ f. (f p (omega (arith, ap one_if (eqb_yes p p refl))), λ q h. f q (omega arith)))
  where
    go : (p < 64) × ((q : ℕ) → 1 ≤ count q ps → q < 64) → (q : ℕ) → 1 ≤ one_if (eqb q p) + count q ps → Dec (q ≡ p) → q < 64
    go w q h (yes e) = rw e w.0
    go w q h (no e) = w.1 q (omega (arith, ap one_if (eqb_no q p e)))

pub d_rising : (l : List Place) (ps : List ℕ) → Decides (never_falling l ps) (Rising l ps)
unfolding never_falling Rising count
d_rising l [] = record { yes = λ e. tt; no = λ e. refl }
d_rising l (p ∷ []) = record { yes = λ e. (λ q h. absurd (omega arith), tt); no = λ e. refl }
d_rising l (p ∷ (q ∷ qs)) =
    d_iff (d_and (d_leb (ready l p) (ready l q)) (d_rising l (q ∷ qs))) (λ w. (λ r h. later w r h (ℕ_discrete r q), w.1))
    (λ w. (w.0 q (omega (arith, ap one_if (eqb_yes q q refl))), w.1))
  where
    later : (ready l p ≤ ready l q) × (((r : ℕ) → 1 ≤ count r qs → ready l q ≤ ready l r) × Rising l qs) → (r : ℕ) → 1 ≤ one_if (eqb r q) + count r qs
        → Dec (r ≡ q) → ready l p ≤ ready l r
    later w r h (yes e) = rw e w.0
    later w r h (no e) = omega (arith, w.0, w.1.0 r (omega (arith, ap one_if (eqb_no r q e))))

-- the facts that the clause on orders and slot decides
record Lists (b : Board) : Type 0 where
  one : (p : ℕ) → p < 64 → is_serving (at b p).stand ≡ is_at p b.slot
  slot : slot_at_place b.slot ≡ true
  listed : (k : ℕ) → k < 17 → (p : ℕ) → p < 64 → count p (b.orders k) ≡ one_if (in_class k (at b p))
  inside : (k : ℕ) → k < 17 → (p : ℕ) → 1 ≤ count p (b.orders k) → p < 64

d_lists : (b : Board) → Decides (orders_listed b) (Lists b)
unfolding orders_listed
d_lists b = d_iff
    (d_and (d_all 64 _ _ (λ p. d_alike (is_serving (at b p).stand) (is_at p b.slot)))
    (d_and (d_true (slot_at_place b.slot))
    (d_and (d_all 17 _ _ (λ k. d_all 64 _ _ (λ p. d_eqb (count p (b.orders k)) (one_if (in_class k (at b p))))))
    (d_all 17 _ _ (λ k. d_inside (b.orders k))))))
    (λ w. record { one = w.0; slot = w.1.0; listed = w.1.1.0; inside = w.1.1.1 })
    (λ l. (l.one, (l.slot, (l.listed, l.inside))))

d_time : (slot : Option ℕ) (clock : ℕ) → Decides (leb clock (2 ^ 62) && slot_in_time slot clock) (clock + busy slot ≤ 2 ^ 62)
d_time none clock = d_iff (d_and (d_leb clock (2 ^ 62)) (d_true true)) (λ w. omega (arith, w.0)) (λ h. (omega arith, refl))
d_time (some p) clock = d_iff (d_and (d_leb clock (2 ^ 62)) (d_leb (suc clock) (2 ^ 62))) (λ w. omega (arith, w.1)) (λ h. (omega arith, omega arith))

-- ---- the whole test

-- beyond the last place nothing stands
beyond : (b : Board) → length b.places ≡ 64 → (p : ℕ) → 64 ≤ p → at b p ≡ free_place
beyond b n p h = get_or-eq_default b.places free_place {n = p} (omega arith)

-- a fact of every place, from one of the sixty-four and one of a free place
everywhere : (P : Place → Type 0) (b : Board) → length b.places ≡ 64 → P free_place → ((p : ℕ) → p < 64 → P (at b p)) → (p : ℕ) → P (at b p)
everywhere P b n free h p = go (split 64 p)
  where
    go : (64 ≤ p) ⊎ (p < 64) → P (at b p)
    go (inl l) = rw (beyond b n p l) free
    go (inr l) = h p l

-- a clause on every place, at one of them
at_place : (b : Board) (t : Place → Bool) → every_place b t ≡ true → (p : ℕ) → p < 64 → t (at b p) ≡ true
at_place b t h p l = all_at (λ q. t (at b q)) 64 p h l

every_place_lem : (b : Board) (t : Place → Bool) → ((p : ℕ) → t (at b p) ≡ true) → every_place b t ≡ true
every_place_lem b t h = all_intro (λ q. t (at b q)) 64 (λ p _. h p)

distinct : (b : Board) → length b.places ≡ 64 → numbers_apart b ≡ true → Distinct b.places
distinct b n apart p q a c e = go (split 64 p) (split 64 q)
  where
    differ : (p ≡ q) ⊎ ((1 ≤ (at b p).share) × ((1 ≤ (at b q).share) × ((at b p).number ≡ (at b q).number)) → ⊥) → p ≡ q
    differ (inl f) = f
    differ (inr f) = absurd (f (a, (c, e)))

    go : (64 ≤ p) ⊎ (p < 64) → (64 ≤ q) ⊎ (q < 64) → p ≡ q
    go (inl l) m = absurd (omega (arith, ap (λ (x : Place). x.share) (beyond b n p l)))
    go (inr l) (inl m) = absurd (omega (arith, ap (λ (x : Place). x.share) (beyond b n q m)))
    go (inr l) (inr m) = differ ((d_apart b).yes apart p l q m)

apart : (b : Board) → Distinct b.places → numbers_apart b ≡ true
apart b distinct = (d_apart b).no (λ p _ q _. go p q (ℕ_discrete p q))
  where
    go : (p q : ℕ) → Dec (p ≡ q) → (p ≡ q) ⊎ ((1 ≤ (at b p).share) × ((1 ≤ (at b q).share) × ((at b p).number ≡ (at b q).number)) → ⊥)
    go p q (yes e) = inl e
    go p q (no e) = inr (λ w. e (distinct p q w.0 w.1.0 w.1.1))

slot_inside : (b : Board) → Tidy b → slot_at_place b.slot ≡ true
slot_inside b g = go b.slot refl
  where
    go : (s : Option ℕ) → b.slot ≡ s → slot_at_place s ≡ true
    go none e = refl
    go (some p) e = leb_yes (suc p) 64 (omega (arith, serving_in b.places p (g.one p ∙ ap (is_at p) e ∙ eqb_yes p p refl), g.shape.all64))

tidy_of : (b : Board) → Seventeen b → Each (clauses b) → Tidy b
unfolding used_share Rising count
tidy_of b high (
  all64,
  (
    size,
    (
      clock,
      (
        numbers,
        (number, (share, (ring, (lengths, (deficit, (free, (shares, (held, (stands, (lists, (times, (rising, (slot, (in_time, _)))))))))))))),
      ),
    ),
  ),
) =
    record {
      shape = record {
        least = size'.0;
        most = size'.1;
        all64 = long;
        place_ok = everywhere (PlaceOk b.largest) b long (free_ok b.largest size'.0) passes;
        seat =
            everywhere (SeatP b.clock) b long (λ e. absurd (false≢true e))
            (λ p l. (d_ready b.clock (at b p)).yes (at_place b (ready_in_range b.clock) times p l));
        used_share = true_le (used_share b) 65536 shares;
        names = distinct b long numbers;
        listed = λ k p. listed k p (split 17 k) (split 64 p);
        rising = λ k. rises k (split 17 k);
      };
      one = λ p. one p (split 64 p);
      calm = λ q k. calm q k (split 17 k);
      time = (d_time b.slot b.clock).yes (and_both (clock_in_range b) (slot_in_time b.slot b.clock) clock in_time);
    }
  where
    long : length b.places ≡ 64
    long = eqb_true (length b.places) 64 all64

    size' : (64 ≤ b.largest) × (b.largest ≤ 2048)
    size' = (d_and (d_leb 64 b.largest) (d_leb b.largest 2048)).yes size

    passes : (p : ℕ) → p < 64 → PlaceOk b.largest (at b p)
    passes p l = place_ok_lem b.largest (at b p) (record {
      number = at_place b number_in_range number p l;
      share = at_place b share_in_range share p l;
      ring = at_place b ring_in_range ring p l;
      lengths = at_place b (λ x. lengths_in b.largest x.lane) lengths p l;
      deficit = at_place b (deficit_in_range b.largest) deficit p l;
      free = at_place b free_is_zero free p l;
      stands = at_place b stands_by_lane stands p l;
      slot = at_place b (λ x. slot_of b.largest x x.stand) slot p l;
    })

    in_lists : Lists b
    in_lists = (d_lists b).yes lists

    slot_below : (p : ℕ) → 64 ≤ p → (s : Option ℕ) → slot_at_place s ≡ true → is_at p s ≡ false
    slot_below p h none e = refl
    slot_below p h (some q) e = eqb_no p q (λ f. omega (arith, true_le (suc q) 64 e))

    one : (p : ℕ) → (64 ≤ p) ⊎ (p < 64) → is_serving (at b p).stand ≡ is_at p b.slot
    one p (inl l) = ap (λ (x : Place). is_serving x.stand) (beyond b long p l) ∙ sym (slot_below p l b.slot in_lists.slot)
    one p (inr l) = in_lists.one p l

    calm : quiet b ≡ true → (k : ℕ) → (17 ≤ k) ⊎ (k < 17) → b.held k ≡ 0
    calm q k (inl l) = high.no_held k l
    calm q k (inr l) = (d_held b).yes held q k l

    rises : (k : ℕ) → (17 ≤ k) ⊎ (k < 17) → Rising b.places (b.orders k)
    rises k (inl l) = rw (high.no_order k l) tt
    rises k (inr l) = (d_rising b.places (b.orders k)).yes (all_at (λ j. never_falling b.places (b.orders j)) 17 k rising l)

    no_class : (q : Bool) (k : ℕ) (x : Place) → 17 ≤ k → q && eqb k (block_class x) ≡ false
    no_class true k x l = eqb_no k (block_class x) (λ e. omega (arith, class_le x.share))
    no_class false k x l = refl

    listed : (k p : ℕ) → (17 ≤ k) ⊎ (k < 17) → (64 ≤ p) ⊎ (p < 64) → count p (b.orders k) ≡ one_if (in_class k (at b p))
    listed k p (inl l) m = rw (high.no_order k l, no_class (is_queued (at b p).stand) k (at b p) l)
    listed k p (inr l) (inr m) = in_lists.listed k l p m
    listed k p (inr l) (inl m) = none (split 1 (count p (b.orders k))) ∙ sym (ap (λ (x : Place). one_if (in_class k x)) (beyond b long p m))
      where
        none : (1 ≤ count p (b.orders k)) ⊎ (count p (b.orders k) < 1) → count p (b.orders k) ≡ 0
        none (inl a) = absurd (omega (arith, in_lists.inside k l p a))
        none (inr a) = omega arith

clauses_of : (b : Board) → Tidy b → Each (clauses b)
unfolding used_share
clauses_of b g = (
  eqb_yes (length b.places) 64 g.shape.all64,
  (
    (d_and (d_leb 64 b.largest) (d_leb b.largest 2048)).no (g.shape.least, g.shape.most),
    (
      and_left (clock_in_range b) (slot_in_time b.slot b.clock) time,
      (
        apart b g.shape.names,
        (
          every_place_lem b number_in_range (λ p. (passes p).number),
          (
            every_place_lem b share_in_range (λ p. (passes p).share),
            (
              every_place_lem b ring_in_range (λ p. (passes p).ring),
              (
                every_place_lem b (λ x. lengths_in b.largest x.lane) (λ p. (passes p).lengths),
                (
                  every_place_lem b (deficit_in_range b.largest) (λ p. (passes p).deficit),
                  (
                    every_place_lem b free_is_zero (λ p. (passes p).free),
                    (
                      leb_yes (used_share b) 65536 g.shape.used_share,
                      (
                        (d_held b).no (λ q k _. g.calm q k),
                        (
                          every_place_lem b stands_by_lane (λ p. (passes p).stands),
                          (
                            (d_lists b).no lists,
                            (
                              every_place_lem b (ready_in_range b.clock) (λ p. (d_ready b.clock (at b p)).no (g.shape.seat p)),
                              (
                                all_intro (λ k. never_falling b.places (b.orders k)) 17 (λ k _. (d_rising b.places (b.orders k)).no (g.shape.rising k)),
                                (
                                  every_place_lem b (λ x. slot_of b.largest x x.stand) (λ p. (passes p).slot),
                                  (
                                    and_right (clock_in_range b) (slot_in_time b.slot b.clock) time,
                                    tt,
                                  ),
                                ),
                              ),
                            ),
                          ),
                        ),
                      ),
                    ),
                  ),
                ),
              ),
            ),
          ),
        ),
      ),
    ),
  ),
)
  where
    time : clock_in_range b && slot_in_time b.slot b.clock ≡ true
    time = (d_time b.slot b.clock).no g.time

    passes : (p : ℕ) → PlacePasses b.largest (at b p)
    passes p = place_passes b.largest (at b p) (g.shape.place_ok p)

    inside : (k p : ℕ) → 1 ≤ count p (b.orders k) → p < 64
    inside k p h = omega (arith, queued_in b.places p (listed_in b.places b.orders g.shape.listed k p h).0, g.shape.all64)

    lists : Lists b
    lists = record { one = λ p _. g.one p; slot = slot_inside b g; listed = λ k _ p _. g.shape.listed k p; inside = λ k _ p h. inside k p h }

-- THE LAW
pub tidy_decides : (b : Board) → Seventeen b → Decides (unspoilt b) (Tidy b)
unfolding unspoilt
tidy_decides b high = d_iff (d_every (clauses b)) (tidy_of b high) (clauses_of b)

pub unspoilt_tidy : (b : Board) → Seventeen b → unspoilt b ≡ true → Tidy b
unspoilt_tidy b high h = (tidy_decides b high).yes h

pub tidy_unspoilt : (b : Board) → Tidy b → unspoilt b ≡ true
unfolding unspoilt
tidy_unspoilt b g = (d_every (clauses b)).no (clauses_of b g)
