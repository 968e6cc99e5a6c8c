-- Taking a record at a place: the engine's step is the rules' step, on what is written for a board.
use mathlib.Core.Path.{◌≡◌, refl, sym, ap, ◌∙◌}
use mathlib.Core.Bool.{Bool, true, false, cond, ◌&&◌}
use mathlib.Core.Logic.{◌≢◌}
use mathlib.Core.List.{List, [], ◌∷◌, ◌++◌, map}
use Prim.Native.Nat.{ℕ, suc, ◌-◌, ◌≤◌, ◌<◌}
use native.Mathlib.Omega.{arith}
use native.Mathlib.Numerals.{add-one}
use native.Mathlib.Decide.{ℕ_discrete}
use lib.Dec.{eqb, leb, ltb}
use lib.ListN.{length, get_or, set, length-set, length-append}
use lib.Seq.{get_or-set_same}
use borrow.Author.Tests.{eq-eqb, ne_eqb}
use Rattle.base.proofs.Numbers.{leb_yes, leb_no, true_le, false_lt, eqb_yes, eqb_no}
use Rattle.bits.specs.Sets.{with_bit}
use Rattle.bits.proofs.Sets.{set_more, set_ext}
use Rattle.units.specs.Classes.{class_of, next_start}
use Rattle.units.proofs.Classes.{class_le}
use Rattle.units.proofs.Starts.{next_gt}
use Rattle.rules.specs.Board
use Rattle.rules.specs.Board.{Record, out, Place, free_place, at, block_class, any_waits, due_by, any_due}
use Rattle.rules.specs.Choice.{upd, go_on, joining, joins, more, taken_in}
use Rattle.rules.specs.Spoilt.{is_queued, is_serving, ready_num, count}
use Rattle.rules.proofs.Orders.{pl, map_set, upd_same, upd_other}
use Rattle.rules.proofs.Shape.{listed_out}
use Rattle.rules.proofs.Calls.{lane_out, set_field}
use Rattle.rules.proofs.Tidy.{Tidy}
use Rattle.board.specs.Reading.{last_link, behind, encode}
use Rattle.board.proofs.Lists.{get_d_tab, tab_ext}
use Rattle.board.proofs.Reading.{once, small, class}
use Rattle.board.proofs.Moves.{nexts, heads, tails, nexts_join, heads_join, tails_join, due_ext, due_away, due_snoc, is_active, active_here, active_set}
use Rattle.board.proofs.Moves.{left_away, left_same}
use Rattle.board.proofs.Same.{same, kept}
use Rattle.board.specs.Memory.{orders_now, Taking, taking, taking_of, with_taking}
use Rattle.taking.specs.Taking.{joined_orders, taken_at}
use Rattle.board.proofs.Fields.{count_is, share_is}

-- the engine's step, with what it reads named
taken_eq : (shares : List ℕ) (clock p : ℕ) (t : Taking) (c s : ℕ) → get_or t.counts p 0 ≡ c → get_or shares p 0 ≡ s
    → taken_at shares clock p t
    ≡ taking (set t.counts p (suc c)) (cond (eqb c 0) (joined_orders t.orders p (class_of s) (next_start (class_of s) clock)) t.orders)
unfolding taken_at
taken_eq shares clock p t c s e f = rw (e, f, add-one c)

joined_eq : (next heads tails ready : List ℕ) (active p k time t : ℕ) → get_or tails k 0 ≡ t
    → joined_orders (orders_now next heads tails ready active) p k time
    ≡ orders_now (set (cond (eqb t 0) next (set next (t - 1) (suc p))) p 0) (cond (eqb t 0) (set heads k (suc p)) heads) (set tails k (suc p))
    (set ready p time)
    (with_bit active k)
unfolding joined_orders
joined_eq next heads tails ready active p k time t e = rw (e, add-one p)

module _ (m : Board.Board) (g : Tidy m) (p : ℕ) (x : Record) (p64 : p < 64) (bought : 1 ≤ (at m p).share) where
  abbrev l : List Place
  l = m.places

  abbrev k : ℕ
  k = block_class (at m p)

  in_l : p < length l
  in_l = omega (arith, g.shape.all64)

  -- the lane was not empty
  module _ (some! : 0 < length (at m p).lane) where
    take_more : with_taking (encode m) (taken_at (encode m).shares (encode m).clock p (taking_of (encode m))) ≡ encode (go_on m p (more (at m p) x))
    unfolding encode
    take_more =
        ap (with_taking (encode m))
        (taken_eq (encode m).shares m.clock p (taking_of (encode m)) (length (at m p).lane) (at m p).share (count_is m p) (share_is m p) ∙ stays)
        ∙ same (record {
          numbers = kept (λ w. w.number) l p y refl;
          shares = kept (λ w. w.share) l p y refl;
          deficits = kept (λ w. w.deficit) l p y refl;
          starts = kept (λ w. w.start) l p y refl;
          counts = ap (set (map (λ (w : Place). length w.lane) l) p) longer ∙ sym (map_set (λ (w : Place). length w.lane) l p y);
          ready = kept (λ w. ready_num w.stand) l p y refl;
          next = tab_ext 64 _ _ (λ j h. ap (λ (n : ℕ). behind j (m.orders (class_of n))) (sym (set_field (λ (w : Place). w.share) l p y in_l refl j)));
          heads = refl;
          tails = refl;
          held = refl;
          largest = refl;
          clock = refl;
          active = set_ext _ _ 17 (λ j h. sym (active_set j p l y (waiting j)));
          pending =
              set_ext _ _ 17 (λ j h.
              sym (due_ext l (set l p y) m.clock (m.orders j) (λ q c. ap (due_by m.clock) (set_field (λ (w : Place). w.stand) l p y in_l refl q))));
          slot = refl;
          left = sym (left_same l p y m.slot in_l refl);
        })
      where
        y : Place
        y = more (at m p) x

        longer : suc (length (at m p).lane) ≡ length ((at m p).lane ++ (x ∷ []))
        longer = omega (arith, length-append (at m p).lane (x ∷ []))

        waiting : (j : ℕ) → is_active j y ≡ is_active j (at m p)
        waiting j =
            ap (λ (t : Bool). t && eqb j k)
            (leb_yes 1 (length ((at m p).lane ++ (x ∷ []))) (omega (arith, longer)) ∙ sym (leb_yes 1 (length (at m p).lane) some!))

        stays : taking (set (encode m).counts p (suc (length (at m p).lane)))
            (cond (eqb (length (at m p).lane) 0)
            (joined_orders (taking_of (encode m)).orders p (class_of (at m p).share) (next_start (class_of (at m p).share) m.clock))
            (taking_of (encode m)).orders)
            ≡ taking (set (encode m).counts p (suc (length (at m p).lane))) (taking_of (encode m)).orders
        stays = rw (ne_eqb (length (at m p).lane) 0 (λ z. omega arith))

  -- the lane was empty: the block joins its class's order
  module _ (none! : length (at m p).lane ≡ 0) where
    k17 : k < 17
    k17 = omega (arith, class_le (at m p).share)

    was : (at m p).stand ≡ out
    was = lane_out m.largest (at m p).share (at m p).lane (at m p).stand (omega arith) (g.shape.place_ok p).stand_ok

    gone : (j : ℕ) → count p (m.orders j) ≡ 0
    gone j = listed_out m.places m.orders g.shape.listed j p (ap is_queued was)

    take_joins : with_taking (encode m) (taken_at (encode m).shares (encode m).clock p (taking_of (encode m)))
        ≡ encode (joining m p (joins m.clock (at m p) x))
    unfolding encode
    take_joins =
        ap (with_taking (encode m))
        (taken_eq (encode m).shares m.clock p (taking_of (encode m)) (length (at m p).lane) (at m p).share (count_is m p) (share_is m p) ∙ goes)
        ∙ same (record {
          numbers = kept (λ w. w.number) l p y refl;
          shares = kept (λ w. w.share) l p y refl;
          deficits = kept (λ w. w.deficit) l p y refl;
          starts = kept (λ w. w.start) l p y refl;
          counts = ap (set (map (λ (w : Place). length w.lane) l) p) (ap suc none!) ∙ sym (map_set (λ (w : Place). length w.lane) l p y);
          ready = sym (map_set (λ (w : Place). ready_num w.stand) l p y);
          next =
              nexts_join o kj p k p64 k17 refl (gone k) (class m g k) (once m g k) (small m g k) (eqb (last_link (o k)) 0) refl
              ∙ tab_ext 64 _ _ (λ j h. ap (λ (n : ℕ). behind j (upd o k (o k ++ (p ∷ [])) (class_of n)))
              (sym (set_field (λ (w : Place). w.share) l p y in_l refl j)));
          heads = heads_join o kj p k p64 k17 refl (gone k) (class m g k) (once m g k) (small m g k) (eqb (last_link (o k)) 0) refl;
          tails = tails_join o kj p k p64 k17 refl (gone k) (class m g k) (once m g k) (small m g k);
          held = refl;
          largest = refl;
          clock = refl;
          active = set_more (λ j. any_waits j l) (λ j. any_waits j (set l p y)) 17 k k17 now_active (λ j ne. active_set j p l y (others j ne));
          pending = set_ext _ _ 17 (λ j h. sym (due j (ℕ_discrete j k)));
          slot = refl;
          left = sym (left_away l p y m.slot (sym (g.one p) ∙ ap is_serving was));
        })
      where
        o : ℕ → List ℕ
        o = m.orders

        kj : ℕ → ℕ
        kj j = block_class (at m j)

        y : Place
        y = joins m.clock (at m p) x

        goes : taking (set (encode m).counts p (suc (length (at m p).lane)))
            (cond (eqb (length (at m p).lane) 0)
            (joined_orders (taking_of (encode m)).orders p (class_of (at m p).share) (next_start (class_of (at m p).share) m.clock))
            (taking_of (encode m)).orders)
            ≡ taking (set (encode m).counts p (suc (length (at m p).lane))) (orders_now
            (set (cond (eqb (last_link (o k)) 0) (nexts o kj) (set (nexts o kj) (last_link (o k) - 1) (suc p))) p 0)
            (cond (eqb (last_link (o k)) 0) (set (heads o kj) k (suc p)) (heads o kj))
            (set (tails o kj) k (suc p))
            (set (encode m).ready p (next_start k m.clock))
            (with_bit (encode m).active k))
        goes =
            rw (eq-eqb (length (at m p).lane) 0 none!)
            (ap (taking (set (encode m).counts p (suc (length (at m p).lane))))
            (joined_eq (nexts o kj) (heads o kj) (tails o kj) (encode m).ready (encode m).active p k (next_start k m.clock) (last_link (o k))
            (get_d_tab 17 (λ j. last_link (o j)) k 0 k17)))

        here : pl (set l p y) p ≡ y
        here = get_or-set_same l p y free_place in_l

        now_active : any_waits k (set l p y) ≡ true
        now_active = active_here k p (set l p y) (omega (arith, length-set l p y, in_l)) (ap (is_active k) here ∙ eqb_yes k k refl)

        others : (j : ℕ) → j ≢ k → is_active j y ≡ is_active j (at m p)
        others j ne = eqb_no j k ne ∙ sym (ap (λ (n : ℕ). ltb 0 n && eqb j k) none!)

        due : (j : ℕ) → Dec (j ≡ k) → any_due (set l p y) m.clock (upd o k (o k ++ (p ∷ [])) j) ≡ any_due l m.clock (o j)
        due j (yes e) = ap (any_due (set l p y) m.clock) (ap (upd o k (o k ++ (p ∷ []))) e ∙ upd_same o k (o k ++ (p ∷ [])))
            ∙ due_snoc (set l p y) m.clock p (o k)
            (ap (λ (w : Place). due_by m.clock w.stand) here ∙ leb_no (next_start k m.clock) m.clock (next_gt k m.clock))
            ∙ due_away l m.clock p y (o k) (gone k) ∙ ap (λ (i : ℕ). any_due l m.clock (o i)) (sym e)
        due j (no e) = ap (any_due (set l p y) m.clock) (upd_other o k (o k ++ (p ∷ [])) j e) ∙ due_away l m.clock p y (o j) (gone j)

  -- TAKING A RECORD
  pub take_is : with_taking (encode m) (taken_at (encode m).shares (encode m).clock p (taking_of (encode m))) ≡ encode (taken_in m p x)
  unfolding taken_in
  take_is = go (leb (length (at m p).lane) 0) refl
    where
      go : (t : Bool) → leb (length (at m p).lane) 0 ≡ t
          → with_taking (encode m) (taken_at (encode m).shares (encode m).clock p (taking_of (encode m)))
          ≡ encode (cond t (joining m p (joins m.clock (at m p) x)) (go_on m p (more (at m p) x)))
      go true e = take_joins (omega (arith, true_le (length (at m p).lane) 0 e))
      go false e = take_more (false_lt (length (at m p).lane) 0 e)
