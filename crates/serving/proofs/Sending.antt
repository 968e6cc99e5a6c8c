-- The front record is sent and the slot ends or goes on: the engine's steps are the rules' steps, on what is written for a board.
use mathlib.Core.Path.{◌≡◌, refl, sym, ap, ap₂, ◌∙◌}
use mathlib.Core.Bool.{Bool, true, false, cond, not, ◌&&◌, true≢false}
use mathlib.Core.Logic.{◌≢◌}
use mathlib.Core.Option.{Option, none, some}
use mathlib.Core.List.{List, [], ◌∷◌, ◌++◌}
use Prim.Native.Nat.{ℕ, suc, ◌+◌, ◌-◌, ◌≤◌, ◌<◌}
use native.Mathlib.Omega.{arith}
use native.Mathlib.Numerals.{add-one}
use native.Mathlib.Decide.{ℕ_discrete}
use lib.Dec.{eqb, ltb}
use lib.ListN.{length, get_or, set, drop, replicate, length-drop}
use lib.Seq.{get_or-set_same}
use borrow.Author.Tests.{lt-ltb}
use Rattle.base.proofs.Numbers.{eqb_yes, eqb_no, leb_no}
use Rattle.bits.specs.Sets.{with_bit, without_bit, set_below}
use Rattle.bits.proofs.Sets.{set_ext, set_more, set_less}
use Rattle.units.specs.Classes.{class_of, next_start}
use Rattle.units.proofs.Classes.{class_le}
use Rattle.units.proofs.Starts.{next_gt, next_start_lem}
use Rattle.rules.specs.Board
use Rattle.rules.specs.Board.{Place, free_place, block_class, waits, at, onward, any_due, any_waits, due_by}
use Rattle.rules.specs.Choice.{upd, left_of, left_after, least_ready, is_none, release, settle, emptied, short, going, ended, go_on}
use Rattle.rules.specs.Spoilt.{count, is_queued, is_serving, ready_num, is_at}
use Rattle.rules.proofs.Orders.{pl, map_set, upd_same, upd_other, InOrders}
use Rattle.rules.proofs.Shape.{SeatP, set_all, listed_out, LeastIs, least_is}
use Rattle.rules.proofs.Slot.{serving_not_queued, serving_ready, serving_in, serving_ok}
use Rattle.rules.proofs.Calls.{set_field}
use Rattle.rules.proofs.Tidy.{Tidy}
use Rattle.board.specs.Reading.{tab, first_link, last_link, behind, slot_link, slot_left, encode}
use Rattle.board.proofs.Lists.{get_d_tab, tab_ext}
use Rattle.board.proofs.Reading.{Fit, small, class, once}
use Rattle.board.proofs.Moves.{nexts, heads, tails, nexts_join, heads_join, tails_join, due_away, due_snoc, active_here, active_set}
use Rattle.board.proofs.Same.{same, kept}
use Rattle.board.specs.Memory.{Orders, orders_now, Queues, Engine, engine_now, numbers_now, engine_of, with_engine, queues_now}
use Rattle.taking.specs.Taking.{joined_orders}
use Rattle.slots.specs.Slots.{Turned, turned_now, turned, still_active, EmptyEnd, WaitingEnd, empty_end_now, ended_empty, waiting_end_now, ended_waiting}
use Rattle.slots.proofs.Sets.{active_order, nobody}
use Rattle.slots.proofs.Clock.{clock_is}

-- ---- The engine's steps, with what they read named

joined_eq : (next heads tails ready : List ℕ) (active p k time t : ℕ) → get_or tails k 0 ≡ t
    → joined_orders (orders_now next heads tails ready active) p k time
    ≡ orders_now (set (cond (eqb t 0) next (set next (t - 1) (suc p))) p 0) (cond (eqb t 0) (set heads k (suc p)) heads) (set tails k (suc p))
    (set ready p time)
    (with_bit active k)
unfolding joined_orders
joined_eq next heads tails ready active p k time t e = rw (e, add-one p)

empty_eq : (k c active pending : ℕ) (heads held : List ℕ) (h : ℕ) (w : Turned) → get_or heads k 0 ≡ h → turned c (suc c) heads (turned_now pending held) ≡ w
    → ended_empty k c active pending heads held
    ≡ empty_end_now (numbers_now (suc c) (cond (eqb h 0) (without_bit active k) active) w.pending 0 0)
    (cond (eqb (cond (eqb h 0) (without_bit active k) active) 0) (replicate 17 0) w.held)
unfolding ended_empty still_active
empty_eq k c active pending heads held h w e f = rw (add-one c, e, f)

waiting_eq : (p k left c active pending : ℕ) (q : Queues) (o : Orders) (w : Turned)
    → joined_orders (orders_now q.next q.heads q.tails q.ready active) p k (next_start k c) ≡ o
    → turned c (suc c) o.heads (turned_now pending q.held) ≡ w
    → ended_waiting p k left c active pending q
    ≡ waiting_end_now (numbers_now (suc c) o.active w.pending 0 0)
    (queues_now (set q.deficits p left) o.ready o.next o.heads o.tails w.held)
unfolding ended_waiting
waiting_eq p k left c active pending q o w e f = rw (add-one c, e, f)

-- the engine after a send, in its three cases; st is the ring's new start, n the new count
abbrev pub empty_engine : ℕ → ℕ → ℕ → ℕ → Engine → Engine
empty_engine p k st n e =
    let x = ended_empty k e.now.clock e.now.active e.now.pending e.queues.heads e.queues.held in
    engine_now (set e.starts p st) (set e.counts p n) e.queues.deficits e.queues.ready e.queues.next e.queues.heads e.queues.tails
    x.held x.now

abbrev pub going_engine : ℕ → ℕ → ℕ → ℕ → Engine → Engine
going_engine p st n left e =
    record {
      starts = set e.starts p st;
      counts = set e.counts p n;
      queues = e.queues;
      now =
          numbers_now e.now.clock e.now.active e.now.pending (p + 1) left;
    }

abbrev pub waiting_engine : ℕ → ℕ → ℕ → ℕ → ℕ → Engine → Engine
waiting_engine p k st n left e =
    let x = ended_waiting p k left e.now.clock e.now.active e.now.pending e.queues in
    record { starts = set e.starts p st; counts = set e.counts p n; queues = x.queues; now = x.now }

module _ (m : Board.Board) (fit : Fit m) (p : ℕ) (held! : m.slot ≡ some p) where
  g : Tidy m
  g = fit.tidy

  abbrev l : List Place
  l = m.places

  abbrev k : ℕ
  k = block_class (at m p)

  pub is_s : is_serving (at m p).stand ≡ true
  is_s = g.one p ∙ ap (is_at p) held! ∙ eqb_yes p p refl

  pub in_l : p < length m.places
  in_l = serving_in m.places p is_s

  p64 : p < 64
  p64 = omega (arith, in_l, g.shape.all64)

  k17 : block_class (at m p) < 17
  k17 = omega (arith, class_le (at m p).share)

  pub some! : 1 ≤ length (at m p).lane
  some! = (serving_ok m.largest (at m p).share (at m p).lane (at m p).stand is_s (g.shape.place_ok p).stand_ok).0

  waits! : waits (at m p) ≡ true
  waits! = lt-ltb 0 (length (at m p).lane) some!

  idle_ready : (w : Place) → ready_num w.stand ≡ 0 → ready_num w.stand ≡ ready_num (at m p).stand
  idle_ready w e = e ∙ sym (serving_ready (at m p).stand is_s)

  no_deficit : (at m p).deficit ≡ 0
  no_deficit = (g.shape.place_ok p).clear (serving_not_queued (at m p).stand is_s)

  gone : (j : ℕ) → count p (m.orders j) ≡ 0
  gone j = listed_out m.places m.orders g.shape.listed j p (serving_not_queued (at m p).stand is_s)

  same_links : (y : Place) → y.share ≡ (at m p).share → (o : ℕ → List ℕ)
      → tab 64 (λ j. behind j (o (block_class (at m j)))) ≡ tab 64 (λ j. behind j (o (block_class (pl (set l p y) j))))
  same_links y e o = tab_ext 64 _ _ (λ j h. ap (λ (n : ℕ). behind j (o (class_of n))) (sym (set_field (λ (w : Place). w.share) l p y in_l e j)))

  was_active : any_waits k l ≡ true
  was_active = active_here k p l in_l (rw waits! (eqb_yes k k refl))

  -- what still waits is as active as before
  still_waits : (y : Place) → waits y ≡ true → y.share ≡ (at m p).share → (j : ℕ) → any_waits j (set l p y) ≡ any_waits j l
  still_waits y e s j = active_set j p l y (ap₂ (λ (b : Bool) (n : ℕ). b && eqb j (class_of n)) (e ∙ sym waits!) s)

  -- the new front waits
  second : 1 < length (at m p).lane → ltb 0 (length (drop 1 (at m p).lane)) ≡ true
  second two = lt-ltb 0 (length (drop 1 (at m p).lane)) (omega (arith, length-drop 1 (at m p).lane))

  -- THE SLOT GOES ON
  pub going_is : 1 < length (at m p).lane
      → with_engine (encode m) (going_engine p (onward (at m p)) (length (at m p).lane - 1) (left_after (at m p)) (engine_of (encode m)))
      ≡ encode (go_on m p (going (at m p)))
  unfolding encode
  going_is two = same (record {
    numbers = kept (λ w. w.number) l p y refl;
    shares = kept (λ w. w.share) l p y refl;
    deficits = kept (λ w. w.deficit) l p y (sym no_deficit);
    starts = sym (map_set (λ (w : Place). w.start) l p y);
    counts = ap (set (encode m).counts p) (sym (length-drop 1 (at m p).lane)) ∙ sym (map_set (λ (w : Place). length w.lane) l p y);
    ready = kept (λ w. ready_num w.stand) l p y (idle_ready y refl);
    next = same_links y refl m.orders;
    heads = refl;
    tails = refl;
    held = refl;
    largest = refl;
    clock = refl;
    active = set_ext _ _ 17 (λ j h. sym (still_waits y (second two) refl j));
    pending = set_ext _ _ 17 (λ j h. sym (due_away l m.clock p y (m.orders j) (gone j)));
    slot = add-one p ∙ sym (ap slot_link held!);
    left = sym (ap (λ (w : Place). left_of w.stand) (get_or-set_same l p y free_place in_l)) ∙ sym (ap (slot_left (set l p y)) held!);
  })
    where
      y : Place
      y = going (at m p)

  -- THE SLOT ENDS, the lane being empty
  module _ (next! : Tidy (ended m p (emptied (at m p)) m.orders)) where
    abbrev y0 : Place
    y0 = emptied (at m p)

    others : (j : ℕ) → j ≢ k → any_waits j (set l p y0) ≡ any_waits j l
    others j ne = active_set j p l y0 (sym (rw waits! (eqb_no j k ne)))

    now_active : any_waits k (set l p y0) ≡ not (eqb (first_link (m.orders k)) 0)
    unfolding ended
    now_active = active_order (ended m p (emptied (at m p)) m.orders) next! refl k

    active_is : (t : Bool) → eqb (first_link (m.orders k)) 0 ≡ t
        → cond t (without_bit (encode m).active k) (encode m).active ≡ set_below 17 (λ j. any_waits j (set l p y0))
    unfolding encode
    active_is true e = set_less (λ j. any_waits j l) (λ j. any_waits j (set l p y0)) 17 k k17 (now_active ∙ ap not e) others
    active_is false e = set_ext (λ j. any_waits j l) (λ j. any_waits j (set l p y0)) 17 (λ j h. go j (ℕ_discrete j k))
      where
        go : (j : ℕ) → Dec (j ≡ k) → any_waits j l ≡ any_waits j (set l p y0)
        go j (yes q) = ap (λ (i : ℕ). any_waits i l) q ∙ was_active ∙ sym (ap (λ (i : ℕ). any_waits i (set l p y0)) q ∙ now_active ∙ ap not e)
        go j (no q) = sym (others j q)

    quiet_is : eqb (set_below 17 (λ j. any_waits j (set l p y0))) 0 ≡ is_none (least_ready (set l p y0))
    unfolding ended encode
    quiet_is = nobody (ended m p (emptied (at m p)) m.orders) next! refl

    held_is : (t : Bool) → is_none (least_ready (set l p y0)) ≡ t
        → cond t (replicate 17 0) (tab 17 (release m.clock (suc m.clock) m.held))
        ≡ tab 17 (settle (set l p y0) (release m.clock (suc m.clock) m.held))
    unfolding settle tab
    held_is true e = zeros ∙ tab_ext 17 _ _ (λ j h. sym (ap (λ (b : Bool). cond b 0 (release m.clock (suc m.clock) m.held j)) e))
      where
        zeros : replicate {A = ℕ} 17 0 ≡ tab 17 (λ j. 0)
        zeros = refl
    held_is false e = tab_ext 17 _ _ (λ j h. sym (ap (λ (b : Bool). cond b 0 (release m.clock (suc m.clock) m.held j)) e))

    pub empty_is : with_engine (encode m) (empty_engine p k (onward (at m p)) 0 (engine_of (encode m))) ≡ encode (ended m p (emptied (at m p)) m.orders)
    unfolding ended encode
    empty_is =
        ap (λ (x : EmptyEnd). with_engine (encode m)
        (engine_now (set (encode m).starts p (onward (at m p))) (set (encode m).counts p 0) (encode m).deficits (encode m).ready (encode m).next
        (encode m).heads (encode m).tails x.held x.now))
        (empty_eq k m.clock (encode m).active (encode m).pending (encode m).heads (encode m).held (first_link (m.orders k)) _
        (get_d_tab 17 (λ j. first_link (m.orders j)) k 0 k17)
        (clock_is l m.orders m.held m.clock (suc m.clock) g.shape.listed g.shape.seat (omega arith)))
        ∙ same (record {
          numbers = kept (λ w. w.number) l p y0 refl;
          shares = kept (λ w. w.share) l p y0 refl;
          deficits = kept (λ w. w.deficit) l p y0 (sym no_deficit);
          starts = sym (map_set (λ (w : Place). w.start) l p y0);
          counts = sym (map_set (λ (w : Place). length w.lane) l p y0);
          ready = kept (λ w. ready_num w.stand) l p y0 (idle_ready y0 refl);
          next = same_links y0 refl m.orders;
          heads = refl;
          tails = refl;
          held =
              ap (λ (b : Bool). cond b (replicate 17 0) (tab 17 (release m.clock (suc m.clock) m.held))) (ap (λ (a : ℕ). eqb a 0) act ∙ quiet_is)
              ∙ held_is (is_none (least_ready (set l p y0))) refl;
          largest = refl;
          clock = refl;
          active = act;
          pending = set_ext _ _ 17 (λ j h. sym (due_away l (suc m.clock) p y0 (m.orders j) (gone j)));
          slot = refl;
          left = refl;
        })
      where
        act : cond (eqb (first_link (m.orders k)) 0) (without_bit (encode m).active k) (encode m).active ≡ set_below 17 (λ j. any_waits j (set l p y0))
        act = active_is (eqb (first_link (m.orders k)) 0) refl

  -- THE SLOT ENDS, the block joining its order again
  module _ (two : 1 < length (at m p).lane) (next! : Tidy (ended m p (short m.clock (at m p)) (upd m.orders k (m.orders k ++ (p ∷ []))))) where
    abbrev y1 : Place
    y1 = short m.clock (at m p)

    abbrev o : ℕ → List ℕ
    o = m.orders

    abbrev o1 : ℕ → List ℕ
    o1 = upd m.orders k (m.orders k ++ (p ∷ []))

    some_least : is_none (least_ready (set l p y1)) ≡ false
    unfolding LeastIs
    some_least = go (least_ready (set l p y1)) (least_is (set l p y1))
      where
        go : (r : Option ℕ) → LeastIs (set l p y1) r → is_none r ≡ false
        go none h = absurd (true≢false (sym (ap (λ (w : Place). is_queued w.stand) (get_or-set_same l p y1 free_place in_l)) ∙ h p))
        go (some r) h = refl

    held_short : tab 17 (release m.clock (suc m.clock) m.held) ≡ tab 17 (settle (set l p y1) (release m.clock (suc m.clock) m.held))
    unfolding settle
    held_short = tab_ext 17 _ _ (λ j h. sym (ap (λ (b : Bool). cond b 0 (release m.clock (suc m.clock) m.held j)) some_least))

    -- at the old clock the block that joined is not pending, and its ready time is as the rules have it
    seats : (q : ℕ) → SeatP m.clock (pl (set l p y1) q)
    seats = set_all (SeatP m.clock) l p y1 in_l (λ e. (next_start_lem k m.clock, omega arith)) g.shape.seat

    due_old : (j : ℕ) → any_due l m.clock (o j) ≡ any_due (set l p y1) m.clock (o1 j)
    due_old j = sym (go (ℕ_discrete j k))
      where
        away : any_due (set l p y1) m.clock (o j) ≡ any_due l m.clock (o j)
        away = due_away l m.clock p y1 (o j) (gone j)

        late : due_by m.clock (pl (set l p y1) p).stand ≡ false
        late =
            ap (λ (w : Place). due_by m.clock w.stand) (get_or-set_same l p y1 free_place in_l)
            ∙ leb_no (next_start k m.clock) m.clock (next_gt k m.clock)

        go : Dec (j ≡ k) → any_due (set l p y1) m.clock (o1 j) ≡ any_due l m.clock (o j)
        go (yes e) =
            rw e (ap (any_due (set l p y1) m.clock) (upd_same o k (o k ++ (p ∷ []))) ∙ due_snoc (set l p y1) m.clock p (o k) late
            ∙ due_away l m.clock p y1 (o k) (gone k))
        go (no e) = ap (any_due (set l p y1) m.clock) (upd_other o k (o k ++ (p ∷ [])) j e) ∙ away

    listed1 : InOrders (set l p y1) o1
    unfolding ended
    listed1 = next!.shape.listed

    clock1 : turned m.clock (suc m.clock) (tab 17 (λ j. first_link (o1 j))) (turned_now (set_below 17 (λ j. any_due l m.clock (o j))) (tab 17 m.held))
        ≡ turned_now (set_below 17 (λ j. any_due (set l p y1) (suc m.clock) (o1 j))) (tab 17 (release m.clock (suc m.clock) m.held))
    clock1 =
        ap (λ (s : ℕ). turned m.clock (suc m.clock) (tab 17 (λ j. first_link (o1 j))) (turned_now s (tab 17 m.held))) (set_ext _ _ 17 (λ j h. due_old j))
        ∙ clock_is (set l p y1) o1 m.held m.clock (suc m.clock) listed1 seats (omega arith)

    pub short_is : with_engine (encode m) (waiting_engine p k (onward (at m p)) (length (at m p).lane - 1) (left_after (at m p)) (engine_of (encode m)))
        ≡ encode (ended m p (short m.clock (at m p)) (upd m.orders k (m.orders k ++ (p ∷ []))))
    unfolding ended encode
    short_is =
        ap (λ (x : WaitingEnd). with_engine (encode m)
        (record {
          starts = set (encode m).starts p (onward (at m p));
          counts = set (encode m).counts p (length (at m p).lane - 1);
          queues = x.queues;
          now = x.now;
        }))
        (waiting_eq p k (left_after (at m p)) m.clock (encode m).active (encode m).pending (engine_of (encode m)).queues _ _
        (joined_eq (nexts o kj) (heads o kj) (tails o kj) (encode m).ready (encode m).active p k (next_start k m.clock) (last_link (o k))
        (get_d_tab 17 (λ j. last_link (o j)) k 0 k17))
        (ap (λ (h : List ℕ). turned m.clock (suc m.clock) h (turned_now (encode m).pending (encode m).held)) hds ∙ clock1))
        ∙ same (record {
          numbers = kept (λ w. w.number) l p y1 refl;
          shares = kept (λ w. w.share) l p y1 refl;
          deficits = sym (map_set (λ (w : Place). w.deficit) l p y1);
          starts = sym (map_set (λ (w : Place). w.start) l p y1);
          counts = ap (set (encode m).counts p) (sym (length-drop 1 (at m p).lane)) ∙ sym (map_set (λ (w : Place). length w.lane) l p y1);
          ready = sym (map_set (λ (w : Place). ready_num w.stand) l p y1);
          next =
              nexts_join o kj p k p64 k17 refl (gone k) (class m g k) (once m g k) (small m g k) (eqb (last_link (o k)) 0) refl
              ∙ same_links y1 refl (upd o k (o k ++ (p ∷ [])));
          heads = hds;
          tails = tails_join o kj p k p64 k17 refl (gone k) (class m g k) (once m g k) (small m g k);
          held = held_short;
          largest = refl;
          clock = refl;
          active =
              set_more (λ j. any_waits j l) (λ j. any_waits j (set l p y1)) 17 k k17 (still_waits y1 (second two) refl k ∙ was_active)
              (λ j ne. still_waits y1 (second two) refl j);
          pending = refl;
          slot = refl;
          left = refl;
        })
      where
        kj : ℕ → ℕ
        kj j = block_class (at m j)

        hds : cond (eqb (last_link (o k)) 0) (set (heads o kj) k (suc p)) (heads o kj) ≡ heads (upd o k (o k ++ (p ∷ []))) kj
        hds = heads_join o kj p k p64 k17 refl (gone k) (class m g k) (once m g k) (small m g k) (eqb (last_link (o k)) 0) refl
