-- A slot begins: the engine's step is the rules' step, on what is written for a board.
use mathlib.Core.Path.{◌≡◌, refl, sym, ap, ap₂, ◌∙◌}
use mathlib.Core.Bool.{Bool, true, false, cond, ◌&&◌}
use mathlib.Core.Logic.{◌≢◌}
use mathlib.Core.Option.{Option, none}
use mathlib.Core.List.{List, map}
use Prim.Native.Nat.{ℕ, suc, ◌+◌, ◌≤◌, ◌<◌}
use native.Mathlib.Omega.{arith}
use native.Mathlib.Numerals.{add-one}
use lib.Dec.{eqb}
use lib.ListN.{length, get_or, set, drop, get_or-map}
use lib.Seq.{get_or-set_same}
use Rattle.base.specs.Sums.{one_if}
use Rattle.base.proofs.Numbers.{eqb_no}
use Rattle.base.proofs.Sums.{one_if_le}
use Rattle.bits.specs.Sets.{set_below}
use Rattle.bits.proofs.Sets.{set_ext}
use Rattle.units.specs.Classes.{class_of}
use Rattle.units.specs.Credit.{credit_of}
use Rattle.units.proofs.Classes.{class_le}
use Rattle.rules.specs.Board
use Rattle.rules.specs.Board.{Place, free_place, block_class, at, any_due, any_waits, pending}
use Rattle.rules.specs.Choice.{left_of, upd, started, begin, lowest, chosen}
use Rattle.rules.specs.Spoilt.{count, in_class, is_queued, ready_num}
use Rattle.rules.proofs.Orders.{pl, map_set, upd_other, count_head, due_any}
use Rattle.rules.proofs.Shape.{Chosen, queued_in}
use Rattle.rules.proofs.Calls.{set_field}
use Rattle.rules.proofs.Tidy.{Tidy}
use Rattle.board.specs.Reading.{first_link, behind, slot_link, slot_left, encode}
use Rattle.board.proofs.Lists.{tab_ext}
use Rattle.board.proofs.Reading.{Fit}
use Rattle.board.proofs.Moves.{after_first, nexts_leave, heads_leave, tails_leave, due_away, active_set}
use Rattle.board.proofs.Same.{same, kept}
use Rattle.board.specs.Memory.{Engine, engine_now, numbers_now, engine_of, with_engine}
use Rattle.slots.specs.Slots.{Turned, turned_now, turned, left_links, still_pending, began_at, opened_slot, opened}
use Rattle.slots.proofs.Sets.{still_is}
use Rattle.slots.proofs.Clock.{clock_is}

-- the engine's step, with what it reads named
opened_new : (shares : List ℕ) (L p t : ℕ) (e : Engine) (s k a d : ℕ) (w : Turned) → eqb e.now.slot 0 ≡ true → get_or shares p 0 ≡ s → class_of s ≡ k
    → get_or e.queues.next p 0 ≡ a → get_or e.queues.deficits p 0 ≡ d
    → turned e.now.clock t e.queues.heads (turned_now e.now.pending e.queues.held) ≡ w
    → opened shares L p t e
    ≡ engine_now e.starts e.counts (set e.queues.deficits p 0) (set e.queues.ready p 0) (set e.queues.next p 0) (set e.queues.heads k a)
    (cond (eqb a 0) (set e.queues.tails k 0) e.queues.tails) w.held
    (numbers_now t e.now.active (still_pending w.pending k t (set e.queues.heads k a) (set e.queues.ready p 0)) (suc p) (d + credit_of L s))
unfolding opened opened_slot began_at left_links
opened_new shares L p t e s k a d w z hs hk ha hd hw = rw (z, hs, hk, ha, hd, hw, add-one p)

module _ (m : Board.Board) (fit : Fit m) (t p : ℕ) (later : m.clock ≤ t) (free : m.slot ≡ none) (ch : Chosen m.places m.orders t (lowest m t) p)
    (first : chosen m t ≡ p) (next! : Tidy (begin m t)) where
  g : Tidy m
  g = fit.tidy

  abbrev k : ℕ
  k = lowest m t

  abbrev ps : List ℕ
  ps = drop 1 (m.orders (lowest m t))

  abbrev l : List Place
  l = m.places

  abbrev y : Place
  y = started m.largest (at m p)

  in_l : p < length m.places
  in_l = queued_in m.places p ch.is_q

  p64 : p < 64
  p64 = omega (arith, in_l, g.shape.all64)

  k17 : lowest m t < 17
  k17 = omega (arith, ch.is_kind, class_le (at m p).share)

  rest : count p ps ≡ 0
  rest = omega (arith, g.shape.listed (lowest m t) p, one_if_le (in_class (lowest m t) (at m p)), ap (count p) ch.first, count_head p ps)

  is_in : 1 ≤ count p (m.orders (lowest m t))
  is_in = omega (arith, ap (count p) ch.first, count_head p ps)

  -- the block is in no other class's order
  elsewhere : (j : ℕ) → j ≢ lowest m t → count p (m.orders j) ≡ 0
  elsewhere j ne = g.shape.listed j p ∙ ap one_if (go (is_queued (at m p).stand))
    where
      go : (b : Bool) → b && eqb j (block_class (at m p)) ≡ false
      go true = eqb_no j (block_class (at m p)) (λ e. ne (e ∙ sym ch.is_kind))
      go false = refl

  -- A SLOT BEGINS
  pub begin_is : with_engine (encode m) (opened (encode m).shares m.largest p t (engine_of (encode m))) ≡ encode (begin m t)
  unfolding encode begin
  begin_is =
      ap (with_engine (encode m))
      (opened_new (encode m).shares m.largest p t (engine_of (encode m)) (at m p).share k (first_link ps) (at m p).deficit _ none! share
      (sym ch.is_kind) after owed (clock_is l o m.held m.clock t g.shape.listed g.shape.seat later))
      ∙ same (record {
        numbers = kept (λ w. w.number) l p y refl ∙ named (λ w. w.number);
        shares = kept (λ w. w.share) l p y refl ∙ named (λ w. w.share);
        deficits = sym (map_set (λ (w : Place). w.deficit) l p y) ∙ named (λ w. w.deficit);
        starts = kept (λ w. w.start) l p y refl ∙ named (λ w. w.start);
        counts = kept (λ w. length w.lane) l p y refl ∙ named (λ w. length w.lane);
        ready = ready;
        next =
            nexts_leave o kj p k ps p64 k17 (sym ch.is_kind) ch.first rest
            ∙ tab_ext 64 _ _ (λ j h. ap (λ (n : ℕ). behind j (upd o k ps (class_of n)))
            (sym (set_field (λ (w : Place). w.share) l p y in_l refl j) ∙ ap (λ (q : ℕ). (pl (set l q (started m.largest (at m q))) j).share) (sym first)));
        heads = hds;
        tails = tails_leave o kj p k ps p64 k17 (sym ch.is_kind) ch.first rest;
        held = refl;
        largest = refl;
        clock = refl;
        active = set_ext _ _ 17 (λ j h. sym (active_set j p l y refl) ∙ ap (λ (q : ℕ). any_waits j (set l q (started m.largest (at m q)))) (sym first));
        pending = ap₂ (λ (a b : List ℕ). still_pending (set_below 17 due) k t a b) hds ready ∙ still_is (begin m t) next! due k k17 was others;
        slot = ap suc (sym first);
        left = left;
      })
    where
      o : ℕ → List ℕ
      o = m.orders

      kj : ℕ → ℕ
      kj j = block_class (at m j)

      due : ℕ → Bool
      due j = any_due m.places t (m.orders j)

      named : (f : Place → ℕ) → map f (set l p y) ≡ map f (set l (chosen m t) (started m.largest (at m (chosen m t))))
      named f = ap (λ (q : ℕ). map f (set l q (started m.largest (at m q)))) (sym first)

      none! : eqb (encode m).slot 0 ≡ true
      none! = ap (λ (s : Option ℕ). eqb (slot_link s) 0) free

      after : get_or (encode m).next p 0 ≡ first_link ps
      after = after_first o kj p k ps p64 k17 (sym ch.is_kind) ch.first rest

      owed : get_or (encode m).deficits p 0 ≡ (at m p).deficit
      owed = get_or-map (λ (w : Place). w.deficit) l p free_place

      share : get_or (encode m).shares p 0 ≡ (at m p).share
      share = get_or-map (λ (w : Place). w.share) l p free_place

      ready : set (encode m).ready p 0 ≡ (encode (begin m t)).ready
      ready = sym (map_set (λ (w : Place). ready_num w.stand) l p y) ∙ named (λ w. ready_num w.stand)

      hds : set (encode m).heads k (first_link ps) ≡ (encode (begin m t)).heads
      hds = heads_leave o kj p k ps p64 k17 (sym ch.is_kind) ch.first rest

      was : any_due m.places t (m.orders k) ≡ true
      was = due_any m.places t p (m.orders k) is_in ch.is_q ch.is_due

      others : (j : ℕ) → j ≢ k → pending (begin m t) j ≡ any_due m.places t (m.orders j)
      others j ne =
          ap₂ (λ (q : ℕ) (xs : List ℕ). any_due (set l q (started m.largest (at m q))) t xs) first (upd_other o k ps j ne)
          ∙ due_away l t p y (m.orders j) (elsewhere j ne)

      left : (at m p).deficit + credit_of m.largest (at m p).share ≡ slot_left (begin m t).places (begin m t).slot
      left =
          sym (ap (λ (q : ℕ). left_of (pl (set l q (started m.largest (at m q))) q).stand) first
          ∙ ap (λ (w : Place). left_of w.stand) (get_or-set_same l p y free_place in_l))
