-- The two class sets of a board: what the engine asks of them is what the rules say.
use mathlib.Core.Path.{◌≡◌, refl, sym, ap, ◌∙◌}
use mathlib.Core.Bool.{Bool, true, false, cond, not, true≢false}
use mathlib.Core.Logic.{◌⊎◌, inl, inr, ◌≢◌}
use mathlib.Core.Option.{Option, none, some}
use mathlib.Core.List.{List, [], ◌∷◌}
use Prim.Native.Nat.{ℕ, suc, ◌-◌, ◌≤◌, ◌<◌}
use native.Mathlib.Omega.{arith}
use native.Mathlib.Decide.{ℕ_discrete}
use lib.Dec.{eqb, leb, ltb}
use lib.ListN.{length, get_or, get_or-map}
use borrow.Author.Tests.{eq-eqb, ne_eqb, lt-ltb, le-ltb}
use Rattle.base.specs.Sums.{one_if}
use Rattle.base.proofs.Numbers.{split, leb_yes, leb_no, eqb_yes}
use Rattle.base.proofs.Tests.{and_left}
use Rattle.bits.specs.Sets.{bit_at, without_bit, set_below}
use Rattle.bits.proofs.Bits.{bit_high}
use Rattle.bits.proofs.Sets.{set_bit, set_is, set_ext, set_less}
use Rattle.units.proofs.Classes.{class_le}
use Rattle.rules.specs.Board
use Rattle.rules.specs.Board.{Stand, out, queued, serving, Place, free_place, block_class, waits, at, any_due, any_waits, active, pending}
use Rattle.rules.specs.Choice.{least_ready, is_none}
use Rattle.rules.specs.Spoilt.{count, in_class, is_queued, is_serving, is_at, ready_num}
use Rattle.rules.proofs.Orders.{first_due, due_any, in_head, ready}
use Rattle.rules.proofs.Shape.{StandOk, LeastIs, least_is, listed_in, queued_in}
use Rattle.rules.proofs.Tidy.{Tidy}
use Rattle.board.specs.Reading.{first_link, encode}
use Rattle.board.proofs.Lists.{get_d_tab}
use Rattle.board.proofs.Moves.{is_active, active_here, active_none}
use Rattle.slots.specs.Slots.{still_pending}

pub true_or : (t : Bool) → (t ≡ true) ⊎ (t ≡ false)
true_or true = inl refl
true_or false = inr refl

-- ---- sets by a test of the classes

zero_bit : (k : ℕ) → bit_at 0 k ≡ 0
zero_bit k = bit_high 0 0 k (omega arith) (omega arith)

pub set_some : (f : ℕ → Bool) (k : ℕ) → k < 17 → f k ≡ true → set_below 17 f ≢ 0
set_some f k h e z = omega (arith, one!)
  where
    one! : ◌≡◌ {A = ℕ} 0 1
    one! = sym (zero_bit k) ∙ ap (λ (s : ℕ). bit_at s k) (sym z) ∙ set_bit f 17 k h ∙ ap one_if e

pub set_void : (f : ℕ → Bool) → ((k : ℕ) → f k ≡ false) → set_below 17 f ≡ 0
set_void f h = sym (set_is f 17 0 (omega arith) (λ k l. zero_bit k ∙ ap one_if (sym (h k))))

-- an order that lists nothing has no block of its class
nothing : (x : Place) (k p : ℕ) → count p [] ≡ one_if (in_class k x) → in_class k x ≡ true → ⊥
unfolding count
nothing x k p a b = omega (arith, a, ap one_if b)

module _ (m : Board.Board) (g : Tidy m) where
  -- a class is pending if the first of its order is: ready times never fall along it
  due_first : (k p : ℕ) (ps : List ℕ) → m.orders k ≡ p ∷ ps → leb (ready m.places p) m.clock ≡ any_due m.places m.clock (p ∷ ps)
  due_first k p ps e = go (true_or (any_due m.places m.clock (p ∷ ps)))
    where
      is_q : is_queued (at m p).stand ≡ true
      is_q = (listed_in m.places m.orders g.shape.listed k p (rw e (in_head p ps))).0

      go : (any_due m.places m.clock (p ∷ ps) ≡ true) ⊎ (any_due m.places m.clock (p ∷ ps) ≡ false)
          → leb (ready m.places p) m.clock ≡ any_due m.places m.clock (p ∷ ps)
      go (inl f) = leb_yes (ready m.places p) m.clock (first_due m.places m.clock p ps (rw e at (g.shape.rising k)) f) ∙ sym f
      go (inr f) = late (split (ready m.places p) m.clock)
        where
          late : (ready m.places p ≤ m.clock) ⊎ (m.clock < ready m.places p)
              → leb (ready m.places p) m.clock ≡ any_due m.places m.clock (p ∷ ps)
          late (inl h) = absurd (true≢false (sym (due_any m.places m.clock p (p ∷ ps) (in_head p ps) is_q h) ∙ f))
          late (inr h) = leb_no (ready m.places p) m.clock h ∙ sym f

  -- of a set that is right but for class k, which it has, the engine keeps or drops k as the rules do
  module _ (f : ℕ → Bool) (k : ℕ) (k17 : k < 17) (was : f k ≡ true) (others : (j : ℕ) → j ≢ k → pending m j ≡ f j) where
    kept : pending m k ≡ true → set_below 17 f ≡ set_below 17 (pending m)
    kept e = set_ext f (pending m) 17 (λ j l. go j (ℕ_discrete j k))
      where
        go : (j : ℕ) → Dec (j ≡ k) → f j ≡ pending m j
        go j (yes q) = rw q (was ∙ sym e)
        go j (no q) = sym (others j q)

    dropped : pending m k ≡ false → without_bit (set_below 17 f) k ≡ set_below 17 (pending m)
    dropped e = set_less f (pending m) 17 k k17 e others

    pub still_is : still_pending (set_below 17 f) k m.clock (encode m).heads (encode m).ready ≡ (encode m).pending
    unfolding still_pending encode any_due
    still_is = rw (get_d_tab 17 (λ j. first_link (m.orders j)) k 0 k17) (go (m.orders k) refl)
      where
        go : (xs : List ℕ) → m.orders k ≡ xs
            → cond (eqb (first_link xs) 0) (without_bit (set_below 17 f) k)
            (cond (ltb m.clock (get_or (encode m).ready (first_link xs - 1) 0)) (without_bit (set_below 17 f) k) (set_below 17 f)) ≡ set_below 17 (pending m)
        go [] e = dropped (ap (any_due m.places m.clock) e)
        go (p ∷ ps) e =
            rw (ne_eqb (suc p) 0 (λ z. omega arith), less, get_or-map (λ (x : Place). ready_num x.stand) m.places p free_place)
            (late (split (ready m.places p) m.clock))
          where
            less : suc p - 1 ≡ p
            less = omega arith

            first : leb (ready m.places p) m.clock ≡ pending m k
            first = due_first k p ps e ∙ ap (any_due m.places m.clock) (sym e)

            late : (ready m.places p ≤ m.clock) ⊎ (m.clock < ready m.places p)
                → cond (ltb m.clock (ready m.places p)) (without_bit (set_below 17 f) k) (set_below 17 f) ≡ set_below 17 (pending m)
            late (inl h) = rw (le-ltb m.clock (ready m.places p) h) (kept (sym first ∙ leb_yes (ready m.places p) m.clock h))
            late (inr h) = rw (lt-ltb m.clock (ready m.places p) h) (dropped (sym first ∙ leb_no (ready m.places p) m.clock h))

  -- ---- with no slot open
  module _ (free : m.slot ≡ none) where
    -- a block waits exactly when it is in its class's order
    waits_queued : (p : ℕ) → waits (at m p) ≡ is_queued (at m p).stand
    unfolding StandOk
    waits_queued p = go (at m p).stand (g.shape.place_ok p).stand_ok (g.one p ∙ ap (is_at p) free)
      where
        go : (s : Stand) → StandOk m.largest (at m p).share (at m p).lane s → is_serving s ≡ false → ltb 0 (length (at m p).lane) ≡ is_queued s
        go out ok e = rw ok
        go (queued r) ok e = lt-ltb 0 (length (at m p).lane) ok.0
        go (serving n) ok e = absurd (true≢false e)

    -- a class is active if its order is not empty
    pub active_order : (k : ℕ) → active m k ≡ not (eqb (first_link (m.orders k)) 0)
    active_order k = go (m.orders k) refl
      where
        go : (xs : List ℕ) → m.orders k ≡ xs → any_waits k m.places ≡ not (eqb (first_link xs) 0)
        go [] e = active_none k m.places (λ p. off p (true_or (is_active k (at m p))))
          where
            off : (p : ℕ) → (is_active k (at m p) ≡ true) ⊎ (is_active k (at m p) ≡ false) → is_active k (at m p) ≡ false
            off p (inr f) = f
            off p (inl f) = absurd (nothing (at m p) k p (rw e at (g.shape.listed k p)) (rw (sym (waits_queued p)) f))
        go (q ∷ qs) e =
            rw (ne_eqb (suc q) 0 (λ z. omega arith))
            (active_here k q m.places (queued_in m.places q w.0) (rw (waits_queued q, w.0) (eqb_yes k (block_class (at m q)) w.1)))
          where
            w : (is_queued (at m q).stand ≡ true) × (k ≡ block_class (at m q))
            w = listed_in m.places m.orders g.shape.listed k q (rw e (in_head q qs))

    -- nobody waits exactly when no class is active
    pub nobody : eqb (encode m).active 0 ≡ is_none (least_ready m.places)
    unfolding encode LeastIs
    nobody = go (least_ready m.places) (least_is m.places)
      where
        go : (r : Option ℕ) → LeastIs m.places r → eqb (set_below 17 (active m)) 0 ≡ is_none r
        go none h = eq-eqb (set_below 17 (active m)) 0 (set_void (active m) (λ k. active_none k m.places (λ p. idle k p (true_or (is_active k (at m p))))))
          where
            idle : (k p : ℕ) → (is_active k (at m p) ≡ true) ⊎ (is_active k (at m p) ≡ false) → is_active k (at m p) ≡ false
            idle k p (inr e) = e
            idle k p (inl e) = absurd (true≢false (sym (and_left (waits (at m p)) (eqb k (block_class (at m p))) e) ∙ waits_queued p ∙ h p))
        go (some r) h = ne_eqb (set_below 17 (active m)) 0 (set_some (active m) (block_class (at m i)) (omega (arith, class_le (at m i).share)) on)
          where
            i : ℕ
            i = h.1.0

            on : active m (block_class (at m i)) ≡ true
            on =
                active_here (block_class (at m i)) i m.places (queued_in m.places i h.1.1)
                (rw (waits_queued i, h.1.1) (eqb_yes (block_class (at m i)) (block_class (at m i)) refl))
