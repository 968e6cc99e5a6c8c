-- The class and the clock that the two sets give are the rules'.
use mathlib.Core.Path.{◌≡◌, refl, sym, ap, ◌∙◌}
use mathlib.Core.Bool.{Bool, true, false, not, true≢false, false≢true}
use mathlib.Core.Logic.{◌⊎◌, inl, inr, ◌≢◌}
use mathlib.Core.Option.{none, some}
use mathlib.Core.List.{List, [], ◌∷◌}
use Prim.Native.Nat.{ℕ, suc, ◌≤◌, ◌<◌, max}
use native.Mathlib.Omega.{arith}
use lib.Dec.{eqb}
use borrow.Author.Tests.{eq-eqb, ne_eqb}
use Rattle.base.specs.Sums.{one_if}
use Rattle.base.specs.Tests.{least}
use Rattle.base.proofs.Numbers.{split}
use Rattle.base.proofs.Tests.{least_true, least_false, least_found}
use Rattle.bits.specs.Sets.{in_set, lowest_bit, set_below}
use Rattle.bits.proofs.Sets.{set_bit}
use Rattle.units.specs.Classes.{next_start}
use Rattle.units.proofs.Classes.{class_le}
use Rattle.units.proofs.Starts.{next_is, next_align}
use Rattle.rules.specs.Board
use Rattle.rules.specs.Board.{block_class, at, any_due, any_waits, active, pending}
use Rattle.rules.specs.Choice.{lowest}
use Rattle.rules.specs.Spoilt.{count, is_queued}
use Rattle.rules.proofs.Orders.{ready, due_any, any_due_lem, in_head}
use Rattle.rules.proofs.Shape.{LeastIs, listed_in, due_pending}
use Rattle.rules.proofs.Tidy.{Tidy}
use Rattle.board.specs.Reading.{first_link, encode}
use Rattle.slots.specs.Slots.{chosen_class, slot_clock}
use Rattle.slots.proofs.Sets.{set_some, set_void, active_order}

-- the lowest class of a set that is not empty is the first that passes its test
lowest_set : (f : ℕ → Bool) (k : ℕ) → k < 17 → f k ≡ true → ((j : ℕ) → j < k → f j ≡ false) → lowest_bit (set_below 17 f) ≡ k
unfolding lowest_bit
lowest_set f k h on off = least_found (in_set (set_below 17 f)) 32 k (omega arith) (λ j l. bit j (omega arith) ∙ off j l) (bit k h ∙ on)
  where
    one_bit : (t : Bool) → eqb (one_if t) 1 ≡ t
    one_bit true = refl
    one_bit false = refl

    bit : (j : ℕ) → j < 17 → in_set (set_below 17 f) j ≡ f j
    bit j l = ap (λ (n : ℕ). eqb n 1) (set_bit f 17 j l) ∙ one_bit (f j)

module _ (m : Board.Board) (g : Tidy m) (free : m.slot ≡ none) (r : ℕ) (li : LeastIs m.places (some r)) where
  abbrev a : ℕ → Bool
  a j = any_waits j m.places

  -- the block with the least ready time
  first : (i : ℕ) × (is_queued (at m i).stand ≡ true) × (ready m.places i ≡ r)
  unfolding LeastIs
  first = li.1

  lowest_ready : (i : ℕ) → is_queued (at m i).stand ≡ true → r ≤ ready m.places i
  unfolding LeastIs
  lowest_ready = li.0

  first_class : block_class (at m first.0) < 17
  first_class = omega (arith, class_le (at m first.0).share)

  -- a class is pending
  now! : r ≤ m.clock → (slot_clock m.clock (encode m).pending (chosen_class (encode m).active (encode m).pending) ≡ m.clock)
      × (chosen_class (encode m).active (encode m).pending ≡ lowest m m.clock)
  unfolding slot_clock chosen_class encode lowest
  now! h = (
    rw (ne_eqb (set_below 17 (pending m)) 0 some!),
    rw (ne_eqb (set_below 17 (pending m)) 0 some!)
        (lowest_set (pending m) (least (pending m) 17) under (least_true (pending m) 17 under) (least_false (pending m) 17)),
  )
    where
      on : pending m (block_class (at m first.0)) ≡ true
      on = due_pending m.places m.orders m.clock g.shape.listed first.0 first.1 (omega (arith, first.2))

      some! : set_below 17 (pending m) ≢ 0
      some! = set_some (pending m) (block_class (at m first.0)) first_class on

      under : least (pending m) 17 < 17
      under = go (split (least (pending m) 17) (block_class (at m first.0)))
        where
          go : (least (pending m) 17 ≤ block_class (at m first.0)) ⊎ (block_class (at m first.0) < least (pending m) 17) → least (pending m) 17 < 17
          go (inl l) = omega (arith, first_class)
          go (inr l) = absurd (true≢false (sym on ∙ least_false (pending m) 17 (block_class (at m first.0)) l))

  -- none is: the clock goes on
  module _ (h : m.clock < r) where
    calm : (j : ℕ) → pending m j ≡ false
    calm j = go (pending m j) refl
      where
        go : (t : Bool) → pending m j ≡ t → t ≡ false
        go false e = refl
        go true e =
            let w = any_due_lem m.places m.clock (m.orders j) e in
            absurd (omega (arith, w.2, lowest_ready w.0 (listed_in m.places m.orders g.shape.listed j w.0 w.1).0))

    -- every block in an order is ready at the next start of its class
    at_start : (i : ℕ) → is_queued (at m i).stand ≡ true → ready m.places i ≡ next_start (block_class (at m i)) m.clock
    at_start i q = let s = g.shape.seat i q in next_is (block_class (at m i)) m.clock (ready m.places i) s.0 (omega (arith, lowest_ready i q)) s.1

    abbrev k : ℕ
    k = least a 17

    -- a class is active if its order has a block
    active_class : (i : ℕ) → is_queued (at m i).stand ≡ true → a (block_class (at m i)) ≡ true
    unfolding any_due
    active_class i q = active_order m g free (block_class (at m i)) ∙ go (m.orders (block_class (at m i))) refl
      where
        go : (xs : List ℕ) → m.orders (block_class (at m i)) ≡ xs → not (eqb (first_link xs) 0) ≡ true
        go [] e =
            absurd (false≢true (sym (ap (any_due m.places (ready m.places i)) e)
            ∙ due_pending m.places m.orders (ready m.places i) g.shape.listed i q (omega arith)))
        go (x ∷ xs) e = ap not (ne_eqb (suc x) 0 (λ z. omega arith))

    k_low : (i : ℕ) → is_queued (at m i).stand ≡ true → k ≤ block_class (at m i)
    k_low i q = go (split k (block_class (at m i)))
      where
        go : (k ≤ block_class (at m i)) ⊎ (block_class (at m i) < k) → k ≤ block_class (at m i)
        go (inl x) = x
        go (inr x) = absurd (true≢false (sym (active_class i q) ∙ least_false a 17 (block_class (at m i)) x))

    k17 : least a 17 < 17
    k17 = omega (arith, k_low first.0 first.1, first_class)

    -- the first of class k
    member : (q : ℕ) × (1 ≤ count q (m.orders k)) × (is_queued (at m q).stand ≡ true) × (k ≡ block_class (at m q))
    member = go (m.orders k) refl
      where
        go : (xs : List ℕ) → m.orders k ≡ xs → (q : ℕ) × (1 ≤ count q (m.orders k)) × (is_queued (at m q).stand ≡ true) × (k ≡ block_class (at m q))
        go [] e = absurd (true≢false (sym (least_true a 17 k17) ∙ active_order m g free k ∙ ap (λ (xs : List ℕ). not (eqb (first_link xs) 0)) e))
        go (q ∷ qs) e =
            let c : 1 ≤ count q (m.orders k) = rw e (in_head q qs) in
            let w = listed_in m.places m.orders g.shape.listed k q c in
            (q, c, w.0, w.1)

    start_is : next_start k m.clock ≡ r
    start_is =
        let q = member.0 in
        let e = at_start q member.2 in
        let u = ap (λ (j : ℕ). next_start j m.clock) member.3 in
        omega (
          arith,
          e,
          u,
          lowest_ready q member.2,
          at_start first.0 first.1,
          first.2,
          next_align k (block_class (at m first.0)) m.clock (k_low first.0 first.1),
        )

    below_k : (j : ℕ) → j < k → any_due m.places r (m.orders j) ≡ false
    unfolding any_due
    below_k j l = go (m.orders j) refl
      where
        go : (xs : List ℕ) → m.orders j ≡ xs → any_due m.places r xs ≡ false
        go [] e = refl
        go (q ∷ qs) e =
            absurd (false≢true (sym (least_false a 17 j l) ∙ active_order m g free j ∙ ap (λ (xs : List ℕ). not (eqb (first_link xs) 0)) e
            ∙ ap not (ne_eqb (suc q) 0 (λ z. omega arith))))

    lowest_is : lowest m r ≡ k
    unfolding lowest
    lowest_is =
        least_found (λ j. any_due m.places r (m.orders j)) 17 k k17 below_k (due_any m.places r member.0 (m.orders k) member.1 member.2 due)
      where
        due : ready m.places member.0 ≤ r
        due = omega (arith, at_start member.0 member.2, ap (λ (j : ℕ). next_start j m.clock) member.3, start_is)

    later! : (slot_clock m.clock (encode m).pending (chosen_class (encode m).active (encode m).pending) ≡ r)
        × (chosen_class (encode m).active (encode m).pending ≡ lowest m r)
    unfolding slot_clock chosen_class encode
    later! = (
      rw (eq-eqb (set_below 17 (pending m)) 0 (set_void (pending m) calm), low) start_is,
      rw (eq-eqb (set_below 17 (pending m)) 0 (set_void (pending m) calm)) (low ∙ sym lowest_is),
    )
      where
        low : lowest_bit (set_below 17 (active m)) ≡ k
        low = lowest_set (active m) k k17 (least_true a 17 k17) (least_false a 17)

  -- THE CHOICE
  pub choice_is : (slot_clock m.clock (encode m).pending (chosen_class (encode m).active (encode m).pending) ≡ max m.clock r)
      × (chosen_class (encode m).active (encode m).pending ≡ lowest m (max m.clock r))
  choice_is = go (split r m.clock)
    where
      go : (r ≤ m.clock) ⊎ (m.clock < r)
          → (slot_clock m.clock (encode m).pending (chosen_class (encode m).active (encode m).pending) ≡ max m.clock r)
          × (chosen_class (encode m).active (encode m).pending ≡ lowest m (max m.clock r))
      go (inl h) = let e : max m.clock r ≡ m.clock = omega arith in rw e (now! h)
      go (inr h) = let e : max m.clock r ≡ r = omega arith in rw e (later! h)
