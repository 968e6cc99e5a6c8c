-- Rule 3: if no block is pending, the least ready time equals the next start of the lowest active class.
use mathlib.Core.Path.{◌≡◌, refl, sym, ap, subst, ◌∙◌}
use mathlib.Core.Bool.{true, false, true≢false, false≢true}
use mathlib.Core.Logic.{◌⊎◌, inl, inr}
use mathlib.Core.Option.{none, some}
use mathlib.Core.List.{List, [], ◌∷◌}
use Prim.Native.Nat.{ℕ, zero, suc, ◌≤◌, ◌<◌}
use native.Mathlib.Nat.{le_antisymm}
use native.Mathlib.Omega.{arith}
use lib.ListN.{length}
use Rattle.base.specs.Tests.{Decides, least}
use Rattle.base.proofs.Numbers.{split, leb_yes, true_le}
use Rattle.base.proofs.Tests.{least_true, least_false}
use Rattle.base.proofs.Decides.{d_iff, d_true, d_eqb, d_and, d_or}
use Rattle.units.specs.Classes.{next_start}
use Rattle.units.proofs.Starts.{next_is, next_align}
use Rattle.units.proofs.Classes.{class_le}
use Rattle.rules.specs.Board.{Place, Board, at, Seventeen, block_class, waits, any_waits, active, pending}
use Rattle.rules.specs.Choice.{least_ready}
use Rattle.rules.specs.Spoilt.{is_queued, is_at, unspoilt}
use Rattle.rules.proofs.Orders.{pl, ready}
use Rattle.rules.proofs.Shape.{LeastIs, least_is, due_pending, queued_ok}
use Rattle.rules.proofs.Turns.{waits_not_serving}
use Rattle.rules.proofs.Run.{lane_waits}
use Rattle.rules.proofs.Tidy.{Tidy}
use Rattle.rules.proofs.Spoilt.{unspoilt_tidy}

-- a class is active exactly where one of its blocks waits
d_active : (k : ℕ) (l : List Place) → Decides (any_waits k l) ((i : ℕ) × (waits (pl l i) ≡ true) × (k ≡ block_class (pl l i)))
unfolding any_waits
d_active k [] = record { yes = λ h. absurd (false≢true h); no = λ w. w.1 }
d_active k (x ∷ xs) = d_iff (d_or (d_and (d_true (waits x)) (d_eqb k (block_class x))) (d_active k xs)) to from
  where
    to : ((waits x ≡ true) × (k ≡ block_class x)) ⊎ ((i : ℕ) × (waits (pl xs i) ≡ true) × (k ≡ block_class (pl xs i)))
        → (i : ℕ) × (waits (pl (x ∷ xs) i) ≡ true) × (k ≡ block_class (pl (x ∷ xs) i))
    to (inl (w, e)) = (0, w, e)
    to (inr (i, w, e)) = (suc i, w, e)

    from : (i : ℕ) × (waits (pl (x ∷ xs) i) ≡ true) × (k ≡ block_class (pl (x ∷ xs) i))
        → ((waits x ≡ true) × (k ≡ block_class x)) ⊎ ((i : ℕ) × (waits (pl xs i) ≡ true) × (k ≡ block_class (pl xs i)))
    from (zero, w, e) = inl (w, e)
    from (suc i, w, e) = inr (i, w, e)

module _ (b : Board) (g : Tidy b) (free : b.slot ≡ none) (idle : (k : ℕ) → pending b k ≡ false) where
  -- a block in an order is ready at the next start of its class
  ready_next : (i : ℕ) → is_queued (at b i).stand ≡ true → ready b.places i ≡ next_start (block_class (at b i)) b.clock
  ready_next i q =
      next_is (block_class (at b i)) b.clock (ready b.places i) (g.shape.seat i q).0 (later (split (ready b.places i) b.clock))
      (g.shape.seat i q).1
    where
      later : (ready b.places i ≤ b.clock) ⊎ (b.clock < ready b.places i) → b.clock < ready b.places i
      later (inl l) = absurd (true≢false (sym (due_pending b.places b.orders b.clock g.shape.listed i q l) ∙ idle (block_class (at b i))))
      later (inr l) = l

  -- no slot is open, so the blocks that wait are those in an order
  queued_of : (i : ℕ) → waits (at b i) ≡ true → is_queued (at b i).stand ≡ true
  queued_of i w =
      waits_not_serving (at b i).stand
      (lane_waits b.largest (at b i).share (at b i).lane (at b i).stand (g.shape.place_ok i).stand_ok (true_le 1 (length (at b i).lane) w))
      (g.one i ∙ ap (is_at i) free)

  waits_of : (i : ℕ) → is_queued (at b i).stand ≡ true → waits (at b i) ≡ true
  waits_of i q = leb_yes 1 (length (at b i).lane) (queued_ok b.largest (at b i).share (at b i).lane (at b i).stand q (g.shape.place_ok i).stand_ok).0

  abbrev lowest : ℕ
  lowest = least (active b) 17

  lowest_le : (i : ℕ) → is_queued (at b i).stand ≡ true → lowest ≤ block_class (at b i)
  lowest_le i q = go (split lowest (block_class (at b i)))
    where
      go : (lowest ≤ block_class (at b i)) ⊎ (block_class (at b i) < lowest) → lowest ≤ block_class (at b i)
      go (inl l) = l
      go (inr l) =
          absurd (true≢false (sym ((d_active (block_class (at b i)) b.places).no (i, waits_of i q, refl)) ∙ least_false (active b) 17 (block_class (at b i)) l))

  least_next : (r : ℕ) → LeastIs b.places (some r) → r ≡ next_start lowest b.clock
  unfolding LeastIs
  least_next r (below, (i, q, e)) = le_antisymm up down
    where
      j : (j : ℕ) × (waits (at b j) ≡ true) × (lowest ≡ block_class (at b j))
      j = (d_active lowest b.places).yes (least_true (active b) 17 (omega (arith, lowest_le i q, class_le (at b i).share)))

      up : r ≤ next_start lowest b.clock
      up = rw j.2 (omega (arith, below j.0 (queued_of j.0 j.1), ready_next j.0 (queued_of j.0 j.1)))

      down : next_start lowest b.clock ≤ r
      down = omega (arith, next_align lowest (block_class (at b i)) b.clock (lowest_le i q), ready_next i q, e)

pub least_ready_lem : (b : Board) → Tidy b → b.slot ≡ none → ((k : ℕ) → pending b k ≡ false) → (r : ℕ) → least_ready b.places ≡ some r
    → r ≡ next_start (least (active b) 17) b.clock
least_ready_lem b g free idle r e = least_next b g free idle r (subst (LeastIs b.places) e (least_is b.places))

pub unspoilt_least_ready : (b : Board) → Seventeen b → unspoilt b ≡ true → b.slot ≡ none → ((k : ℕ) → pending b k ≡ false) → (r : ℕ)
    → least_ready b.places ≡ some r → r ≡ next_start (least (active b) 17) b.clock
unspoilt_least_ready b high h = least_ready_lem b (unspoilt_tidy b high h)
