-- The slots that a place begins in an interval of its class: never two.
use mathlib.Core.Path.{◌≡◌, refl, ap, ◌∙◌}
use mathlib.Core.Bool.{Bool, true, false, ◌&&◌, false≢true}
use mathlib.Core.Logic.{◌⊎◌, inl, inr, ◌≢◌}
use mathlib.Core.List.{List, [], ◌∷◌}
use Prim.Native.Nat.{ℕ, suc, ◌+◌, ◌-◌, ◌^◌, ◌≤◌, ◌<◌}
use native.Mathlib.Omega.{arith}
use native.Mathlib.Nat.{le_refl}
use lib.Pow.{pow_pos}
use lib.Dec.{leb}
use Rattle.base.proofs.Numbers.{split, leb_no}
use Rattle.base.specs.Sums.{one_if}
use Rattle.units.specs.Classes.{Start, next_start, class_of}
use Rattle.units.proofs.Starts.{next_gt, next_start_lem, start_gap}
use Rattle.rules.specs.Calls.{Single, step}
use Rattle.rules.specs.Spoilt.{is_queued, is_serving}
use Rattle.rules.specs.Board.{Stand, out, queued, serving, block_class, Board, at}
use Rattle.rules.proofs.Good.{seat_ok}
use Rattle.rules.proofs.Turns.{Good, busy, in_line, Keeps, due_of, due_queued, due_serving, begun, slot_clock, bar_of, Bars}
use Rattle.rules.proofs.Calls.{busy_le}
use Rattle.rules.proofs.Run.{keeps_step}

-- the slots that p begins at a clock from lo up to, but not at, hi
unfoldable pub slots_at : ℕ → ℕ → ℕ → Board → List Single → ℕ
slots_at lo hi p b [] = 0
slots_at lo hi p b (x ∷ xs) =
    one_if (begun b (step b x) p && leb lo (slot_clock (step b x).out) && leb (suc (slot_clock (step b x).out)) hi) + slots_at lo hi p (step b x).next xs

-- where the block stands against its intervals
pub due_ok : (b : Board) (p : ℕ) → Good b → in_line (at b p).stand ≡ true
    → (Start (block_class (at b p)) (due_of b p)) × (due_of b p ≤ next_start (block_class (at b p)) b.clock)
    × (b.clock + busy b.slot < due_of b p + 2 ^ block_class (at b p))
due_ok b p g w = go (at b p).stand refl w
  where
    k : ℕ
    k = block_class (at b p)

    go : (s : Stand) → (at b p).stand ≡ s → in_line s ≡ true
        → (Start k (due_of b p)) × (due_of b p ≤ next_start k b.clock) × (b.clock + busy b.slot < due_of b p + 2 ^ k)
    go out e v = absurd (false≢true v)
    go (queued r) e v =
        let i : is_queued (at b p).stand ≡ true = ap is_queued e in
        let o = seat_ok b.places b.held b.clock (busy b.slot) g.fine.in_time p i in
        rw (due_queued b.clock (at b p).share (at b p).stand i) (o.start, o.soon, o.fresh)
    go (serving n) e v =
        rw (due_serving b.clock (at b p).share (at b p).stand (ap is_serving e))
        (next_start_lem k b.clock, le_refl (next_start k b.clock), omega (arith, next_gt k b.clock, pow_pos k, busy_le b.slot))

-- NEVER TWO. Place p keeps its share over the stretch, waiting or not: in no interval does it begin two slots
unfoldable pub Keeping : ℕ → Board → List Single → Type 0
Keeping p b [] = Unit {0}
Keeping p b (x ∷ xs) = ((at (step b x).next p).share ≡ (at b p).share) × Keeping p (step b x).next xs

none_left : (b : Board) (xs : List Single) (p lo hi : ℕ) → Good b → Keeping p b xs → hi ≤ bar_of b p → slots_at lo hi p b xs ≡ 0
unfolding Keeping slots_at
none_left b [] p lo hi g w h = refl
none_left b (x ∷ xs) p lo hi g w h =
    omega (arith, none_left (step b x).next xs p lo hi k.good w.1 (omega (arith, z.rise)), go (begun b (step b x) p) refl)
  where
    k : Keeps b (step b x)
    k = keeps_step b x g

    z : Bars b (step b x) p
    z = k.bars p w.0

    t : ℕ
    t = slot_clock (step b x).out

    last : (c : Bool) → one_if (c && false) ≡ 0
    last true = refl
    last false = refl

    go : (c : Bool) → begun b (step b x) p ≡ c → one_if (c && leb lo t && leb (suc t) hi) ≡ 0
    go false e = refl
    go true e = rw (leb_no (suc t) hi (omega (arith, (z.slot e).0))) (last (leb lo t))

pub never_two : (b : Board) (xs : List Single) (p k lo : ℕ) → Good b → Keeping p b xs → block_class (at b p) ≡ k → Start k lo
    → slots_at lo (lo + 2 ^ k) p b xs ≤ 1
unfolding Keeping slots_at
never_two b [] p k lo g w e m = omega arith
never_two b (x ∷ xs) p k lo g w e m = go (begun b (step b x) p) refl (split lo t) (never_two nb xs p k lo ks.good w.1 (ap class_of w.0 ∙ e) m)
  where
    nb : Board
    nb = (step b x).next

    ks : Keeps b (step b x)
    ks = keeps_step b x g

    z : Bars b (step b x) p
    z = ks.bars p w.0

    t : ℕ
    t = slot_clock (step b x).out

    rest : ℕ
    rest = slots_at lo (lo + 2 ^ k) p (step b x).next xs

    at_most : (c : Bool) → one_if c ≤ 1
    at_most true = omega arith
    at_most false = omega arith

    go : (c : Bool) → begun b (step b x) p ≡ c → (lo ≤ t) ⊎ (t < lo) → rest ≤ 1 → one_if (c && leb lo t && leb (suc t) (lo + 2 ^ k)) + rest ≤ 1
    go false f s r = omega arith
    go true f (inr s) r = rw (leb_no lo t s) (omega arith)
    go true f (inl s) r = omega (
      arith,
      at_most (true && leb lo t && leb (suc t) (lo + 2 ^ k)),
      none_left nb xs p lo (lo + 2 ^ k) ks.good w.1
          (omega (arith, rw e at (z.slot f).1, start_gap k lo (next_start k t) m (next_start_lem k t) (omega (arith, next_gt k t)))),
    )
