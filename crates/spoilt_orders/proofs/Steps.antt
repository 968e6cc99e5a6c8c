-- The steps of the functions that follow an order and gather a set: each way that a walk ends, and one step on.
use mathlib.Core.Path.{◌≡◌, refl, sym, ap, ◌∙◌}
use mathlib.Core.Bool.{Bool, true, false, cond}
use mathlib.Core.Logic.{◌≢◌, ◌⊎◌, inl, inr}
use Prim.Native.Nat.{ℕ, zero, suc, ◌+◌, ◌*◌, ◌-◌, ◌≤◌, ◌<◌}
use native.Mathlib.Numerals.{add-one}
use native.Mathlib.Omega.{arith}
use lib.Dec.{eqb, leb}
use lib.ListN.{get_or}
use borrow.Author.Tests.{ne_eqb, le-leb, lt-leb}
use Rattle.base.specs.Sums.{below}
use Rattle.base.specs.Tests.{all_below}
use Rattle.base.proofs.Loops.{all_none, all_more, all_stop, below_none, below_more}
use Rattle.bits.specs.Sets.{with_bit, set_below}
use Rattle.units.specs.Classes.{next_start}
use Rattle.board.specs.declared.Board.{Board}
use Rattle.spoilt_orders.specs.Walks.{block_in_range, no_order, walk, order_length, length_of}

-- ---- a walk

-- the walk of class k stands at the link h, behind met places, and with the steps that are left gives the whole length
pub record Walking (b : Board) (k start met h least last : ℕ) : Type 0 where
  pub within : met ≤ 64
  pub rest : length_of b k ≡ walk k start b.slot (get_or b.tails k 0) b.shares b.counts b.ready b.next (64 - met) met h least last

pub walking_none : (b : Board) (k start : ℕ) → start ≡ next_start k b.clock → Walking b k start 0 (get_or b.heads k 0) 0 0
unfolding order_length
walking_none b k start e = record {
  within = omega arith;
  rest = ap (λ (s : ℕ). walk k s b.slot (get_or b.tails k 0) b.shares b.counts b.ready b.next 64 0 (get_or b.heads k 0) 0 0) (sym e);
}

down : (met : ℕ) → met < 64 → 64 - met ≡ suc (64 - (met + 1))
down met h = omega arith

module _ (b : Board) (k start met h least last : ℕ) where
  abbrev from : ℕ → ℕ
  from n = walk k start b.slot (get_or b.tails k 0) b.shares b.counts b.ready b.next n met h least last

  end : (n : ℕ) → h ≡ 0 → from n ≡ cond (eqb last (get_or b.tails k 0)) met no_order
  unfolding walk
  end zero e = rw e
  end (suc n) e = rw e

  long : (n : ℕ) → n ≡ 0 → h ≢ 0 → from n ≡ no_order
  unfolding walk
  long n e ne = rw (e, ne_eqb h 0 ne)

  far : met < 64 → h ≢ 0 → 64 < h → from (64 - met) ≡ no_order
  unfolding walk
  far l ne g = rw (down met l, ne_eqb h 0 ne, lt-leb h 64 g)

  abbrev good : ℕ → Bool
  good p = block_in_range k start b.slot least p (get_or b.shares p 0) (get_or b.counts p 0) (get_or b.ready p 0)

  refused : met < 64 → h ≢ 0 → h ≤ 64 → good (h - 1) ≡ false → from (64 - met) ≡ no_order
  unfolding walk
  refused l ne g f = rw (down met l, ne_eqb h 0 ne, le-leb h 64 g, f)

  on : met < 64 → h ≢ 0 → h ≤ 64 → good (h - 1) ≡ true
      → from (64 - met) ≡ walk k start b.slot (get_or b.tails k 0) b.shares b.counts b.ready b.next
      (64 - (met + 1)) (met + 1) (get_or b.next (h - 1) 0) (get_or b.ready (h - 1) 0) h
  unfolding walk
  on l ne g f = rw (down met l, ne_eqb h 0 ne, le-leb h 64 g, f)

  module _ (w : Walking b k start met h least last) where
    pub walking_end : h ≡ 0 → length_of b k ≡ cond (eqb last (get_or b.tails k 0)) met no_order
    walking_end e = w.rest ∙ end (64 - met) e

    -- too many places, or a link to none
    pub walking_off : h ≢ 0 → (met ≡ 64) ⊎ ((met ≢ 64) × (64 < h)) → length_of b k ≡ no_order
    walking_off ne (inl e) = w.rest ∙ long (64 - met) (omega arith) ne
    walking_off ne (inr g) = w.rest ∙ far (omega (arith, w.within, g.0)) ne g.1

    module _ (ne : h ≢ 0) (short : met ≢ 64) (g : h ≤ 64) (p : ℕ) (e : p ≡ h - 1) where
      pub walking_refused : good p ≡ false → length_of b k ≡ no_order
      walking_refused f = w.rest ∙ refused (omega (arith, w.within, short)) ne g (rw e at f)

      pub walking_more : good p ≡ true → Walking b k start (met + 1) (get_or b.next p 0) (get_or b.ready p 0) h
      walking_more f = record {
        within = omega (arith, w.within, short);
        rest = w.rest ∙ rw e (on (omega (arith, w.within, short)) ne g (rw e at f));
      }

-- ---- a set, begun and one class on

pub set_none : (t : ℕ → Bool) → set_below 0 t ≡ 0
unfolding set_below
set_none t = refl

pub set_next : (t : ℕ → Bool) (n : ℕ) → set_below (n + 1) t ≡ cond (t n) (with_bit (set_below n t) n) (set_below n t)
unfolding set_below
set_next t n = rw (add-one n)

-- ---- the orders below class k: 64 places at most each, and how many in all

pub record Listed (b : Board) (k total : ℕ) : Type 0 where
  pub few : total ≤ k * 64
  pub each : all_below k (λ j. leb (length_of b j) 64) ≡ true
  pub sum : total ≡ below (length_of b) k

pub listed_none : (b : Board) → Listed b 0 0
listed_none b = record { few = omega arith; each = all_none _; sum = sym (below_none _) }

pub listed_more : (b : Board) (k total n : ℕ) → Listed b k total → n ≡ length_of b k → n ≤ 64 → Listed b (k + 1) (total + n)
listed_more b k total n h e l = record {
  few = omega (arith, h.few);
  each = all_more (λ j. leb (length_of b j) 64) k h.each (le-leb (length_of b k) 64 (omega arith));
  sum = omega (arith, h.sum, below_more (length_of b) k);
}

-- the first that is none ends it
pub none_listed : (b : Board) (k : ℕ) → k < 17 → no_order ≡ length_of b k → all_below 17 (λ j. leb (length_of b j) 64) ≡ false
none_listed b k h e = all_stop (λ j. leb (length_of b j) 64) 17 k h (lt-leb (length_of b k) 64 (omega arith))
