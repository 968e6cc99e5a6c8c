-- What the walk of an order says: its length, where its links end, each place it meets belongs to the order, ready times never fall and the last is the tail.
use mathlib.Core.Path.{◌≡◌, refl, ap, ◌∙◌}
use mathlib.Core.Bool.{Bool, true, false, cond, ◌&&◌}
use mathlib.Core.List.{List, [], ◌∷◌}
use Prim.Native.Nat.{ℕ, zero, suc, ◌+◌, ◌*◌, ◌-◌, ◌/◌, ◌^◌}
use native.Mathlib.Omega.{arith}
use lib.Dec.{leb, eqb}
use lib.ListN.{length, get_or}
use borrow.Author.Tests.{ne_eqb, leb-true}
use Rattle.base.proofs.Numbers.{eqb_yes, eqb_true}
use Rattle.base.proofs.Decides.{d_and, d_true}
use Rattle.units.specs.Classes.{next_start}
use Rattle.board.specs.declared.Board.{Board}
use Rattle.board.specs.Reading.{follow}
use Rattle.board.proofs.Walks.{ends}
use Rattle.spoilt_places.specs.Ranges.{in_order}
use Rattle.spoilt_orders.specs.Walks.{of_class, ready_in_range, block_in_range, no_order, walk, order_length, length_of}

-- ---- the tests of a walk, on the list of the places that it meets

-- place p belongs to the order of class k
unfoldable pub belongs : Board → ℕ → ℕ → Bool
belongs b k p =
    leb (suc p) 64
    && (in_order p (get_or b.counts p 0) b.slot
    && (of_class k (get_or b.shares p 0)
    && (eqb (get_or b.ready p 0 / 2 ^ k * 2 ^ k) (get_or b.ready p 0) && leb (get_or b.ready p 0) (next_start k b.clock))))

unfoldable pub all_belong : Board → ℕ → List ℕ → Bool
all_belong b k [] = true
all_belong b k (p ∷ ps) = belongs b k p && all_belong b k ps

-- the ready times never fall, from the least on
unfoldable pub rises_from : List ℕ → ℕ → List ℕ → Bool
rises_from ready least [] = true
rises_from ready least (p ∷ ps) = leb least (get_or ready p 0) && rises_from ready (get_or ready p 0) ps

unfoldable pub last_from : ℕ → List ℕ → ℕ
last_from last [] = last
last_from last (p ∷ ps) = last_from (suc p) ps

pub less : (p : ℕ) → suc p - 1 ≡ p
less p = omega arith

-- a link's test is that of its place, and that the ready time does not fall
link_is : (b : Board) (k least p : ℕ)
    → leb (suc p) 64 && block_in_range k (next_start k b.clock) b.slot least p (get_or b.shares p 0) (get_or b.counts p 0) (get_or b.ready p 0)
    ≡ belongs b k p && leb least (get_or b.ready p 0)
unfolding block_in_range ready_in_range belongs
link_is b k least p =
    (regroup (leb (suc p) 64) (in_order p (get_or b.counts p 0) b.slot) (of_class k (get_or b.shares p 0))
    (eqb (get_or b.ready p 0 / 2 ^ k * 2 ^ k) (get_or b.ready p 0)) (leb (get_or b.ready p 0) (next_start k b.clock)) (leb least (get_or b.ready p 0)))
  where
    regroup : (c d e f g h : Bool) → c && (d && (e && (f && (g && h)))) ≡ (c && (d && (e && (f && g)))) && h
    regroup true true true true g h = refl
    regroup false d e f g h = refl
    regroup true false e f g h = refl
    regroup true true false f g h = refl
    regroup true true true false g h = refl

-- the order of class k, as it is read
abbrev pub order_of : Board → ℕ → List ℕ
order_of b k = follow b.next 64 (get_or b.heads k 0)

module _ (b : Board) (k : ℕ) where
  -- every test of the walk from the link h on
  abbrev pub passes : ℕ → ℕ → ℕ → ℕ → Bool
  passes n h least last =
      ends b.next n h
      && (all_belong b k (follow b.next n h)
      && (rises_from b.ready least (follow b.next n h) && eqb (last_from last (follow b.next n h)) (get_or b.tails k 0)))

  none_met : (met : ℕ) (t : Bool) → cond t met no_order ≡ cond t (met + 0) no_order
  none_met met true = omega arith
  none_met met false = refl

  walk_is : (n met h least last : ℕ)
      → walk k (next_start k b.clock) b.slot (get_or b.tails k 0) b.shares b.counts b.ready b.next n met h least last
      ≡ cond (passes n h least last) (met + length (follow b.next n h)) no_order
  unfolding walk ends follow all_belong rises_from last_from
  walk_is zero met zero least last = none_met met (eqb last (get_or b.tails k 0))
  walk_is zero met (suc p) least last = rw (ne_eqb (suc p) 0 (λ z. omega arith))
  walk_is (suc n) met zero least last = none_met met (eqb last (get_or b.tails k 0))
  walk_is (suc n) met (suc p) least last =
      rw (ne_eqb (suc p) 0 (λ z. omega arith), less p, link_is b k least p, walk_is n (met + 1) (get_or b.next p 0) (get_or b.ready p 0) (suc p))
      (shuffle (belongs b k p) (leb least (get_or b.ready p 0)) (ends b.next n (get_or b.next p 0)) (all_belong b k rest)
      (rises_from b.ready (get_or b.ready p 0) rest) (eqb (last_from (suc p) rest) (get_or b.tails k 0)) _ _ (omega arith))
    where
      rest : List ℕ
      rest = follow b.next n (get_or b.next p 0)

      shuffle : (m r e s u t : Bool) (x y : ℕ) → x ≡ y
          → cond (m && r) (cond (e && (s && (u && t))) x no_order) no_order ≡ cond (e && ((m && s) && ((r && u) && t))) y no_order
      shuffle true true e s u t x y h = rw h
      shuffle true false false s u t x y h = refl
      shuffle true false true true u t x y h = refl
      shuffle true false true false u t x y h = refl
      shuffle false r true s u t x y h = refl
      shuffle false r false s u t x y h = refl

  length_is : length_of b k ≡ cond (passes 64 (get_or b.heads k 0) 0 0) (length (order_of b k)) no_order
  unfolding order_length
  length_is = walk_is 64 0 (get_or b.heads k 0) 0 0 ∙ ap (λ (n : ℕ). cond (passes 64 (get_or b.heads k 0) 0 0) n no_order) (omega arith)

  -- an order that can be followed to its tail
  pub record Walked : Type 0 where
    pub long : length_of b k ≡ length (order_of b k)
    pub ends! : ends b.next 64 (get_or b.heads k 0) ≡ true
    pub belong : all_belong b k (order_of b k) ≡ true
    pub rises : rises_from b.ready 0 (order_of b k) ≡ true
    pub last : last_from 0 (order_of b k) ≡ get_or b.tails k 0

  pub walked : leb (length_of b k) 64 ≡ true → Walked
  walked h = go (passes 64 (get_or b.heads k 0) 0 0) refl
    where
      go : (t : Bool) → passes 64 (get_or b.heads k 0) 0 0 ≡ t → Walked
      go true e =
          let parts = (d_and (d_true (ends b.next 64 (get_or b.heads k 0)))
          (d_and (d_true (all_belong b k (order_of b k)))
          (d_and (d_true (rises_from b.ready 0 (order_of b k))) (d_true (eqb (last_from 0 (order_of b k)) (get_or b.tails k 0)))))).yes e in record {
            long = rw (length_is, e);
            ends! = parts.0;
            belong = parts.1.0;
            rises = parts.1.1.0;
            last = eqb_true (last_from 0 (order_of b k)) (get_or b.tails k 0) parts.1.1.1;
          }
      go false e = absurd (omega (arith, leb-true (length_of b k) 64 h, length_is ∙ ap (λ (t : Bool). cond t (length (order_of b k)) no_order) e))

  pub walked_from : ends b.next 64 (get_or b.heads k 0) ≡ true → all_belong b k (order_of b k) ≡ true → rises_from b.ready 0 (order_of b k) ≡ true
      → last_from 0 (order_of b k) ≡ get_or b.tails k 0 → length_of b k ≡ length (order_of b k)
  walked_from e m r l = rw (length_is, e, m, r, eqb_yes (last_from 0 (order_of b k)) (get_or b.tails k 0) l)
