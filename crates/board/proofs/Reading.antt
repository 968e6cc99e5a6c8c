-- What is written is read again; and a value that is not spoilt is what the board that is read from it is written as.
use mathlib.Core.Path.{◌≡◌, refl, sym, ap, ap₂, fun_ext, ◌∙◌}
use mathlib.Core.Bool.{cond, true≢false, false≢true}
use mathlib.Core.Logic.{◌⊎◌, inl, inr}
use mathlib.Core.Option.{Option, none, some}
use mathlib.Core.List.{List, map}
use Prim.Native.Nat.{ℕ, suc, ◌≤◌, ◌<◌}
use native.Mathlib.Omega.{arith}
use native.Mathlib.Nat.{suc_inj}
use lib.Dec.{eqb}
use lib.ListN.{length, get_or, get_or-map, get_or-eq_default}
use borrow.Author.Tests.{eq-eqb, ne_eqb}
use Rattle.base.specs.Sums.{one_if}
use Rattle.base.proofs.Numbers.{split, eqb_true}
use Rattle.base.proofs.Sums.{one_if_le}
use Rattle.rules.specs.Board
use Rattle.rules.specs.Board.{Seventeen, at, free_place, Place, block_class, Stand, out, serving, queued}
use Rattle.rules.specs.Spoilt.{count, is_serving, in_class, ready_num, is_at}
use Rattle.rules.specs.Choice.{left_of}
use Rattle.rules.proofs.Tidy.{Tidy}
use Rattle.rules.proofs.Shape.{StandOk, listed_in}
use Rattle.rules.proofs.Orders.{pl}
use Rattle.board.specs.Reading.{bare_of, tab, first_link, behind, slot_link, slot_left, encode, lane_of, stand_by, place_of, follow, slot_by, view, Holds}
use Rattle.board.proofs.Lists.{get_d_tab, get_d_tab_out, tab_of, follow_linked, linked_behind, short_list}
use Rattle.board.proofs.Rings.{lane_by}

-- what a board of the rules must be for a value to be written for it
pub record Fit (m : Board.Board) : Type 0 where
  pub tidy : Tidy m
  pub classes : Seventeen m

-- where a block stands is told by its count, its ready time and the slot
pub stand_is : (l : List Place) (slot : Option ℕ) (i L : ℕ) → is_serving (pl l i).stand ≡ is_at i slot → StandOk L (pl l i).share (pl l i).lane (pl l i).stand
    → (pl l i).stand ≡ stand_by i (length (pl l i).lane) (slot_link slot) (slot_left l slot) (ready_num (pl l i).stand)
unfolding StandOk stand_by
stand_is l slot i L = go (pl l i).stand refl slot
  where
    n : ℕ
    n = length (pl l i).lane

    go : (s : Stand) → (pl l i).stand ≡ s → (slot : Option ℕ) → is_serving s ≡ is_at i slot → StandOk L (pl l i).share (pl l i).lane s
        → s ≡ cond (eqb n 0) out (cond (eqb (slot_link slot) (suc i)) (serving (slot_left l slot)) (queued (ready_num s)))
    go out f slot e h = rw (eq-eqb n 0 h)
    go (queued r) f none e h = rw (ne_eqb n 0 (λ z. omega arith), ne_eqb 0 (suc i) (λ z. omega arith))
    go (queued r) f (some q) e h = rw (ne_eqb n 0 (λ z. omega arith), ne_eqb (suc q) (suc i) (λ z. false≢true (e ∙ eq-eqb i q (suc_inj (sym z)))))
    go (serving k) f none e h = absurd (true≢false e)
    go (serving k) f (some q) e h =
        let w : i ≡ q = eqb_true i q (sym e) in
        rw (ne_eqb n 0 (λ z. omega arith), eq-eqb (suc q) (suc i) (ap suc (sym w)))
        (ap serving (sym (ap (λ (j : ℕ). left_of (pl l j).stand) (sym w) ∙ ap left_of f)))

-- an order lists no place twice, none above 63, and those of its class
module _ (m : Board.Board) (g : Tidy m) where
  pub once : (k q : ℕ) → count q (m.orders k) ≤ 1
  once k q = omega (arith, g.shape.listed k q, one_if_le (in_class k (at m q)))

  pub few : (k q : ℕ) → 64 ≤ q → count q (m.orders k) ≡ 0
  few k q h = g.shape.listed k q ∙ ap (λ (x : Place). one_if (in_class k x)) (get_or-eq_default m.places free_place (omega (arith, g.shape.all64)))

  pub small : (k q : ℕ) → 1 ≤ count q (m.orders k) → q < 64
  small k q h = go (split 64 q)
    where
      go : (64 ≤ q) ⊎ (q < 64) → q < 64
      go (inl l) = absurd (omega (arith, few k q l))
      go (inr l) = l

  pub class : (k q : ℕ) → 1 ≤ count q (m.orders k) → block_class (at m q) ≡ k
  class k q h = sym (listed_in m.places m.orders g.shape.listed k q h).1

module _ (m : Board.Board) (ids lens : List ℕ) (f : Fit m) (holds : Holds m ids lens) where
  g : Tidy m
  g = f.tidy

  place_is : (i : ℕ) → at m i ≡ place_of (encode m) ids lens i
  unfolding place_of bare_of encode
  place_is i = λ j. record { number = num j; share = share j; start = start j; lane = lane j; deficit = owed j; stand = stand j }
    where
      num : (at m i).number ≡ get_or (map (λ (x : Place). x.number) m.places) i 0
      num = sym (get_or-map (λ (x : Place). x.number) m.places i free_place)

      share : (at m i).share ≡ get_or (map (λ (x : Place). x.share) m.places) i 0
      share = sym (get_or-map (λ (x : Place). x.share) m.places i free_place)

      start : (at m i).start ≡ get_or (map (λ (x : Place). x.start) m.places) i 0
      start = sym (get_or-map (λ (x : Place). x.start) m.places i free_place)

      owed : (at m i).deficit ≡ get_or (map (λ (x : Place). x.deficit) m.places) i 0
      owed = sym (get_or-map (λ (x : Place). x.deficit) m.places i free_place)

      n : length (at m i).lane ≡ get_or (map (λ (x : Place). length x.lane) m.places) i 0
      n = sym (get_or-map (λ (x : Place). length x.lane) m.places i free_place)

      r : ready_num (at m i).stand ≡ get_or (map (λ (x : Place). ready_num x.stand) m.places) i 0
      r = sym (get_or-map (λ (x : Place). ready_num x.stand) m.places i free_place)

      lane : (at m i).lane ≡ lane_of ids lens i (bare_of (encode m) i) (get_or (map (λ (x : Place). length x.lane) m.places) i 0)
      lane = holds i ∙ lane_by ids lens i (at m i) (bare_of (encode m) i) (length (at m i).lane) start ∙ ap (lane_of ids lens i (bare_of (encode m) i)) n

      stand : (at m i).stand
          ≡ stand_by i (get_or (map (λ (x : Place). length x.lane) m.places) i 0) (slot_link m.slot) (slot_left m.places m.slot)
          (get_or (map (λ (x : Place). ready_num x.stand) m.places) i 0)
      stand =
          stand_is m.places m.slot i m.largest (g.one i) (g.shape.place_ok i).stand_ok
          ∙ ap₂ (λ (a c : ℕ). stand_by i a (slot_link m.slot) (slot_left m.places m.slot) c) n r

  next_is : (k q : ℕ) → 1 ≤ count q (m.orders k) → get_or (encode m).next q 0 ≡ behind q (m.orders k)
  unfolding encode
  next_is k q h = get_d_tab 64 (λ i. behind i (m.orders (block_class (at m i)))) q 0 (small m g k q h) ∙ ap (λ (j : ℕ). behind q (m.orders j)) (class m g k q h)

  order_is : (k : ℕ) → follow (encode m).next 64 (first_link (m.orders k)) ≡ m.orders k
  order_is k =
      follow_linked (encode m).next 64 (m.orders k) (short_list 64 (m.orders k) (few m g k) (once m g k))
      (linked_behind (encode m).next (m.orders k) (once m g k) (next_is k))

  orders_are : (k : ℕ) → follow (encode m).next 64 (get_or (encode m).heads k 0) ≡ m.orders k
  unfolding encode follow
  orders_are k = go (split 17 k)
    where
      go : (17 ≤ k) ⊎ (k < 17) → follow (encode m).next 64 (get_or (tab 17 (λ j. first_link (m.orders j))) k 0) ≡ m.orders k
      go (inl l) = ap (follow (encode m).next 64) (get_d_tab_out 17 (λ j. first_link (m.orders j)) k 0 l) ∙ sym (f.classes.no_order k l)
      go (inr l) = ap (follow (encode m).next 64) (get_d_tab 17 (λ j. first_link (m.orders j)) k 0 l) ∙ order_is k

  held_is : (k : ℕ) → get_or (tab 17 m.held) k 0 ≡ m.held k
  held_is k = go (split 17 k)
    where
      go : (17 ≤ k) ⊎ (k < 17) → get_or (tab 17 m.held) k 0 ≡ m.held k
      go (inl l) = get_d_tab_out 17 m.held k 0 l ∙ sym (f.classes.no_held k l)
      go (inr l) = get_d_tab 17 m.held k 0 l

  slot_is : (s : Option ℕ) → slot_by (slot_link s) ≡ s
  slot_is none = refl
  slot_is (some p) = refl

  -- WHAT IS WRITTEN IS READ
  pub view_encode : view (encode m) ids lens ≡ m
  unfolding view encode
  view_encode = λ j. record { largest = m.largest; clock = m.clock; places = places j; orders = orders j; slot = slot_is m.slot j; held = held j }
    where
      places : tab 64 (place_of (encode m) ids lens) ≡ m.places
      places = sym (tab_of free_place m.places 64 (place_of (encode m) ids lens) g.shape.all64 (λ i h. place_is i))

      orders : (λ k. follow (encode m).next 64 (get_or (encode m).heads k 0)) ≡ m.orders
      orders = fun_ext orders_are

      held : (λ k. get_or (encode m).held k 0) ≡ m.held
      held = fun_ext held_is
