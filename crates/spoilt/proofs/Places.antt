-- A place as it is read: each clause of the rules on it is the rule that is computed on the arrays.
use mathlib.Core.Path.{◌≡◌, refl, ap, ◌∙◌}
use mathlib.Core.Bool.{Bool, true, false, cond, not, ◌&&◌}
use mathlib.Core.List.{List}
use Prim.Native.Nat.{ℕ, zero, suc, ◌+◌, ◌≤◌, ◌<◌}
use native.Mathlib.Omega.{arith}
use native.Mathlib.Numerals.{add-one}
use lib.Dec.{leb, ltb, eqb}
use lib.ListN.{length, get_or, get_or-eq_default}
use borrow.Author.Tests.{ne_eqb, lt-ltb}
use Rattle.base.proofs.Tests.{and_left, and_right, and_both, all_at, all_intro}
use Rattle.units.specs.Credit.{largest_charge, charge_of}
use Rattle.lanes.specs.Lanes.{lane_entry}
use Rattle.rules.specs.Board.{out, queued, serving, Place, free_place, at, entry, waits}
use Rattle.rules.specs.Spoilt
use Rattle.rules.specs.Spoilt.{is_queued, is_serving, ready_num, lengths_in}
use Rattle.board.specs.declared.Board.{Board}
use Rattle.board.specs.Reading.{tab, record_at, lane_of, stand_by, bare_of, place_of, view}
use Rattle.board.proofs.Lists.{length_tab, get_d_tab}
use Rattle.board.proofs.Rings.{length_lane}
use Rattle.spoilt_places.specs.Ranges.{number_in_range, share_in_range, ring_in_range, in_order, deficit_in_range, free_is_zero, place_now}
use Rattle.spoilt.specs.Test.{length_in_range, lane_in_range}

pub above_zero : (n : ℕ) → ltb 0 n ≡ not (eqb n 0)
above_zero zero = refl
above_zero (suc n) = rw (lt-ltb 0 (suc n) (omega arith), ne_eqb (suc n) 0 (λ z. omega arith))

not_not : (t : Bool) → not (not t) ≡ t
not_not true = refl
not_not false = refl

-- ---- where a block stands

module _ (p count slot left ready : ℕ) where
  stand_by_lem : stand_by p count slot left ready ≡ cond (eqb count 0) out (cond (eqb slot (p + 1)) (serving left) (queued ready))
  unfolding stand_by
  stand_by_lem = rw (add-one p)

  pub queued_by : is_queued (stand_by p count slot left ready) ≡ in_order p count slot
  unfolding in_order
  queued_by = rw stand_by_lem (go (eqb count 0) (eqb slot (p + 1)))
    where
      go : (c s : Bool) → is_queued (cond c out (cond s (serving left) (queued ready))) ≡ not c && not s
      go true s = refl
      go false true = refl
      go false false = refl

  pub serving_by : is_serving (stand_by p count slot left ready) ≡ not (eqb count 0) && eqb slot (p + 1)
  serving_by = rw stand_by_lem (go (eqb count 0) (eqb slot (p + 1)))
    where
      go : (c s : Bool) → is_serving (cond c out (cond s (serving left) (queued ready))) ≡ not c && s
      go true s = refl
      go false true = refl
      go false false = refl

  pub ready_by : ready_num (stand_by p count slot left ready) ≡ cond (in_order p count slot) ready 0
  unfolding in_order
  ready_by = rw stand_by_lem (go (eqb count 0) (eqb slot (p + 1)))
    where
      go : (c s : Bool) → ready_num (cond c out (cond s (serving left) (queued ready))) ≡ cond (not c && not s) ready 0
      go true s = refl
      go false true = refl
      go false false = refl

-- ---- the lengths of a lane, by its entries e

module _ (L : ℕ) (ids lens : List ℕ) where
  abbrev good : ℕ → Bool
  good e = leb 1 (get_or lens e 0) && leb (get_or lens e 0) L

  all_lengths : (c : ℕ) (e : ℕ → ℕ) → ((j : ℕ) → j < c → good (e j) ≡ true) → lengths_in L (tab c (λ j. record_at ids lens (e j))) ≡ true
  unfolding tab lengths_in
  all_lengths zero e h = refl
  all_lengths (suc c) e h =
      and_both (good (e 0)) (lengths_in L (tab c (λ j. record_at ids lens (e (suc j))))) (h 0 (omega arith))
      (all_lengths c (λ j. e (suc j)) (λ j l. h (suc j) (omega arith)))

  each_length : (c : ℕ) (e : ℕ → ℕ) → lengths_in L (tab c (λ j. record_at ids lens (e j))) ≡ true → (j : ℕ) → j < c → good (e j) ≡ true
  unfolding tab lengths_in
  each_length zero e h j l = absurd (omega arith)
  each_length (suc c) e h zero l = and_left (good (e 0)) (lengths_in L (tab c (λ j. record_at ids lens (e (suc j))))) h
  each_length (suc c) e h (suc j) l =
      each_length c (λ i. e (suc i)) (and_right (good (e 0)) (lengths_in L (tab c (λ j. record_at ids lens (e (suc j))))) h) j (omega arith)

-- ---- a place

module _ (b : Board) (ids lens : List ℕ) where
  pub inner : (p : ℕ) → p < 64 → at (view b ids lens) p ≡ place_of b ids lens p
  unfolding view
  inner p h = get_d_tab 64 (place_of b ids lens) p free_place h

  pub beyond : (p : ℕ) → 64 ≤ p → at (view b ids lens) p ≡ free_place
  unfolding view
  beyond p h = get_or-eq_default (tab 64 (place_of b ids lens)) free_place (omega (arith, length_tab 64 (place_of b ids lens)))

  pub all_64 : length (view b ids lens).places ≡ 64
  unfolding view
  all_64 = length_tab 64 (place_of b ids lens)

  pub share_at : (p : ℕ) → p < 64 → (at (view b ids lens) p).share ≡ get_or b.shares p 0
  unfolding place_of bare_of
  share_at p h = ap (λ (x : Place). x.share) (inner p h)

  pub number_at : (p : ℕ) → p < 64 → (at (view b ids lens) p).number ≡ get_or b.numbers p 0
  unfolding place_of bare_of
  number_at p h = ap (λ (x : Place). x.number) (inner p h)

  module _ (p : ℕ) where
    abbrev x : Place
    x = place_of b ids lens p

    abbrev n : ℕ
    n = get_or b.counts p 0

    pub lane_long : length (place_of b ids lens p).lane ≡ get_or b.counts p 0
    unfolding place_of
    lane_long = length_lane ids lens p (bare_of b p) n

    pub waits_is : waits (place_of b ids lens p) ≡ not (eqb (get_or b.counts p 0) 0)
    waits_is = ap (ltb 0) lane_long ∙ above_zero n

    pub queued_is : is_queued (place_of b ids lens p).stand ≡ in_order p (get_or b.counts p 0) b.slot
    unfolding place_of bare_of
    queued_is = queued_by p n b.slot b.left.0 (get_or b.ready p 0)

    pub queued_at : p < 64 → is_queued (at (view b ids lens) p).stand ≡ in_order p (get_or b.counts p 0) b.slot
    queued_at h = ap (λ (y : Place). is_queued y.stand) (inner p h) ∙ queued_is

    pub stand_is : (place_of b ids lens p).stand
        ≡ cond (eqb (get_or b.counts p 0) 0) out (cond (eqb b.slot (p + 1)) (serving b.left.0) (queued (get_or b.ready p 0)))
    unfolding place_of bare_of
    stand_is = stand_by_lem p n b.slot b.left.0 (get_or b.ready p 0)

    pub serving_is : is_serving (place_of b ids lens p).stand ≡ not (eqb (get_or b.counts p 0) 0) && eqb b.slot (p + 1)
    unfolding place_of bare_of
    serving_is = serving_by p n b.slot b.left.0 (get_or b.ready p 0)

    pub ready_is : ready_num (place_of b ids lens p).stand ≡ cond (in_order p (get_or b.counts p 0) b.slot) (get_or b.ready p 0) 0
    unfolding place_of bare_of
    ready_is = ready_by p n b.slot b.left.0 (get_or b.ready p 0)

    -- the clauses

    pub number_is : Spoilt.number_in_range (place_of b ids lens p) ≡ number_in_range (place_now b p)
    unfolding place_of bare_of number_in_range
    number_is = refl

    pub share_is : Spoilt.share_in_range (place_of b ids lens p) ≡ share_in_range (place_now b p)
    unfolding place_of bare_of share_in_range
    share_is = refl

    pub ring_is : Spoilt.ring_in_range (place_of b ids lens p) ≡ ring_in_range (place_now b p)
    unfolding place_of bare_of ring_in_range
    ring_is = rw lane_long

    pub deficit_is : Spoilt.deficit_in_range b.largest (place_of b ids lens p)
        ≡ deficit_in_range b.largest (in_order p (get_or b.counts p 0) b.slot) (place_now b p)
    unfolding place_of bare_of deficit_in_range charge_of largest_charge
    deficit_is = rw queued_is

    pub free_is : Spoilt.free_is_zero (place_of b ids lens p) ≡ free_is_zero (place_now b p)
    unfolding place_of bare_of free_is_zero
    free_is = rw (ap not waits_is ∙ not_not (eqb n 0))

    -- ---- its lane

    pub record_is : (j : ℕ) → entry p (bare_of b p) j ≡ lane_entry p (get_or b.starts p 0) j
    unfolding entry bare_of
    record_is j = refl

    pub lengths_from : lane_in_range lens b.largest p (get_or b.starts p 0) (get_or b.counts p 0) ≡ true
        → lengths_in b.largest (place_of b ids lens p).lane ≡ true
    unfolding place_of lane_of lane_in_range length_in_range
    lengths_from h =
        all_lengths b.largest ids lens n (λ j. entry p (bare_of b p) j)
        (λ j l. rw (record_is j) (all_at (λ i. length_in_range b.largest (get_or lens (lane_entry p (get_or b.starts p 0) i) 0)) n j h l))

    pub lengths_to : lengths_in b.largest (place_of b ids lens p).lane ≡ true
        → lane_in_range lens b.largest p (get_or b.starts p 0) (get_or b.counts p 0) ≡ true
    unfolding place_of lane_of lane_in_range length_in_range
    lengths_to h =
        all_intro (λ j. length_in_range b.largest (get_or lens (lane_entry p (get_or b.starts p 0) j) 0)) n
        (λ j l. rw (← record_is j) (each_length b.largest ids lens n (λ i. entry p (bare_of b p) i) h j l))
