-- Lanes as rings in the tables: the front, a record put behind the last, the first gone, and no two lanes that meet.
use mathlib.Core.Path.{◌≡◌, refl, ap, ap₂, ◌∙◌}
use mathlib.Core.Logic.{◌≢◌}
use mathlib.Core.List.{List, [], ◌∷◌, ◌++◌}
use Prim.Native.Nat.{ℕ, zero, suc, ◌-◌, ◌<◌}
use native.Mathlib.Omega.{arith}
use lib.ListN.{length, set}
use lib.Seq.{get_or-set_same, get_or-set_other}
use Rattle.lanes.specs.Lanes.{lane_entry}
use Rattle.lanes.proofs.Rings.{ring_own, ring_moved}
use Rattle.lanes.proofs.Lanes.{lane_inside, lanes_apart}
use Rattle.rules.specs.Board.{Record, no_record, Place, depth, first_entry, entry, onward}
use Rattle.board.specs.Reading.{tab, record_at, lane_of}
use Rattle.board.specs.Laws.{EntryApart, EntryOwn, LaneAt, LaneDrop, LanePut}
use Rattle.board.proofs.Lists.{length_tab, get_d_tab, tab_ext}

tab_snoc : {A : Type 0} (n : ℕ) (f : ℕ → A) → tab (suc n) f ≡ tab n f ++ (f n ∷ [])
unfolding tab
tab_snoc zero f = refl
tab_snoc (suc n) f = ap (λ r. f 0 ∷ r) (tab_snoc n (λ i. f (suc i)))

-- ---- ENTRIES

pub entry_in : (p : ℕ) (x : Place) (j : ℕ) → p < 64 → entry p x j < 2048
unfolding entry
entry_in p x j h = lane_inside p x.start j h

-- an entry hangs on the ring's start alone
pub entry_by : (p : ℕ) (x y : Place) (j : ℕ) → x.start ≡ y.start → entry p x j ≡ entry p y j
unfolding entry
entry_by p x y j e = ap (λ (s : ℕ). lane_entry p s j) e

-- lanes don't overlap
pub entry_apart : EntryApart
unfolding entry
entry_apart i p x y j n ne e = lanes_apart i p x.start y.start j n ne e

-- nor does a lane meet itself
pub entry_own : EntryOwn
unfolding entry
entry_own p x j n a b e = ring_own (first_entry p x) (depth x) x.start j n a b e

-- the start moved on by one
pub entry_on : (p : ℕ) (x y : Place) (j : ℕ) → y.start ≡ onward x → entry p y j ≡ entry p x (suc j)
unfolding entry onward
entry_on p x y j e = ap (λ (s : ℕ). lane_entry p s j) e ∙ ring_moved (first_entry p x) (depth x) x.start j

-- ---- LANES

pub length_lane : (ids lens : List ℕ) (p : ℕ) (x : Place) (c : ℕ) → length (lane_of ids lens p x c) ≡ c
unfolding lane_of
length_lane ids lens p x c = length_tab c (λ j. record_at ids lens (entry p x j))

pub lane_by : (ids lens : List ℕ) (p : ℕ) (x y : Place) (c : ℕ) → x.start ≡ y.start → lane_of ids lens p x c ≡ lane_of ids lens p y c
unfolding lane_of
lane_by ids lens p x y c e = tab_ext c _ _ (λ j l. ap (record_at ids lens) (entry_by p x y j e))

pub empty_lane : (ids lens : List ℕ) (p : ℕ) (x : Place) → lane_of ids lens p x 0 ≡ []
unfolding lane_of tab
empty_lane ids lens p x = refl

-- the j-th record from the front
pub lane_at : LaneAt
unfolding lane_of
lane_at ids lens p x c j h = get_d_tab c (λ i. record_at ids lens (entry p x i)) j no_record h

-- the first goes: the start moves on
pub lane_drop : LaneDrop
unfolding lane_of tab
lane_drop ids lens p x y zero e = refl
lane_drop ids lens p x y (suc c) e =
    ap (λ (n : ℕ). tab n (λ j. record_at ids lens (entry p y j))) less ∙ tab_ext c _ _ (λ j l. ap (record_at ids lens) (entry_on p x y j e))
  where
    less : suc c - 1 ≡ c
    less = omega arith

-- a store elsewhere
pub lane_away : (ids lens : List ℕ) (i : ℕ) (x : Place) (c e id len : ℕ) → ((j : ℕ) → j < c → entry i x j ≢ e)
    → lane_of (set ids e id) (set lens e len) i x c ≡ lane_of ids lens i x c
unfolding lane_of
lane_away ids lens i x c e id len h =
    tab_ext c _ _ (λ j l k. record
    { number = get_or-set_other ids e (entry i x j) id 0 (h j l) k; bytes = get_or-set_other lens e (entry i x j) len 0 (h j l) k })

-- a record is put behind the last
pub lane_put : LanePut
unfolding lane_of
lane_put ids lens p x c id len hp hc a b =
    tab_snoc c (λ j. record_at (set ids (entry p x c) id) (set lens (entry p x c) len) (entry p x j))
    ∙ ap₂ (λ (xs : List Record) (r : Record). xs ++ (r ∷ [])) (lane_away ids lens p x c (entry p x c) id len (λ j l. entry_own p x j c l hc))
    (λ k. record {
      number = get_or-set_same ids (entry p x c) id 0 (omega (arith, entry_in p x c hp)) k;
      bytes =
          get_or-set_same lens (entry p x c) len 0 (omega (arith, entry_in p x c hp)) k;
    })
