-- WORKING DEFINITIONS: the spoilt test as it is computed, each rule on what is read from the arrays and the tables,
-- named after its clause of document 01. No promise of a call rests on it: SoundDecides says that it is passed
-- exactly by the values that are not spoilt.
use Rattle.std.specs.Prelude.{◌≡◌, Bool, cond, not, ◌&&◌, List, [], ◌∷◌, ℕ, ◌*◌, ◌-◌, ◌^◌, leb, ltb, eqb, length}
use Rattle.std.specs.Prelude.{get_or}
use Rattle.base.specs.Tests.{Decides, every, all_below}
use Rattle.units.specs.Credit.{charge_of}
use Rattle.lanes.specs.Lanes.{lane_entry}
use Rattle.rules.specs.Board.{table_length}
use Rattle.board.specs.declared.Board.{Board}
use Rattle.board.specs.Reading.{Sized, Sound}
use Rattle.spoilt_places.specs.Ranges.{size_in_range, numbers_apart, places_in_range, shares_fit, held_while_waiting}
use Rattle.spoilt_orders.specs.Walks.{orders_listed, active_as_ruled, pending_as_ruled}

-- both lent tables have 2,048 entries
abbrev pub tables_whole : (ids lens : List ℕ) → Bool
tables_whole ids lens = eqb (length ids) table_length && eqb (length lens) table_length

-- ---- A LANE

-- waiting lengths 1 to L
unfoldable pub length_in_range : (largest len : ℕ) → Bool
length_in_range largest len = leb 1 len && leb len largest

unfoldable pub lane_in_range : (lens : List ℕ) (largest p start count : ℕ) → Bool
lane_in_range lens largest p start count =
    all_below count (λ j. length_in_range largest (get_or lens (lane_entry p start j) 0))

unfoldable pub lanes_in_range : (lens : List ℕ) (largest : ℕ) (starts counts : List ℕ) → Bool
lanes_in_range lens largest starts counts =
    all_below 64 (λ p. lane_in_range lens largest p (get_or starts p 0) (get_or counts p 0))

-- ---- THE OPEN SLOT

-- an open slot's block waits, its front fits what is left, that is under 3L bytes, and the slot's clock is below 2^62
unfoldable pub slot_open : (largest clock left count len : ℕ) → Bool
slot_open largest clock left count len =
    not (eqb count 0) && (leb (charge_of len) left && (ltb left (3 * charge_of largest) && ltb clock (2 ^ 62)))

-- no slot: nothing is left of it; the mark of a slot is a place's
unfoldable pub slot_in_range : (lens : List ℕ) (largest clock slot left : ℕ) (starts counts : List ℕ) → Bool
slot_in_range lens largest clock slot left starts counts =
    let p = slot - 1 in
    let front = get_or lens (lane_entry p (get_or starts p 0) 0) 0 in
    cond (eqb slot 0) (eqb left 0) (leb slot 64 && slot_open largest clock left (get_or counts p 0) front)

-- ---- THE TEST

-- the orders and the class sets
abbrev pub order_rules : Board → List Bool
order_rules b =
    orders_listed b.clock b.slot b.heads b.tails b.shares b.counts b.ready b.next
    ∷ active_as_ruled b.active b.slot b.shares b.heads
    ∷ pending_as_ruled b.pending b.clock b.ready b.heads
    ∷ []

abbrev pub sound_rules : Board → (ids lens : List ℕ) → List Bool
sound_rules b ids lens =
    tables_whole ids lens
    ∷ size_in_range b.largest
    ∷ numbers_apart b.numbers
    ∷ places_in_range b
    ∷ lanes_in_range lens b.largest b.starts b.counts
    ∷ shares_fit b.shares b.held
    ∷ held_while_waiting b.active b.held
    ∷ slot_in_range lens b.largest b.clock b.slot b.left.0 b.starts b.counts
    ∷ order_rules b

unfoldable pub sound_test : Board → (ids lens : List ℕ) → Bool
sound_test b ids lens = every (sound_rules b ids lens)

-- ---- THE LAW: with tables of 2,048 entries it is passed exactly by the values that are not spoilt.
-- (A value's arrays have their lengths by type.)

abbrev pub SoundDecides : Type 0
SoundDecides =
    (b : Board) (ids lens : List ℕ) → Sized b → length ids ≡ table_length → length lens ≡ table_length
    → Decides (sound_test b ids lens) (Sound b ids lens)
