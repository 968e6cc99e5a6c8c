-- WORKING DEFINITIONS: the rules of the places, as they are computed from the arrays, each named after its clause of
-- document 01. Lists stand for the arrays. `SoundDecides` ties them to the rules; no promise of a call cites one.
use Rattle.std.specs.Prelude.{Bool, not, ◌&&◌, ◌||◌, List, [], ◌∷◌, ℕ, ◌+◌, leb, ltb, eqb, get_or}
use Rattle.base.specs.Sums.{one_if, below}
use Rattle.base.specs.Tests.{every, all_below}
use Rattle.arrays.specs.Lists.{total_of}
use Rattle.units.specs.Credit.{charge_of}
use Rattle.lanes.specs.Lanes.{lane_depth}
use Rattle.board.specs.declared.Board.{Board}
use Rattle.spoilt_places.specs.declared.PlaceNow.{PlaceNow}

-- L in range
unfoldable pub size_in_range : (largest : ℕ) → Bool
size_in_range largest = leb 64 largest && leb largest 2048

-- ---- A PLACE

-- what the arrays of a board say of place p
abbrev pub place_now : Board → (p : ℕ) → PlaceNow
place_now b p =
    record {
      number = get_or b.numbers p 0;
      share = get_or b.shares p 0;
      start = get_or b.starts p 0;
      count = get_or b.counts p 0;
      deficit = record { 0 = get_or b.deficits p 0 };
      ready = get_or b.ready p 0;
      next = get_or b.next p 0;
    }

-- open block numbers distinct: a number but 0 stands at one place only
unfoldable pub times_found : (numbers : List ℕ) (number : ℕ) → ℕ
times_found numbers number = below (λ q. one_if (eqb (get_or numbers q 0) number)) 64

unfoldable pub number_apart : (numbers : List ℕ) (number : ℕ) → Bool
number_apart numbers number = eqb number 0 || eqb (times_found numbers number) 1

unfoldable pub numbers_apart : (numbers : List ℕ) → Bool
numbers_apart numbers = all_below 64 (λ p. number_apart numbers (get_or numbers p 0))

-- and in range
unfoldable pub number_in_range : PlaceNow → Bool
number_in_range x = not (ltb 0 x.share) || leb 1 x.number

-- shares in range
unfoldable pub share_in_range : PlaceNow → Bool
share_in_range x = leb x.share 65536

-- start and count in range
unfoldable pub ring_in_range : PlaceNow → Bool
ring_in_range x = ltb x.start lane_depth && leb x.count lane_depth

-- the block of place p is in its class's order: it waits, and it has not the open slot
unfoldable pub in_order : (p count slot : ℕ) → Bool
in_order p count slot = not (eqb count 0) && not (eqb slot (p + 1))

-- deficits under L bytes, and 0 for empty lanes and the open slot's block
unfoldable pub deficit_in_range : (largest : ℕ) (queued : Bool) → PlaceNow → Bool
deficit_in_range largest queued x = ltb x.deficit.0 (charge_of largest) && (queued || eqb x.deficit.0 0)

-- all not in use 0: a free place; a ready time and a link outside an order
unfoldable pub free_is_zero : PlaceNow → Bool
free_is_zero x =
    ltb 0 x.share
    || (eqb x.number 0 && (eqb x.start 0 && (eqb x.count 0 && eqb x.deficit.0 0)))

unfoldable pub unused_is_zero : (queued : Bool) → PlaceNow → Bool
unused_is_zero queued x = queued || (eqb x.ready 0 && eqb x.next 0)

abbrev pub place_rules : (largest slot p : ℕ) → PlaceNow → List Bool
place_rules largest slot p x =
    number_in_range x
    ∷ share_in_range x
    ∷ ring_in_range x
    ∷ deficit_in_range largest (in_order p x.count slot) x
    ∷ free_is_zero x
    ∷ unused_is_zero (in_order p x.count slot) x
    ∷ []

unfoldable pub place_in_range : (largest slot p : ℕ) → PlaceNow → Bool
place_in_range largest slot p x = every (place_rules largest slot p x)

unfoldable pub places_in_range : Board → Bool
places_in_range b = all_below 64 (λ p. place_in_range b.largest b.slot p (place_now b p))

-- ---- SHARES

-- open plus held shares at most 65,536
unfoldable pub shares_fit : (shares held : List ℕ) → Bool
shares_fit shares held = leb (total_of shares + total_of held) 65536

-- held shares 0 if none waits: no class is active
unfoldable pub none_held : (held : List ℕ) → Bool
none_held held = all_below 17 (λ k. eqb (get_or held k 0) 0)

unfoldable pub held_while_waiting : (active : ℕ) (held : List ℕ) → Bool
held_while_waiting active held = not (eqb active 0) || none_held held
