-- THE BOARD (document 01, 'Numbers' and 'Classes, starts and credit').
use Rattle.std.specs.Prelude.{◌≡◌, Bool, false, ◌&&◌, ◌||◌, List, [], ◌∷◌, ℕ, ◌+◌, ◌-◌, ◌≤◌, ◌<◌, leb, ltb, eqb, length}
use Rattle.std.specs.Prelude.{get_or, replicate}
use Rattle.std.proofs.Math.Option.{Option, none}
use Rattle.base.specs.Sums.{sum, below}
use Rattle.units.specs.Classes.{class_of}
use Rattle.units.specs.Credit.{charged}
use Rattle.lanes.specs.Lanes.{ring_entry, ring_on, lane_depth, lane_first}

-- ---- Numbers

-- Places for blocks: 64. Two lent tables of exactly 2,048 entries hold the lanes.
abbrev pub table_length : ℕ
table_length = 2048

-- A record is a number, repeats allowed, and a length of 1 to L bytes; the scheduler never holds its contents.
pub record Record : Type 0 where
  pub number : ℕ
  pub bytes : ℕ

abbrev pub no_record : Record
no_record = record { number = 0; bytes = 0 }

-- the bytes that a record is charged
unfoldable pub bytes_charged : Record → ℕ
bytes_charged x = charged x.bytes

-- Where a block stands: it does not wait; it is in its class's order, with a ready time; it has the open slot, with so
-- many parts left.
pub data Stand : Type 0 where
  out : Stand
  queued : (ready : ℕ) → Stand
  serving : (left : ℕ) → Stand

-- A place: the block's number and share, the ring's start, the lane from its front on, the deficit in parts, where the
-- block stands.
pub record Place : Type 0 where
  pub number : ℕ
  pub share : ℕ
  pub start : ℕ
  pub lane : List Record
  pub deficit : ℕ
  pub stand : Stand

abbrev pub free_place : Place
free_place = record { number = 0; share = 0; start = 0; lane = []; deficit = 0; stand = out }

-- What a record that comes, a send and a slot change of a place; the block's number and share stay.
abbrev pub moved : Place → (start : ℕ) (lane : List Record) (deficit : ℕ) (stand : Stand) → Place
moved x start lane deficit stand =
    record { number = x.number; share = x.share; start = start; lane = lane; deficit = deficit; stand = stand }

-- The board: L, the clock, the places, the order of each class (places, first to last), the place that has the open
-- slot, and the held share of each class.
pub record Board : Type 0 where
  pub largest : ℕ
  pub clock : ℕ
  pub places : List Place
  pub orders : ℕ → List ℕ
  pub slot : Option ℕ
  pub held : ℕ → ℕ

abbrev pub at : Board → (p : ℕ) → Place
at b p = get_or b.places p free_place

-- Classes run from 0 to 16: no order and no held share stands above.
pub record Seventeen (b : Board) : Type 0 where
  pub no_order : (k : ℕ) → 17 ≤ k → b.orders k ≡ []
  pub no_held : (k : ℕ) → 17 ≤ k → b.held k ≡ 0

-- ---- Lanes

-- Lane depth: 32 records. Place p has entries 32p to 32p+31, used as a ring.
abbrev pub depth : Place → ℕ
depth x = lane_depth

abbrev pub first_entry : (p : ℕ) → Place → ℕ
first_entry p x = lane_first p

-- The j-th record from the front, counting from 0, is at 32p + (start + j) mod 32.
unfoldable pub entry : (p : ℕ) → Place → (j : ℕ) → ℕ
entry p x j = ring_entry (first_entry p x) (depth x) x.start j

-- A send moves the start on by one, mod 32.
unfoldable pub onward : Place → ℕ
onward x = ring_on (depth x) x.start

-- the record at the front of a lane
abbrev pub front : Place → Record
front x = get_or x.lane 0 no_record

-- ---- Words

-- the class of the block at a place
abbrev pub block_class : Place → ℕ
block_class x = class_of x.share

-- A place is open if a block has it.
abbrev pub is_open : Place → Bool
is_open x = ltb 0 x.share

-- Place p has the open block n.
pub record Has (b : Board) (p n : ℕ) : Type 0 where
  pub inside : p < 64
  pub bought : 1 ≤ (at b p).share
  pub named : (at b p).number ≡ n

-- No open block is called n.
abbrev pub NoneHas : Board → (n : ℕ) → Type 0
NoneHas b n = (p : ℕ) → Has b p n → ⊥

-- A block waits if its lane holds a record.
abbrev pub waits : Place → Bool
waits x = ltb 0 (length x.lane)

unfoldable pub some_wait : List Place → Bool
some_wait [] = false
some_wait (x ∷ xs) = waits x || some_wait xs

-- A class is active if one of its blocks waits, an open slot's included.
unfoldable pub any_waits : (k : ℕ) → List Place → Bool
any_waits k [] = false
any_waits k (x ∷ xs) = (waits x && eqb k (block_class x)) || any_waits k xs

abbrev pub active : Board → (k : ℕ) → Bool
active b k = any_waits k b.places

-- A block in an order is pending if its ready time is at most the clock; a class is pending if a block in its order is.
abbrev pub due_by : (clock : ℕ) → Stand → Bool
due_by clock out = false
due_by clock (queued ready) = leb ready clock
due_by clock (serving left) = false

unfoldable pub any_due : List Place → (clock : ℕ) (order : List ℕ) → Bool
any_due places clock [] = false
any_due places clock (p ∷ ps) = due_by clock (get_or places p free_place).stand || any_due places clock ps

abbrev pub pending : Board → (k : ℕ) → Bool
pending b k = any_due b.places b.clock (b.orders k)

-- Free share = 65,536 - shares of open blocks - held shares.
unfoldable pub used_share : Board → ℕ
used_share b = sum (λ x. x.share) b.places + below b.held 17

abbrev pub free_share : Board → ℕ
free_share b = 65536 - used_share b

-- ---- A fresh board: every place free, clock 0, that L.
unfoldable pub fresh : (L : ℕ) → Board
fresh L =
    record { largest = L; clock = 0; places = replicate 64 free_place; orders = λ k. []; slot = none; held = λ j. 0 }
