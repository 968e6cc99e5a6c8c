-- CODES THE BOX GIVES (document 01, the table under that heading): each code of each public call, given exactly when,
-- for every value and any tables. The conditions speak of the board that is read from the value: its open blocks, their
-- lanes and shares, and what is held.
use Rattle.std.specs.Prelude.{◌≡◌, ◌⊎◌, ◌≢◌, List, [], ℕ, ◌+◌, ◌^◌, ◌≤◌, ◌<◌, length}
use Rattle.std.proofs.Math.Option.{none}
use Rattle.base.specs.Sums.{sum, below}
use Rattle.units.specs.Credit.{charged}
use Rattle.rules.specs.Board
use Rattle.rules.specs.Board.{table_length, Record, Place, queued, at, depth, Has, NoneHas}
use Rattle.rules.specs.Blocks.{Opening}
use Rattle.rules.specs.Calls.{open!, rename!, close!, record!, serve!, Sent, sends}
use Rattle.rules.specs.Runs.{answer}
use Rattle.board.specs.declared.Board as struct
use Rattle.board.specs.Reading.{view, Sound}
use Rattle.calls.specs.Promises.{called, made}
use Rattle.calls.specs.Contract.{called_serve, called_burst}

-- ---- Exactly

-- a call's lines of the table, from the top down: a code, and when it is given
pub data Lines : Type 1 where
  last : Lines
  line : (code : ℕ) → Type 0 → Lines → Lines

abbrev pub Iff : Type 0 → Type 0 → Type 0
Iff A B = (A → B) × (B → A)

-- Checks go down the table: a line's code is given exactly when its condition holds and that of no line above it;
-- 0 is given exactly when no line's holds.
unfoldable pub ExactlyBelow : (code : ℕ) → Type 0 → Lines → Type 0
ExactlyBelow code above last = Iff (code ≡ 0) (above → ⊥)
ExactlyBelow code above (line c holds rest) =
    Iff (code ≡ c) (holds × (above → ⊥)) × ExactlyBelow code (above ⊎ holds) rest

abbrev pub Exactly : (code : ℕ) → Lines → Type 0
Exactly code lines = ExactlyBelow code ⊥ lines

-- ---- Conditions, in the table's words

-- 3: a lent table hasn't 2,048 entries
abbrev pub WrongTables : (ids lens : List ℕ) → Type 0
WrongTables ids lens = (length ids ≡ table_length) × (length lens ≡ table_length) → ⊥

-- 2: the board is spoilt
abbrev pub Spoilt : struct.Board → (ids lens : List ℕ) → Type 0
Spoilt b ids lens = Sound b ids lens → ⊥

-- 1: no block waits
abbrev pub NoneWaits : Board.Board → Type 0
NoneWaits m = (p : ℕ) → (at m p).lane ≡ []

-- 4: L, block number, share or length outside its range
abbrev pub SizeOutside : (L : ℕ) → Type 0
SizeOutside L = (L < 64) ⊎ (2048 < L)

abbrev pub ShareOutside : (share : ℕ) → Type 0
ShareOutside share = (share ≡ 0) ⊎ (65536 < share)

abbrev pub LengthOutside : Board.Board → (length : ℕ) → Type 0
LengthOutside m length = (length ≡ 0) ⊎ (m.largest < length)

-- 6: no open block has that number (`NoneHas` of rules/specs/Board)
-- 5: an open block has the new number, itself included
abbrev pub SomeHas : Board.Board → (n : ℕ) → Type 0
SomeHas m n = (p : ℕ) × Has m p n

-- 7: all 64 places are taken
abbrev pub AllTaken : Board.Board → Type 0
AllTaken m = (p : ℕ) → p < 64 → 1 ≤ (at m p).share

-- 8: the share exceeds the free share: with the shares of open blocks and the held shares it is more than the line
abbrev pub OverFree : Board.Board → (share : ℕ) → Type 0
OverFree m share = 65536 < sum (λ (x : Place). x.share) m.places + below m.held 17 + share

-- 9: the lane holds 32 records
abbrev pub LaneFull : Board.Board → (n : ℕ) → Type 0
LaneFull m n = (p : ℕ) × Has m p n × (length (at m p).lane ≡ depth (at m p))

-- 10: the lane is not empty
abbrev pub LaneWaits : Board.Board → (n : ℕ) → Type 0
LaneWaits m n = (p : ℕ) × Has m p n × ((at m p).lane ≢ [])

-- 11: a block waits, no slot is open, and the slot would begin at 2^62 or later: so late is the clock, or every ready
-- time of a block in an order
abbrev pub BeginsLate : Board.Board → Type 0
BeginsLate m = (2 ^ 62 ≤ m.clock) ⊎ ((p ready : ℕ) → (at m p).stand ≡ queued ready → 2 ^ 62 ≤ ready)

pub record TooLate (m : Board.Board) : Type 0 where
  pub waits : (p : ℕ) × ((at m p).lane ≢ [])
  pub slot : m.slot ≡ none
  pub late : BeginsLate m

-- 14: the list is full
abbrev pub ListFull : (list : List ℕ) (count : ℕ) → Type 0
ListFull list count = count ≡ length list

-- 13: the next record exceeds the bytes remaining: it is the record that a single serving call would send
pub record OverBytes (m : Board.Board) (bytes total : ℕ) : Type 0 where
  pub next : Sent
  pub would : answer m serve! ≡ sends next
  pub over : bytes < total + charged next.bytes

-- ---- Each call's lines

abbrev pub make_lines : (ids lens : List ℕ) (L : ℕ) → Lines
make_lines ids lens L = line 3 (WrongTables ids lens) (line 4 (SizeOutside L) last)

-- the first lines of every other call, and then its own
abbrev pub lent_lines : struct.Board → (ids lens : List ℕ) → Lines → Lines
lent_lines b ids lens own = line 3 (WrongTables ids lens) (line 2 (Spoilt b ids lens) own)

abbrev pub open_lines : Board.Board → Opening → Lines
open_lines m o =
    line 4 ((o.number ≡ 0) ⊎ ShareOutside o.share)
    (line 5 (SomeHas m o.number)
    (line 7 (AllTaken m)
    (line 8 (OverFree m o.share)
    last)))

abbrev pub close_lines : Board.Board → (n : ℕ) → Lines
close_lines m n = line 6 (NoneHas m n) (line 10 (LaneWaits m n) last)

abbrev pub rename_lines : Board.Board → (old new : ℕ) → Lines
rename_lines m old new = line 4 (new ≡ 0) (line 6 (NoneHas m old) (line 5 (SomeHas m new) last))

abbrev pub record_lines : Board.Board → (n : ℕ) → Record → Lines
record_lines m n r =
    line 4 ((n ≡ 0) ⊎ LengthOutside m r.bytes)
    (line 6 (NoneHas m n)
    (line 9 (LaneFull m n)
    last))

abbrev pub serve_lines : Board.Board → Lines
serve_lines m = line 1 (NoneWaits m) (line 11 (TooLate m) last)

-- of the board that the burst left, its count and its total
abbrev pub burst_lines : Board.Board → (bytes : ℕ) (list : List ℕ) (count total : ℕ) → Lines
burst_lines m bytes list count total =
    line 1 (NoneWaits m)
    (line 11 (TooLate m)
    (line 14 (ListFull list count)
    (line 13 (OverBytes m bytes total)
    last)))

-- ---- The table: one field a call

pub record Codes : Type 0 where
  pub making : (ids lens : List ℕ) (L : ℕ) → Exactly (made ids lens L).reply.code (make_lines ids lens L)
  pub opening : (b : struct.Board) (ids lens : List ℕ) (o : Opening)
      → let m = view b ids lens in
      Exactly (called b ids lens (open! o)).reply.code (lent_lines b ids lens (open_lines m o))
  pub closing : (b : struct.Board) (ids lens : List ℕ) (n : ℕ)
      → let m = view b ids lens in
      Exactly (called b ids lens (close! n)).reply.code (lent_lines b ids lens (close_lines m n))
  pub renaming : (b : struct.Board) (ids lens : List ℕ) (old new : ℕ)
      → let m = view b ids lens in
      Exactly (called b ids lens (rename! old new)).reply.code (lent_lines b ids lens (rename_lines m old new))
  pub recording : (b : struct.Board) (ids lens : List ℕ) (n : ℕ) (r : Record)
      → let m = view b ids lens in
      Exactly (called b ids lens (record! n r)).reply.code (lent_lines b ids lens (record_lines m n r))
  pub serving : (b : struct.Board) (ids lens : List ℕ)
      → let m = view b ids lens in
      Exactly (called_serve b ids lens).reply.code (lent_lines b ids lens (serve_lines m))
  -- A burst is stopped by the board that it left.
  pub bursting : (b : struct.Board) (ids lens : List ℕ) (bytes : ℕ) (list : List ℕ)
      → let w = called_burst b ids lens bytes list in
      let r = w.reply.answer in
      let m = view r.board w.ids w.lens in
      Exactly r.code (lent_lines b ids lens (burst_lines m bytes list r.count r.bytes.0))
