-- WHAT IS PROVED of the board in memory: what is written is read again and is not spoilt, no second value spells a
-- board, both class sets are as ruled, and lanes are rings.
use Rattle.std.specs.Prelude.{◌≡◌, ◌≢◌, true, List, [], ◌∷◌, ◌++◌, ℕ, suc, ◌-◌, ◌<◌, length, get_or, set, drop}
use Rattle.bits.specs.Sets.{in_set}
use Rattle.rules.specs.Board
use Rattle.rules.specs.Board.{Seventeen, no_record, Place, depth, entry, onward, active, pending}
use Rattle.rules.specs.Spoilt.{unspoilt}
use Rattle.board.specs.declared.Board as struct
use Rattle.board.specs.Reading.{encode, record_at, lane_of, view, Holds, Sound}

-- ---- Writing and reading

-- A board of the rules that breaks no clause, written, is read again if the tables hold its lanes, and is not spoilt.
abbrev pub WrittenRead : Type 0
WrittenRead = (m : Board.Board) (ids lens : List ℕ) → Seventeen m → unspoilt m ≡ true → Holds m ids lens
    → view (encode m) ids lens ≡ m

abbrev pub WrittenSound : Type 0
WrittenSound = (m : Board.Board) (ids lens : List ℕ) → Seventeen m → unspoilt m ≡ true → Holds m ids lens
    → Sound (encode m) ids lens

-- No second value: two that are not spoilt and spell one board are equal.
abbrev pub SoundOne : Type 0
SoundOne = (b c : struct.Board) (ids lens ids' lens' : List ℕ) → Sound b ids lens → Sound c ids' lens'
    → view b ids lens ≡ view c ids' lens' → b ≡ c

-- ---- Class sets: bit k is set exactly when class k is active, and pending

abbrev pub ActiveBit : Type 0
ActiveBit = (m : Board.Board) (k : ℕ) → k < 17 → in_set (encode m).active k ≡ active m k

abbrev pub PendingBit : Type 0
PendingBit = (m : Board.Board) (k : ℕ) → k < 17 → in_set (encode m).pending k ≡ pending m k

-- ---- Rings

-- No entry is one of two places, and none of a lane is used twice.
abbrev pub EntryApart : Type 0
EntryApart = (i p : ℕ) (x y : Place) (j n : ℕ) → i ≢ p → entry i x j ≢ entry p y n

abbrev pub EntryOwn : Type 0
EntryOwn = (p : ℕ) (x : Place) (j n : ℕ) → j < n → n < depth x → entry p x j ≢ entry p x n

-- The j-th record from the front, counting from 0, is at its entry.
abbrev pub LaneAt : Type 0
LaneAt = (ids lens : List ℕ) (p : ℕ) (x : Place) (c j : ℕ) → j < c
    → get_or (lane_of ids lens p x c) j no_record ≡ record_at ids lens (entry p x j)

-- A send moves the start on by one: the first record is gone.
abbrev pub LaneDrop : Type 0
LaneDrop = (ids lens : List ℕ) (p : ℕ) (x y : Place) (c : ℕ) → y.start ≡ onward x
    → lane_of ids lens p y (c - 1) ≡ drop 1 (lane_of ids lens p x c)

-- Taking a record sets one entry in each table: it goes to the end of its lane.
abbrev pub LanePut : Type 0
LanePut = (ids lens : List ℕ) (p : ℕ) (x : Place) (c id len : ℕ) → p < 64 → c < depth x
    → length ids ≡ 2048 → length lens ≡ 2048
    → lane_of (set ids (entry p x c) id) (set lens (entry p x c) len) p x (suc c)
    ≡ lane_of ids lens p x c ++ (record { number = id; bytes = len } ∷ [])
