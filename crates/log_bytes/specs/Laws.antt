-- WHAT IS PROVED of the reader: it takes exactly what is written, every byte sequence has exactly one reading, and what
-- is known of a field stays known.
use Rattle.std.specs.Prelude.{◌≡◌, true, false, List, [], ◌++◌, ◌⊎◌, ℕ, ◌+◌, ◌-◌, ◌^◌, ◌≤◌, ◌<◌, length, drop, get_or}
use Rattle.log_bytes.specs.declared.Stage.{Stage}
use Rattle.log_bytes.specs.declared.Stage.TheVariants.{BeforeL}
use Rattle.log_bytes.specs.declared.Event.{Event}
use Rattle.log_bytes.specs.declared.End.{End}
use Rattle.log_bytes.specs.declared.End.TheVariants.{Whole as whole, Broken as broken, Long as long}
use Rattle.log_bytes.specs.declared.Next.TheVariants.{GoesOn, Ends, Unfinished}
use Rattle.log_bytes.specs.Format.{tag_in, length_in, past_l, stage_after, right_tag, right_length, in_turn, next_in}
use Rattle.log_bytes.specs.Rows.{Reading, only, and_then, end_in, next_of, follow}
use Rattle.log_bytes.specs.Rows.{read_up_to, read_from, read_log, IsReading, RowOf}
use Rattle.log_bytes.specs.Spelling.{field_of, value_in, Says, AllBytes, Spelt, log_of, AllSay, AllInTurn, with_offsets}

-- ---- One field

-- A field that says an event in its turn, with anything after it, is read as that event, and has so many bytes.
abbrev pub FieldBack : Type 0
FieldBack = (e : Event) (tag : ℕ) (value rest : List ℕ) (at : ℕ) (stage : Stage)
    → Says e tag value → in_turn e stage ≡ true → at + length (field_of tag value) ≤ 2 ^ 48
    → next_of at (field_of tag value ++ rest) stage ≡ GoesOn e (length (field_of tag value))

-- A field that is read whole says that event in its turn, and the bytes are the field's and what follows them.
abbrev pub FieldOnly : Type 0
FieldOnly = (at : ℕ) (bytes : List ℕ) (stage : Stage) (e : Event) (size : ℕ)
    → AllBytes bytes → next_of at bytes stage ≡ GoesOn e size
    → (Says e (tag_in bytes) (value_in bytes) × (in_turn e stage ≡ true))
    × (bytes ≡ field_of (tag_in bytes) (value_in bytes) ++ drop size bytes)

-- After a whole field L has been read.
abbrev pub PastAfter : Type 0
PastAfter = (e : Event) (stage : Stage) → in_turn e stage ≡ true → past_l (stage_after stage e) ≡ true

-- ---- A field as its bytes come

-- A tag that may not stand there is told by its first byte, and a wrong length by its third.
abbrev pub TagSeen : Type 0
TagSeen = (at : ℕ) (bytes : List ℕ) (stage : Stage) → at < 2 ^ 48 → right_tag (tag_in bytes) stage ≡ false
    → next_in at bytes 1 stage ≡ Ends (broken at)

abbrev pub LengthSeen : Type 0
LengthSeen = (at : ℕ) (bytes : List ℕ) (stage : Stage) → at + 2 < 2 ^ 48
    → right_length (tag_in bytes) (length_in bytes) ≡ false → next_in at bytes 3 stage ≡ Ends (broken at)

-- A cut field is not known before the log's end: as long as bytes are missing, and tag and length are right where they
-- have come, it is not finished.
abbrev pub CutUnknown : Type 0
CutUnknown = (at : ℕ) (bytes : List ℕ) (came : ℕ) (stage : Stage) → at + came ≤ 2 ^ 48
    → (came ≡ 0) ⊎ (right_tag (tag_in bytes) stage ≡ true)
    → (came < 3) ⊎ ((right_length (tag_in bytes) (length_in bytes) ≡ true) × (came < 3 + length_in bytes))
    → next_in at bytes came stage ≡ Unfinished came

-- What is known stays known, whatever comes after it.
abbrev pub StaysKnown : Type 0
StaysKnown = (at : ℕ) (bytes : List ℕ) (came more : ℕ) (stage : Stage) → came ≤ more
    → (next_in at bytes came stage ≡ Unfinished came → ⊥) → next_in at bytes more stage ≡ next_in at bytes came stage

-- Only the bytes that have come are looked at, and of a field that is passed over its first three alone.
abbrev pub LooksAt : (came : ℕ) (a b : List ℕ) → Type 0
LooksAt came a b = (i : ℕ) → i < came → (i < 3) ⊎ (tag_in a < 128) → get_or a i 0 ≡ get_or b i 0

abbrev pub KnownByLooks : Type 0
KnownByLooks = (at : ℕ) (a b : List ℕ) (came : ℕ) (stage : Stage) → LooksAt came a b
    → next_in at a came stage ≡ next_in at b came stage

-- A log is broken at the offset of a field's first byte, and long only if a byte with offset 2^48 has come.
abbrev pub BrokenAt : Type 0
BrokenAt = (at : ℕ) (bytes : List ℕ) (came : ℕ) (stage : Stage) (n : ℕ)
    → next_in at bytes came stage ≡ Ends (broken n) → n ≡ at

abbrev pub LongOnly : Type 0
LongOnly = (at : ℕ) (bytes : List ℕ) (came : ℕ) (stage : Stage)
    → next_in at bytes came stage ≡ Ends long → 2 ^ 48 - at < came

-- ---- The whole log

-- Every byte sequence has a reading, and no other.
abbrev pub HasReading : Type 0
HasReading = (s : List ℕ) → IsReading s (read_log s)

abbrev pub OneReading : Type 0
OneReading = (s : List ℕ) (r : Reading) → IsReading s r → r ≡ read_log s

-- A larger count of fields changes nothing.
abbrev pub Enough : Type 0
Enough = (n m at : ℕ) (bytes : List ℕ) (stage : Stage) → length bytes < n → length bytes < m
    → read_up_to n at bytes stage ≡ read_up_to m at bytes stage

-- The reading from an offset is the whole field there, followed by the reading from its end; or the log ends there.
abbrev pub ReadStep : Type 0
ReadStep = (at : ℕ) (bytes : List ℕ) (stage : Stage)
    → read_from at bytes stage ≡ follow read_from at bytes stage (next_of at bytes stage)

abbrev pub ReadWhole : Type 0
ReadWhole = (at : ℕ) (bytes : List ℕ) (stage : Stage) (e : Event) (size : ℕ) → next_of at bytes stage ≡ GoesOn e size
    → read_from at bytes stage
    ≡ and_then (record { offset = at; event = e; next = at + size })
    (read_from (at + size) (drop size bytes) (stage_after stage e))

abbrev pub ReadEnds : Type 0
ReadEnds = (at : ℕ) (bytes : List ℕ) (stage : Stage) (e : End) → next_of at bytes stage ≡ Ends e
    → read_from at bytes stage ≡ only e

abbrev pub ReadCut : Type 0
ReadCut = (at : ℕ) (bytes : List ℕ) (stage : Stage) (came : ℕ) → next_of at bytes stage ≡ Unfinished came
    → read_from at bytes stage ≡ only (end_in at came stage)

-- Every log is a row of fields; an empty one is broken at 0.
abbrev pub LogRow : Type 0
LogRow = (s : List ℕ) → RowOf s (read_log s)

abbrev pub EmptyLog : Type 0
EmptyLog = read_log [] ≡ only (broken 0)

-- A log written from events, L first and once, is read back as those events and ends whole.
abbrev pub LogBack : Type 0
LogBack = (xs : List Spelt) → AllSay xs → AllInTurn BeforeL xs → length (log_of xs) ≤ 2 ^ 48
    → read_log (log_of xs) ≡ record { fields = with_offsets 0 xs; ends = whole }

-- A log that ends whole is one so written.
abbrev pub LogOnly : Type 0
LogOnly = (s : List ℕ) → AllBytes s → (read_log s).ends ≡ whole
    → (xs : List Spelt) × (AllSay xs × (AllInTurn BeforeL xs × (s ≡ log_of xs)))
