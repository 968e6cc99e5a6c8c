-- The log's format: one field, judged by its bytes in the order in which they come.
use Rattle.std.specs.Prelude.{Bool, true, false, not, cond, ◌&&◌, ◌||◌, List, ℕ, zero, suc, ◌+◌, ◌-◌, ◌*◌, ◌^◌, ltb}
use Rattle.std.specs.Prelude.{leb, eqb, get_or}
use Rattle.base.specs.Tests.{alike}
use Rattle.log_bytes.specs.declared.Event.{Event}
use Rattle.log_bytes.specs.declared.Event.TheVariants.{Largest, Open, Close, Rename, Arrive, Serve, Passed}
use Rattle.log_bytes.specs.declared.Stage.{Stage}
use Rattle.log_bytes.specs.declared.Stage.TheVariants.{BeforeL, AfterL}
use Rattle.log_bytes.specs.declared.End.TheVariants.{Broken as broken, Long as long}
use Rattle.log_bytes.specs.declared.Next.{Next}
use Rattle.log_bytes.specs.declared.Next.TheVariants.{GoesOn, Ends, Unfinished}

-- Numbers are high byte first: the number of n bytes, from byte i on.
unfoldable pub number_at : (bytes : List ℕ) (i n : ℕ) → ℕ
number_at bytes i zero = 0
number_at bytes i (suc n) = number_at bytes i n * 256 + get_or bytes (i + n) 0

-- A field: one tag byte, two length bytes (high first), the value. `bytes` are those from its first byte on.
abbrev pub tag_in : (bytes : List ℕ) → ℕ
tag_in bytes = get_or bytes 0 0

abbrev pub length_in : (bytes : List ℕ) → ℕ
length_in bytes = number_at bytes 1 2

-- Tag 6, two bytes. Tag 1, eight. Tag 2, four. Tag 3, eight. Tag 4, ten. Tag 5, none.
unfoldable pub length_of : (tag : ℕ) → ℕ
length_of tag =
    cond (eqb tag 6) 2
    (cond (eqb tag 1) 8
    (cond (eqb tag 2) 4
    (cond (eqb tag 3) 8
    (cond (eqb tag 4) 10
    0))))

-- The tags that say something are 1 to 6.
abbrev pub last_tag : ℕ
last_tag = 6

-- Tags 128 to 255, any length. Another tag, or a wrong length, is none of the log's.
unfoldable pub right_length : (tag len : ℕ) → Bool
right_length tag len = leb 128 tag || (leb 1 tag && (leb tag last_tag && eqb len (length_of tag)))

-- Tag 6: L. Tag 1: open, block and share. Tag 2: close. Tag 3: rename, old and new. Tag 4: record, block, number,
-- length. Tag 5: serve once. Tags 128 to 255 are passed over. The value begins with byte i.
unfoldable pub event_of : (bytes : List ℕ) (tag i : ℕ) → Event
event_of bytes tag i =
    cond (eqb tag 6) (Largest (number_at bytes i 2))
    (cond (eqb tag 1) (Open (record { number = number_at bytes i 4; share = number_at bytes (i + 4) 4 }))
    (cond (eqb tag 2) (Close (number_at bytes i 4))
    (cond (eqb tag 3) (Rename (number_at bytes i 4) (number_at bytes (i + 4) 4))
    (cond (eqb tag 4) (Arrive (number_at bytes i 4) (number_at bytes (i + 4) 4) (number_at bytes (i + 8) 2))
    (cond (eqb tag 5) Serve
    Passed)))))

-- What the field says.
abbrev pub event_in : (bytes : List ℕ) → Event
event_in bytes = event_of bytes (tag_in bytes) 3

-- The tag of each event; of those passed over, which are 128 to 255, the first.
abbrev pub tag_of : Event → ℕ
tag_of (Largest l) = 6
tag_of (Open o) = 1
tag_of (Close block) = 2
tag_of (Rename old new) = 3
tag_of (Arrive block number length) = 4
tag_of Serve = 5
tag_of Passed = 128

abbrev pub is_l : Event → Bool
is_l e = eqb (tag_of e) 6

abbrev pub is_passed : Event → Bool
is_passed e = leb 128 (tag_of e)

-- L has been read.
abbrev pub past_l : Stage → Bool
past_l BeforeL = false
past_l AfterL = true

-- The stage after a whole field: only L leads to another.
unfoldable pub stage_after : Stage → Event → Stage
stage_after stage e = cond (is_l e) AfterL stage

-- Tags 1 to 6 and 128 to 255 are the log's. Tag 6 comes first and once, and no other before it.
unfoldable pub right_tag : (tag : ℕ) → Stage → Bool
right_tag tag stage = (leb 128 tag || (leb 1 tag && leb tag last_tag)) && alike (eqb tag 6) (not (past_l stage))

-- L comes first and once, 64 to 2,048; all else comes after it.
unfoldable pub in_turn : Event → Stage → Bool
in_turn (Largest l) stage = not (past_l stage) && (leb 64 l && leb l 2048)
in_turn (Open o) stage = past_l stage
in_turn (Close block) stage = past_l stage
in_turn (Rename old new) stage = past_l stage
in_turn (Arrive block number length) stage = past_l stage
in_turn Serve stage = past_l stage
in_turn Passed stage = past_l stage

-- ---- What has come of a field: so many bytes of it, the first at an offset of the log

-- A byte with offset 2^48 or more is past the end of every log, and is not read: byte i of the field is read if it has
-- come, and its offset is below that.
unfoldable pub is_read : (at came i : ℕ) → Bool
is_read at came i = ltb i came && ltb i (2 ^ 48 - at)

-- A tag that may not stand there breaks the log at its tag byte, a wrong length at its third byte, an L outside its
-- range at its last.
unfoldable pub is_broken : (at : ℕ) (bytes : List ℕ) (came : ℕ) → Stage → Bool
is_broken at bytes came stage =
    (is_read at came 0 && not (right_tag (tag_in bytes) stage))
    || ((is_read at came 2 && not (right_length (tag_in bytes) (length_in bytes)))
    || (is_read at came (2 + length_in bytes) && not (in_turn (event_in bytes) stage)))

-- The last byte of its value has come; of a field without a value, its third byte.
unfoldable pub is_whole : (at : ℕ) (bytes : List ℕ) (came : ℕ) → Bool
is_whole at bytes came = is_read at came (2 + length_in bytes)

-- The byte with offset 2^48 has come.
unfoldable pub is_past : (at came : ℕ) → Bool
is_past at came = ltb (2 ^ 48 - at) came

-- WHAT IS KNOWN OF A FIELD by the bytes that have come: it is broken, and the broken offset is that of its first byte;
-- or the log goes on with it, and it has so many bytes; or the log is long; or it is not finished.
unfoldable pub next_in : (at : ℕ) (bytes : List ℕ) (came : ℕ) → Stage → Next
next_in at bytes came stage =
    cond (is_broken at bytes came stage) (Ends (broken at))
    (cond (is_whole at bytes came) (GoesOn (event_in bytes) (3 + length_in bytes))
    (cond (is_past at came) (Ends long)
    (Unfinished came)))
