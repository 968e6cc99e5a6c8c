-- ONE FIELD PLAYED: a board in memory, its tables and the bytes sent so far, before the field and after it.
use Rattle.std.specs.Prelude.{◌≡◌, cond, List, [], ℕ, ◌+◌, ◌≤◌, eqb, get_or, Option, Some, None}
use Rattle.board.specs.declared.Board as struct
use Rattle.board.specs.Reading.{view}
use Rattle.log_bytes.specs.declared.Event.{Event}
use Rattle.log_bytes.specs.declared.Event.TheVariants.{Largest, Open, Close, Rename, Arrive, Serve, Passed}
use Rattle.lines.specs.Text.{Written}
use Rattle.lines.specs.declared.Line.{Line}
use Rattle.lines.specs.Listing.{open_line, close_line, name_line, in_line, out_line, refused_line, line_text}
use Rattle.board.specs.Leaving.{Known}
use Rattle.listing_rules.specs.Listing.{Playing, played, field_line}

-- what stands between two fields
pub record Memory : Type 0 where
  pub board : struct.Board
  pub ids : List ℕ
  pub lens : List ℕ
  pub sent : ℕ

abbrev pub memory : struct.Board → (ids lens : List ℕ) (sent : ℕ) → Memory
memory board ids lens sent = record { board = board; ids = ids; lens = lens; sent = sent }

-- as the listing's definition reads it
abbrev pub reads : Memory → Playing
reads s = record { board = view s.board s.ids s.lens; sent = s.sent }

-- the value is not spoilt, and its tables are whole
abbrev pub KnownMemory : Memory → Type 0
KnownMemory s = Known s.board s.ids s.lens

-- A field is played: board and bytes sent are what the rules say, and its line is put behind what is written.
pub record FieldPlayed
    (s : Memory) (e : Event) (n : Memory) (before : List ℕ) (used used' : ℕ) (after : List ℕ) : Type 0 where
  pub good : KnownMemory n
  pub next : reads n ≡ played (reads s) e
  pub written : Written before used (field_line (reads s) e) used' after
  pub short : used' ≤ used + 64
  -- no record is charged more, so the sum of the bytes sent never wraps
  pub more : n.sent ≤ s.sent + 65536

-- ---- The line of a field, by what its step tells

-- the line of a serve, by its code: the record sent stands at a place and an entry
abbrev pub shown_line : (numbers ids lens : List ℕ) (code place entry clock : ℕ) → List ℕ
shown_line numbers ids lens code place entry clock =
    cond (eqb code 0) (out_line (get_or numbers place 0) (get_or ids entry 0) (get_or lens entry 0) clock)
    (refused_line code)

-- of any field
abbrev pub event_line : (numbers ids lens : List ℕ) → Event → (code place entry clock : ℕ) → List ℕ
event_line numbers ids lens (Largest l) code place entry clock = []
event_line numbers ids lens (Open o) code place entry clock = open_line o.number code
event_line numbers ids lens (Close block) code place entry clock = close_line block code
event_line numbers ids lens (Rename old new) code place entry clock = name_line old new code
event_line numbers ids lens (Arrive block number bytes) code place entry clock = in_line number code
event_line numbers ids lens Serve code place entry clock = shown_line numbers ids lens code place entry clock
event_line numbers ids lens Passed code place entry clock = []

-- the text of a line, or of none
abbrev pub shown_text : Option Line → List ℕ
shown_text None = []
shown_text (Some line) = line_text line
