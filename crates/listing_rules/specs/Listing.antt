-- THE LISTING of a log (document 01, 'The log and the listing'): what each field does to the board, and the line that
-- it gives.
use Rattle.std.specs.Prelude.{List, [], ◌∷◌, ◌++◌, ℕ, ◌+◌, length}
use Rattle.base.specs.Sums.{sum}
use Rattle.rules.specs.Board.{Place, Board, fresh}
use Rattle.rules.specs.Blocks.{meant}
use Rattle.rules.specs.Calls.{Single, open!, rename!, close!, record!, serve!, step, Answer, gives, takes, sends}
use Rattle.rules.specs.Calls.{bursts, code_of}
use Rattle.rules.specs.Runs.{answer, bytes_of}
use Rattle.log_bytes.specs.declared.Stage.{Stage}
use Rattle.log_bytes.specs.declared.Event.{Event}
use Rattle.log_bytes.specs.declared.Event.TheVariants.{Largest, Open, Close, Rename, Arrive, Serve, Passed}
use Rattle.log_bytes.specs.declared.End.{End}
use Rattle.log_bytes.specs.declared.End.TheVariants.{Whole as whole, Broken as broken, Long as long}
use Rattle.log_bytes.specs.Rows.{WholeField, read_from, read_log}
use Rattle.lines.specs.Listing.{open_line, close_line, name_line, in_line, out_line, refused_line, end_line}
use Rattle.lines.specs.Listing.{broken_line}
use Rattle.lines.specs.Listing.{long_line}

-- What stands between two fields: the board, and the bytes sent so far.
pub record Playing : Type 0 where
  pub board : Board
  pub sent : ℕ

-- Before L there is no board; every other field comes after it.
abbrev pub unmade : Playing
unmade = record { board = fresh 0; sent = 0 }

-- A call on the board.
abbrev pub after : Playing → Single → Playing
after p x = record { board = (step p.board x).next; sent = p.sent + bytes_of (answer p.board x) }

-- Tag 6 makes the board; tags 1 to 5 are calls; tags 128 to 255 are passed over.
abbrev pub played : Playing → Event → Playing
played p (Largest l) = record { board = fresh l; sent = 0 }
played p (Open o) = after p (open! (meant o))
played p (Close block) = after p (close! block)
played p (Rename old new) = after p (rename! old new)
played p (Arrive block number bytes) = after p (record! block (record { number = number; bytes = bytes }))
played p Serve = after p serve!
played p Passed = p

-- A serve that is done shows block, record, length and the slot's clock; a refused one its code. (The other answers are
-- not a serve's.)
abbrev pub served_line : Answer → List ℕ
served_line (gives code) = refused_line code
served_line (takes a) = refused_line a.code
served_line (sends s) = out_line s.block s.number s.bytes s.clock
served_line (bursts r) = refused_line r.code

-- The line that a field gives; L and what is passed over give none.
abbrev pub field_line : Playing → Event → List ℕ
field_line p (Largest l) = []
field_line p (Open o) = open_line o.number (code_of (answer p.board (open! (meant o))))
field_line p (Close block) = close_line block (code_of (answer p.board (close! block)))
field_line p (Rename old new) = name_line old new (code_of (answer p.board (rename! old new)))
field_line p (Arrive block number bytes) =
    in_line number (code_of (answer p.board (record! block (record { number = number; bytes = bytes }))))
field_line p Serve = served_line (answer p.board serve!)
field_line p Passed = []

-- `end` shows clock, bytes sent and records waiting.
abbrev pub waiting : Board → ℕ
waiting b = sum (λ (x : Place). length x.lane) b.places

-- the last line, with the numbers that `end` shows
abbrev pub last_of : (clock sent waits : ℕ) → End → List ℕ
last_of clock sent waits whole = end_line clock sent waits
last_of clock sent waits (broken offset) = broken_line offset
last_of clock sent waits long = long_line

abbrev pub last_line : Playing → End → List ℕ
last_line p e = last_of p.board.clock p.sent (waiting p.board) e

-- The fields in turn, and then the last line.
unfoldable pub lines_of : Playing → List WholeField → End → List ℕ
lines_of p [] e = last_line p e
lines_of p (f ∷ fs) e = field_line p f.event ++ lines_of (played p f.event) fs e

-- the listing of these bytes, the first of which has this offset
abbrev pub listing_from : Playing → (at : ℕ) (bytes : List ℕ) → Stage → List ℕ
listing_from p at bytes stage = lines_of p (read_from at bytes stage).fields (read_from at bytes stage).ends

-- THE LISTING
unfoldable pub listing_of : (log : List ℕ) → List ℕ
listing_of log = lines_of unmade (read_log log).fields (read_log log).ends
