-- THE REPORT of a log (document 02, Item 1): in place of the listing one line for each block open at the end, by place;
-- or one line alone.
use Rattle.std.specs.Prelude.{cond, List, [], ◌∷◌, ◌++◌, ℕ, zero, suc, ◌-◌, ℤ, pos, ◌-ℤ◌}
use Rattle.rules.specs.Board.{Board, at, is_open, fresh}
use Rattle.rules.specs.Choice.{Turn}
use Rattle.accounts.specs.Accounts.{Account, due, got, Counts, no_counts, counted}
use Rattle.log_bytes.specs.declared.Stage.{Stage}
use Rattle.log_bytes.specs.declared.Event.{Event}
use Rattle.log_bytes.specs.declared.Event.TheVariants.{Largest, Open, Close, Rename, Arrive, Serve, Passed}
use Rattle.log_bytes.specs.declared.End.{End}
use Rattle.log_bytes.specs.declared.End.TheVariants.{Whole as whole, Broken as broken, Long as long}
use Rattle.log_bytes.specs.Rows.{WholeField, read_from, read_log}
use Rattle.lines.specs.Listing.{broken_line, long_line}
use Rattle.listing_rules.specs.Events.{turn_of}
use Rattle.report_lines.specs.Text.{account_line, full_line}

-- What stands between two fields: the board, and the counts beside it.
pub record Reporting : Type 0 where
  pub board : Board
  pub counts : Counts

-- Before L there is no board.
abbrev pub unmade : Reporting
unmade = record { board = fresh 0; counts = no_counts }

-- A turn on the board, counted. The board is the turn's, whatever comes of the counting.
abbrev pub after_turn : Reporting → Turn → Reporting
after_turn p t = record { board = t.next; counts = counted p.board t p.counts }

-- L makes the board, and nothing is counted yet; every other field does what it says.
abbrev pub field_counted : Reporting → Event → Reporting
field_counted p (Largest l) = record { board = fresh l; counts = no_counts }
field_counted p (Open o) = after_turn p (turn_of p.board (Open o))
field_counted p (Close block) = after_turn p (turn_of p.board (Close block))
field_counted p (Rename old new) = after_turn p (turn_of p.board (Rename old new))
field_counted p (Arrive block number bytes) = after_turn p (turn_of p.board (Arrive block number bytes))
field_counted p Serve = after_turn p (turn_of p.board Serve)
field_counted p Passed = after_turn p (turn_of p.board Passed)

-- got minus due in parts
abbrev pub difference : Account → ℤ
difference a = pos (got a) -ℤ pos (due a)

-- the line of the block at a place: block, slots begun, credit given, bytes sent, got minus due, and credit lost
unfoldable pub place_line : Reporting → (p : ℕ) → List ℕ
place_line r p =
    let x = at r.board p in
    let a = r.counts.accounts p in
    cond (is_open x) (account_line x.number a.slots a.credit a.bytes (difference a) a.lost) []

-- the lines of so many places, from p on
unfoldable pub place_lines : Reporting → (p n : ℕ) → List ℕ
place_lines r p zero = []
place_lines r p (suc n) = place_line r p ++ place_lines r (suc p) n

-- a whole log's report, without the places before p
abbrev pub lines_from : Reporting → (p : ℕ) → List ℕ
lines_from r p = place_lines r p (64 - p)

-- For a broken or long log it is that line alone.
abbrev pub by_end : Reporting → (p : ℕ) → End → List ℕ
by_end r p whole = lines_from r p
by_end r p (broken offset) = broken_line offset
by_end r p long = long_line

-- The first met decides: the counting stops at a field, and a log is broken or long behind its last field.
unfoldable pub report_end : Reporting → (p : ℕ) → End → List ℕ
report_end r p e = cond r.counts.full full_line (by_end r p e)

-- the fields in turn, and then the report of what they come to
unfoldable pub report_on : Reporting → (p : ℕ) → List WholeField → End → List ℕ
report_on r p [] e = report_end r p e
report_on r p (f ∷ fs) e = report_on (field_counted r f.event) p fs e

-- the report of these bytes, the first of which has this offset, without the places before p
abbrev pub report_from : Reporting → (p at : ℕ) (bytes : List ℕ) → Stage → List ℕ
report_from r p at bytes stage = report_on r p (read_from at bytes stage).fields (read_from at bytes stage).ends

-- THE REPORT
unfoldable pub report_of : (log : List ℕ) → List ℕ
report_of log = report_on unmade 0 (read_log log).fields (read_log log).ends
