-- WHAT IS PROVED of the report: one field and the report of what follows it, that it has the listing's boards, that it
-- stays `full`, that it speaks of a run, how long its lines are, and the worked log's.
use Rattle.std.specs.Prelude.{◌≡◌, true, false, List, [], ◌∷◌, ◌++◌, ℕ, ◌+◌, ◌^◌, ◌≤◌, ◌<◌, length, drop}
use Rattle.rules.specs.Board.{at, fresh}
use Rattle.rules.specs.Blocks.{meant}
use Rattle.rules.specs.Calls.{Single, open!, rename!, close!, record!, serve! }
use Rattle.rules.specs.Runs.{play}
use Rattle.rules.specs.Promises.{InRange}
use Rattle.accounts.specs.Promises.{counts_of}
use Rattle.log_bytes.specs.declared.Stage.{Stage}
use Rattle.log_bytes.specs.declared.Stage.TheVariants.{BeforeL}
use Rattle.log_bytes.specs.declared.Event.{Event}
use Rattle.log_bytes.specs.declared.Event.TheVariants.{Largest, Open, Close, Rename, Arrive, Serve, Passed}
use Rattle.log_bytes.specs.declared.End.{End}
use Rattle.log_bytes.specs.declared.End.TheVariants.{Broken as broken, Long as long}
use Rattle.log_bytes.specs.declared.Next.TheVariants.{GoesOn, Ends, Unfinished}
use Rattle.log_bytes.specs.Format.{past_l, stage_after}
use Rattle.log_bytes.specs.Rows.{WholeField, end_in, next_of, read_log}
use Rattle.log_bytes.specs.Worked.{worked_log}
use Rattle.lines.specs.Listing.{broken_line, long_line}
use Rattle.listing_rules.specs.Listing.{Playing, played}
use Rattle.report_lines.specs.Text.{full_line}
use Rattle.report_lines.specs.Worked.{worked_bytes}
use Rattle.report_rules.specs.Report.{Reporting, unmade, field_counted, place_line, report_end, report_from, report_of}

-- A whole field is counted, and the report goes on from its end.
abbrev pub ReportWhole : Type 0
ReportWhole = (r : Reporting) (p at : ℕ) (bytes : List ℕ) (stage : Stage) (e : Event) (size : ℕ)
    → next_of at bytes stage ≡ GoesOn e size
    → report_from r p at bytes stage
    ≡ report_from (field_counted r e) p (at + size) (drop size bytes) (stage_after stage e)

-- Where the log ends the report is made.
abbrev pub ReportEnds : Type 0
ReportEnds = (r : Reporting) (p at : ℕ) (bytes : List ℕ) (stage : Stage) (e : End)
    → next_of at bytes stage ≡ Ends e → report_from r p at bytes stage ≡ report_end r p e

abbrev pub ReportCut : Type 0
ReportCut = (r : Reporting) (p at : ℕ) (bytes : List ℕ) (stage : Stage) (came : ℕ)
    → next_of at bytes stage ≡ Unfinished came → report_from r p at bytes stage ≡ report_end r p (end_in at came stage)

-- Unless the counting has stopped, a broken or a cut field gives `broken N`, and a byte with offset 2^48 `long`, and
-- that alone.
abbrev pub ReportBroken : Type 0
ReportBroken = (r : Reporting) (p at : ℕ) (bytes : List ℕ) (stage : Stage) (n : ℕ)
    → next_of at bytes stage ≡ Ends (broken n) → r.counts.full ≡ false → report_from r p at bytes stage ≡ broken_line n

abbrev pub ReportPart : Type 0
ReportPart = (r : Reporting) (p at : ℕ) (bytes : List ℕ) (stage : Stage) (came : ℕ)
    → next_of at bytes stage ≡ Unfinished came → 0 < came → r.counts.full ≡ false
    → report_from r p at bytes stage ≡ broken_line at

abbrev pub ReportLong : Type 0
ReportLong = (r : Reporting) (p at : ℕ) (bytes : List ℕ) (stage : Stage)
    → next_of at bytes stage ≡ Ends long → r.counts.full ≡ false → report_from r p at bytes stage ≡ long_line

-- A log is read from its first byte.
abbrev pub ReportFirst : Type 0
ReportFirst = (log : List ℕ) → report_of log ≡ report_from unmade 0 0 log BeforeL

-- The board is the listing's, field by field, whatever comes of the counting.
abbrev pub SameBoard : Type 0
SameBoard = (r : Reporting) (q : Playing) (e : Event) → r.board ≡ q.board
    → (field_counted r e).board ≡ (played q e).board

-- Once the counting has stopped, the report is the one line `full`, whatever follows. (It stops at a serve, so after
-- L.)
abbrev pub StaysFull : Type 0
StaysFull = (r : Reporting) (p at : ℕ) (bytes : List ℕ) (stage : Stage) → past_l stage ≡ true
    → r.counts.full ≡ true → report_from r p at bytes stage ≡ full_line

-- ---- A report speaks of a run: all that is promised of the counts of runs holds of its lines.

-- the call that a field says, if it says one
abbrev pub call_in : Event → List Single
call_in (Largest l) = []
call_in (Open o) = open! (meant o) ∷ []
call_in (Close block) = close! block ∷ []
call_in (Rename old new) = rename! old new ∷ []
call_in (Arrive block number bytes) = record! block (record { number = number; bytes = bytes }) ∷ []
call_in Serve = serve! ∷ []
call_in Passed = []

unfoldable pub calls_in : List WholeField → List Single
calls_in [] = []
calls_in (f ∷ fs) = call_in f.event ++ calls_in fs

-- what a run of these calls leaves on a board made with L, and its counts
abbrev pub run_of : (L : ℕ) → List Single → Reporting
run_of L xs = record { board = play (fresh L) xs; counts = counts_of L xs }

-- Behind L, which is 64 to 2,048, the report of a log is made from the run of its fields' calls.
abbrev pub ReportOfRun : Type 0
ReportOfRun = (log : List ℕ) (l : ℕ) (f : WholeField) (fs : List WholeField)
    → (read_log log).fields ≡ f ∷ fs → f.event ≡ Largest l
    → InRange l × (report_of log ≡ report_end (run_of l (calls_in fs)) 0 (read_log log).ends)

-- Before L there is none: every log that has fields begins with it.
abbrev pub LBegins : Type 0
LBegins = (log : List ℕ) (f : WholeField) (fs : List WholeField) → (read_log log).fields ≡ f ∷ fs
    → (l : ℕ) × (f.event ≡ Largest l)

-- Until the counting has stopped, a block's line has at most 101 bytes.
abbrev pub LinesShort : Type 0
LinesShort = (L : ℕ) → InRange L → (xs : List Single) → (counts_of L xs).full ≡ false
    → (p : ℕ) → p < 64 → (at (play (fresh L) xs) p).number < 2 ^ 32 → length (place_line (run_of L xs) p) ≤ 101

-- The report of document 01's worked log, byte for byte.
abbrev pub WorkedLogReported : Type 0
WorkedLogReported = report_of worked_log ≡ worked_bytes
