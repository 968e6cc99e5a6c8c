-- The report of document 01's worked log, byte for byte: the board and the accounts are computed.
use mathlib.Core.Path.{◌≡◌, refl, ap, ◌∙◌}
use mathlib.Core.Bool.{Bool, false, cond}
use mathlib.Core.List.{List, [], ◌∷◌, ◌++◌, append-nil}
use Prim.Native.Nat.{ℕ}
use lib.IntN.{ℤ, pos, negsuc}
use Rattle.base.specs.Sums.{sum, below}
use Rattle.base.specs.Tests.{least}
use Rattle.units.specs.Classes.{class_of, next_start}
use Rattle.units.specs.Credit.{framing, charged, largest_charge, credit_of}
use Rattle.lanes.specs.Lanes.{ring_entry, ring_on, lane_depth, lane_first}
use Rattle.rules.specs.Board.{bytes_charged, entry, onward, some_wait, any_due, used_share, fresh}
use Rattle.rules.specs.Choice.{where_is, upd, taken_in, take_record, release, least_ready, settle, ended, send_from, send, lowest, begin, serve_by, serve}
use Rattle.rules.specs.Blocks.{free_at, open_block}
use Rattle.rules.specs.Calls.{step}
use Rattle.accounts.specs.Accounts.{Account, added, counted}
use Rattle.log_bytes.specs.declared.End.{End}
use Rattle.log_bytes.specs.declared.End.TheVariants.{Whole as whole}
use Rattle.log_bytes.specs.Rows.{WholeField, Reading}
use Rattle.log_bytes.specs.Worked.{worked_fields}
use Rattle.log_bytes.proofs.Worked.{worked_reading}
use Rattle.report_lines.specs.Text.{account_line, full_line}
use Rattle.report_lines.proofs.Worked.{worked_report}
use Rattle.report_rules.specs.Report.{Reporting, unmade, field_counted, difference, place_line, place_lines, lines_from, report_end, report_on, report_of}
use Rattle.report_rules.specs.Laws.{WorkedLogReported}

-- ---- what stands after all fields

abbrev all_done : Reporting → List WholeField → Reporting
all_done r [] = r
all_done r (f ∷ fs) = all_done (field_counted r f.event) fs

on_done : (r : Reporting) (fs : List WholeField) (e : End) → report_on r 0 fs e ≡ report_end (all_done r fs) 0 e
unfolding report_on
on_done r [] e = refl
on_done r (f ∷ fs) e = on_done (field_counted r f.event) fs e

abbrev played : Reporting
played = all_done unmade worked_fields

abbrev first_account : Account
first_account = record { slots = 2; credit = 13107200; bytes = 160; lost = 2621440 }

abbrev first_line : ℤ → List ℕ
first_line d = account_line 11 2 13107200 160 d 2621440

abbrev second_line : List ℕ
second_line = account_line 12 2 19660800 300 (pos 0) 0

-- The board and the accounts are computed.
record Computed : Type 0 where
  line_first : place_line played 0 ≡ first_line (difference first_account)
  line_second : place_line played 1 ≡ second_line
  no_others : place_lines played 2 62 ≡ []
  goes_on : played.counts.full ≡ false

computed : Computed
unfolding place_lines place_line counted added sum below least class_of next_start framing charged largest_charge credit_of bytes_charged ring_entry ring_on
    lane_depth
    lane_first entry onward some_wait any_due used_share fresh where_is upd taken_in take_record release least_ready settle ended send_from send lowest begin
    serve_by
    serve free_at open_block step
computed = record { line_first = refl; line_second = refl; no_others = refl; goes_on = refl }

all_lines : lines_from played 0 ≡ first_line (difference first_account) ++ (second_line ++ [])
unfolding place_lines
all_lines = λ i. computed.line_first i ++ (computed.line_second i ++ computed.no_others i)

short : difference first_account ≡ negsuc 2621439
short = refl

pub worked_log_reported : WorkedLogReported
unfolding report_of report_end
worked_log_reported =
    ap (λ (r : Reading). report_on unmade 0 r.fields r.ends) worked_reading
    ∙ on_done unmade worked_fields whole
    ∙ ap (λ (t : Bool). cond t full_line (lines_from played 0)) computed.goes_on
    ∙ all_lines
    ∙ ap (λ (d : ℤ). first_line d ++ (second_line ++ [])) short
    ∙ ap (λ (b : List ℕ). first_line (negsuc 2621439) ++ b) (append-nil second_line)
    ∙ worked_report
