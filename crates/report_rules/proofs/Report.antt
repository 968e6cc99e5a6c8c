-- Laws of the report, by which its player goes: one field and the report of what follows it.
use mathlib.Core.Path.{◌≡◌, refl, ap, ◌∙◌}
use mathlib.Core.Bool.{Bool, true, false, cond, ◌||◌}
use mathlib.Core.List.{List, [], ◌∷◌}
use Prim.Native.Nat.{ℕ, suc}
use native.Mathlib.Omega.{arith}
use lib.ListN.{length}
use Rattle.rules.specs.Board.{Board}
use Rattle.rules.specs.Blocks.{meant}
use Rattle.rules.specs.Calls.{open!, rename!, close!, record!, serve!, step}
use Rattle.accounts.specs.Accounts.{overfull, counted}
use Rattle.log_bytes.specs.declared.Event.{Event}
use Rattle.log_bytes.specs.declared.Event.TheVariants.{Largest, Open, Close, Rename, Arrive, Serve, Passed}
use Rattle.log_bytes.specs.declared.End.{End}
use Rattle.log_bytes.specs.declared.End.TheVariants.{Broken as broken, Long as long}
use Rattle.log_bytes.specs.Format.{is_l}
use Rattle.log_bytes.specs.Rows.{WholeField, Reading, read_from, read_log, NoL}
use Rattle.log_bytes.proofs.Fields.{differ}
use Rattle.log_bytes.proofs.Readings.{reads, no_l, read_whole, read_ends, read_cut, end_cut}
use Rattle.listing_rules.specs.Events.{turn_of}
use Rattle.report_lines.specs.Text.{full_line}
use Rattle.report_rules.specs.Report.{Reporting, field_counted, by_end, report_end, report_on, report_of}
use Rattle.report_rules.specs.Laws.{ReportWhole, ReportEnds, ReportCut, ReportBroken, ReportPart, ReportLong, ReportFirst, SameBoard, StaysFull}

-- the report of a reading
abbrev reported : Reporting → (p : ℕ) → Reading → List ℕ
reported r p x = report_on r p x.fields x.ends

-- a whole field is counted, and the report goes on from its end
pub report_whole : ReportWhole
unfolding report_on
report_whole r p at bytes stage e size h = ap (reported r p) (read_whole at bytes stage e size h)

-- the log's end makes the report
pub report_ends : ReportEnds
unfolding report_on
report_ends r p at bytes stage e h = ap (reported r p) (read_ends at bytes stage e h)

pub report_cut : ReportCut
unfolding report_on
report_cut r p at bytes stage came h = ap (reported r p) (read_cut at bytes stage came h)

-- a log that breaks or is long before the counting has stopped gives that one line
end_alone : (r : Reporting) (p : ℕ) (e : End) → r.counts.full ≡ false → report_end r p e ≡ by_end r p e
unfolding report_end
end_alone r p e k = ap (λ (t : Bool). cond t full_line (by_end r p e)) k

pub report_broken : ReportBroken
report_broken r p at bytes stage n h k = report_ends r p at bytes stage (broken n) h ∙ end_alone r p (broken n) k

pub report_part : ReportPart
report_part r p at bytes stage came h l k =
    report_cut r p at bytes stage came h ∙ ap (report_end r p) (end_cut at came stage l) ∙ end_alone r p (broken at) k

pub report_long : ReportLong
report_long r p at bytes stage h k = report_ends r p at bytes stage long h ∙ end_alone r p long k

-- a log is read from its first byte
pub report_first : ReportFirst
unfolding report_of read_log
report_first log = refl

-- the board of every field but L is that of its call
pub same_board : SameBoard
same_board r q (Largest l) h = refl
same_board r q (Open o) h = ap (λ (b : Board). (step b (open! (meant o))).next) h
same_board r q (Close block) h = ap (λ (b : Board). (step b (close! block)).next) h
same_board r q (Rename old new) h = ap (λ (b : Board). (step b (rename! old new)).next) h
same_board r q (Arrive block number bytes) h =
    ap (λ (b : Board). (step b (record! block (record { number = number; bytes = bytes }))).next) h
same_board r q Serve h = ap (λ (b : Board). (step b serve!).next) h
same_board r q Passed h = h

-- ---- once it has stopped, the counting stays so

still_full : (r : Reporting) (e : Event) → r.counts.full ≡ true → is_l e ≡ false → (field_counted r e).counts.full ≡ true
unfolding counted
still_full r e h k = go e k
  where
    on : (x : Event) → r.counts.full || overfull r.board (turn_of r.board x).out r.counts.accounts ≡ true
    on x = ap (λ (t : Bool). t || overfull r.board (turn_of r.board x).out r.counts.accounts) h

    go : (e : Event) → is_l e ≡ false → (field_counted r e).counts.full ≡ true
    go (Largest l) k = differ k
    go (Open o) k = on (Open o)
    go (Close block) k = on (Close block)
    go (Rename old new) k = on (Rename old new)
    go (Arrive block number bytes) k = on (Arrive block number bytes)
    go Serve k = on Serve
    go Passed k = on Passed

full_on : (fs : List WholeField) (e : End) (r : Reporting) (p : ℕ) → NoL fs → r.counts.full ≡ true → report_on r p fs e ≡ full_line
unfolding report_on report_end
full_on [] e r p n h = ap (λ (t : Bool). cond t full_line (by_end r p e)) h
full_on (f ∷ fs) e r p n h = full_on fs e (field_counted r f.event) p n.1 (still_full r f.event h n.0)

pub stays_full : StaysFull
unfolding read_from
stays_full r p at bytes stage past h =
    let x = read_from at bytes stage in
    let row = reads (suc (length bytes)) at bytes stage (omega arith) in
    full_on x.fields x.ends r p (no_l at bytes stage x.fields x.ends past row) h
