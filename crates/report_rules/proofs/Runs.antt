-- A report is made from a run of its log's calls, by what each field makes of board and counts; so its lines are short.
use mathlib.Core.Path.{◌≡◌, refl, sym, ap, subst, ◌∙◌}
use mathlib.Core.Bool.{Bool, true, false, cond}
use mathlib.Core.List.{List, [], ◌∷◌, ◌++◌}
use Prim.Native.Nat.{ℕ, zero, suc, ◌-◌, ◌^◌, ◌≤◌}
use native.Mathlib.Omega.{arith}
use lib.ListN.{length}
use lib.Dec.{ltb}
use lib.IntN.{pos, negsuc, ◌-ℤ◌, nat_abs}
use Rattle.base.proofs.Numbers.{true_le}
use Rattle.rules.specs.Board.{Board, at, is_open, fresh}
use Rattle.rules.specs.Blocks.{meant}
use Rattle.rules.specs.Calls.{Single, open!, rename!, close!, record!, serve!, step}
use Rattle.rules.specs.Runs.{play}
use Rattle.rules.specs.Promises.{InRange}
use Rattle.rules.proofs.Tidy.{Tidy}
use Rattle.rules.proofs.TidyCalls.{tidy_step}
use Rattle.rules.proofs.Unspoilt.{tidy_fresh}
use Rattle.accounts.specs.Accounts.{Account, got, due, Counts, no_counts, counted, count_row, CountsFit}
use Rattle.accounts.specs.Promises.{counts_of, Small}
use Rattle.accounts.proofs.Turns.{counted_idle, fits_step, fits_fresh}
use Rattle.accounts.proofs.Promises.{counts_small, slots_few}
use Rattle.log_bytes.specs.declared.Event.{Event}
use Rattle.log_bytes.specs.declared.Event.TheVariants.{Largest, Open, Close, Rename, Arrive, Serve, Passed}
use Rattle.log_bytes.specs.declared.End.{End}
use Rattle.log_bytes.specs.Format.{is_l}
use Rattle.log_bytes.specs.Rows.{WholeField, read_log, NoL, LFirst}
use Rattle.log_bytes.proofs.Fields.{differ}
use Rattle.log_bytes.proofs.Readings.{log_row}
use Rattle.report_lines.specs.Text.{account_line}
use Rattle.report_lines.proofs.Fitting.{counted_fits}
use Rattle.report_rules.specs.Report.{Reporting, unmade, field_counted, difference, place_line, report_end, report_on, report_of}
use Rattle.report_rules.specs.Laws.{call_in, calls_in, ReportOfRun, LBegins, LinesShort}

abbrev on : Board → Counts → Reporting
on b c = record { board = b; counts = c }

-- ---- Fields and calls

-- one field, and the report of what its call leaves, if the others' is that of their calls
by_field : (b : Board) (c : Counts) (p : ℕ) (fs : List WholeField) (e : End) → CountsFit b c
    → ((x : Single) → report_on (on (step b x).next (counted b (step b x) c)) p fs e
    ≡ report_end (on (play (step b x).next (calls_in fs)) (count_row (step b x).next (calls_in fs) (counted b (step b x) c))) p e)
    → report_on (on b c) p fs e ≡ report_end (on (play b (calls_in fs)) (count_row b (calls_in fs) c)) p e
    → (v : Event) → is_l v ≡ false
    → report_on (field_counted (on b c) v) p fs e ≡ report_end (on (play b (call_in v ++ calls_in fs)) (count_row b (call_in v ++ calls_in fs) c)) p e
unfolding play count_row
by_field b c p fs e h called idle (Largest l) k = differ k
by_field b c p fs e h called idle (Open o) k = called (open! (meant o))
by_field b c p fs e h called idle (Close block) k = called (close! block)
by_field b c p fs e h called idle (Rename old new) k = called (rename! old new)
by_field b c p fs e h called idle (Arrive block number bytes) k = called (record! block (record { number = number; bytes = bytes }))
by_field b c p fs e h called idle Serve k = called serve!
by_field b c p fs e h called idle Passed k = ap (λ (d : Counts). report_on (on b d) p fs e) (counted_idle b c h) ∙ idle

by_run : (b : Board) (c : Counts) (p : ℕ) (fs : List WholeField) (e : End) → Tidy b → CountsFit b c → NoL fs
    → report_on (on b c) p fs e ≡ report_end (on (play b (calls_in fs)) (count_row b (calls_in fs) c)) p e
unfolding report_on calls_in play count_row
by_run b c p [] e g h n = refl
by_run b c p (f ∷ fs) e g h n =
    by_field b c p fs e h (λ x. by_run (step b x).next (counted b (step b x) c) p fs e (tidy_step b x g) (fits_step b g x c h) n.1)
    (by_run b c p fs e g h n.1) f.event n.0

-- ---- A log's first field

size_of : Event → ℕ
size_of (Largest l) = l
size_of (Open o) = 0
size_of (Close block) = 0
size_of (Rename old new) = 0
size_of (Arrive block number bytes) = 0
size_of Serve = 0
size_of Passed = 0

l_first : (log : List ℕ) (f : WholeField) (fs : List WholeField) → (read_log log).fields ≡ f ∷ fs → LFirst (f ∷ fs)
l_first log f fs h = subst LFirst h (log_row log).first

pub l_begins : LBegins
l_begins log f fs h = let w = (l_first log f fs h).0 in (w.0, w.1.0)

pub report_of_run : ReportOfRun
unfolding report_of report_on size_of
report_of_run log l f fs h e = (
  range,
  ap (λ (gs : List WholeField). report_on unmade 0 gs ends) h ∙ ap (λ (v : Event). report_on (field_counted unmade v) 0 fs ends) e
      ∙ by_run (fresh l) no_counts 0 fs ends (tidy_fresh l range.low range.high) (fits_fresh l) first.1,
)
  where
    ends : End
    ends = (read_log log).ends

    first : LFirst (f ∷ fs)
    first = l_first log f fs h

    range : InRange l
    range =
        let w = first.0 in
        let same : w.0 ≡ l = ap size_of (sym w.1.0 ∙ e) in
        record { low = subst (λ (n : ℕ). 64 ≤ n) same w.1.1.0; high = subst (λ (n : ℕ). n ≤ 2048) same w.1.1.1 }

-- ---- The room of a line

-- the difference of two numbers is no larger than the larger
size_sub : (h a b : ℕ) → a ≤ h → b ≤ h → nat_abs (pos a -ℤ pos b) ≤ h
size_sub h a zero p q = omega arith
size_sub h a (suc n) p q = go (ltb a (suc n))
  where
    go : (t : Bool) → nat_abs (cond t (negsuc (suc n - suc a)) (pos (a - suc n))) ≤ h
    go true = omega arith
    go false = omega arith

pub lines_short : LinesShort
unfolding place_line
lines_short L r xs f p h number = go (is_open (at (play (fresh L) xs) p)) refl
  where
    b : Board
    b = play (fresh L) xs

    a : Account
    a = (counts_of L xs).accounts p

    small : Small ((counts_of L xs).accounts p)
    small = counts_small L r xs p

    go : (t : Bool) → is_open (at b p) ≡ t
        → length (cond t (account_line (at b p).number a.slots a.credit a.bytes (difference a) a.lost) []) ≤ 101
    go false e = omega arith
    go true e =
        counted_fits (at b p).number a.slots a.credit a.bytes (difference a) a.lost number
        (slots_few L r xs f p (at b p).number (record { inside = h; bought = true_le 1 (at b p).share e; named = refl }))
        small.credit (omega (arith, small.got, small.credit))
        (size_sub (2 ^ 62) (got a) (due a) (omega (arith, small.got, small.credit)) small.credit)
        (omega (arith, small.lost, small.credit))
