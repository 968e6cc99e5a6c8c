-- Before the first byte of a log its report is still to be written, and no call is refused. Assumes nothing.
use Rattle.std.proofs.Common.{◌≡◌, refl, sym, ap, ◌∙◌, arith, List, ℕ, length}
use Rattle.log_bytes.specs.declared.Stage.TheVariants.{BeforeL}
use Rattle.log_bytes.proofs.Wholes.{none_come}
use Rattle.fragments.proofs.Kept.{kept_none, fit_is}
use Rattle.report_rules.specs.Report.{unmade, report_from, report_of}
use Rattle.report_rules.proofs.Report.{report_first}
use Rattle.reporting.specs.Feeding.{before_first, feed_code, held, rest_of}
use Rattle.reporting.proofs.Codes.{can_code, can_before}
use Rattle.reporting.proofs.Feeding.{before_rest}

pub before_first_rest : (log ids lens : List ℕ) → rest_of (held before_first ids lens) log ≡ report_of log
before_first_rest log ids lens =
    before_rest before_first ids lens refl refl log ∙ ap (λ (t : List ℕ). report_from unmade 0 0 t BeforeL) (kept_none before_first.reader.kept log)
    ∙ sym (report_first log)

pub before_first_ready : (ids lens : List ℕ) → length ids ≡ 2048 → length lens ≡ 2048 → feed_code before_first ids lens ≡ 0
before_first_ready ids lens a d =
    let fits = fit_is 0 before_first.reader.kept 0 BeforeL (none_come 0 before_first.reader.kept BeforeL) (omega arith) in
    can_code before_first ids lens (can_before before_first ids lens a d fits refl refl)
