-- `report_output::report_next` meets its contract where the log has ended: what is left is written. Assumes nothing.
use Rattle.std.proofs.Common.{rules, ap, ◌∙◌, [], ◌++◌, List, ℕ}
use Rattle.std.proofs.lemmas.List.{append-nil}
use Rattle.std.proofs.lemmas.Result.{on_ok_weaker}
use Rattle.std.specs.Io.KnownBytes.{Consumes, IsAtEnd}
use Rattle.reporting.specs.Feeding.{held, rest_of}
use Rattle.reporting.proofs.Feeding.{over_rest}
use Rattle.log_input.proofs.Telling.{on_end}
use Rattle.report_output.proofs.report_next.Goals as goal

pub returns-then-n-eq0-clause-told : goal.returns-then-n-eq0-clause-told
returns-then-n-eq0-clause-told g c =
    let left = rest_of (held c.args.s.now c.args.ids.now c.args.lens.now) [] in
    let after = held c.write_end.new.s c.args.ids.now c.args.lens.now in
    let came : Consumes (g.R.Read.remaining c.args.log.now) (g.R.Read.remaining c.next_fragment.new.log) [] = search rules in
    let ended : IsAtEnd (g.R.Read.remaining c.next_fragment.new.log) = search rules in
    on_ok_weaker c.write_end.result
    (λ p. on_end rest_of _ _ _ _ _ _ left came ended p.1 (ap (λ (t : List ℕ). left ++ t) (over_rest after p.0 []) ∙ append-nil left))
    c.write_end.ensures.told
