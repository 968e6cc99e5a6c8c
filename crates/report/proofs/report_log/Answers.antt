-- `report::report_log` meets its contract. From fragment to fragment the state is not refused, and its offset rises,
-- which is at most 2^48. Assumes nothing.
use Rattle.std.proofs.Common.{◌≡◌, false, ◌^◌, ◌≤◌, ◌<◌, rules, arith, refl, replicate}
use Rattle.report_rules.specs.Report.{report_of}
use Rattle.report_play.specs.Playing.{offset_of}
use Rattle.reporting.specs.Feeding.{before_first, held, rest_of}
use Rattle.reporting.proofs.Feeding.{over_rest}
use Rattle.report.proofs.Begins.{before_first_rest, before_first_ready}
use Rattle.log_input.specs.Telling.{TellsOn}
use Rattle.log_input.proofs.Telling.{on_none, on_join, on_over, bytes_fall}
use Rattle.report.proofs.report_log.Goals as goal

pub loop-state-init : goal.loop-state-init
loop-state-init g c = record {
  fragment_all = refl;
  out_all = refl;
  low = rw c.begin-state.ensures (λ e. omega arith);
  fit = rw c.begin-state.ensures (before_first_ready (replicate 2048 0) (replicate 2048 0) (search rules) (search rules));
  told = rw c.begin-state.ensures (on_none rest_of _ _ (held before_first (replicate 2048 0) (replicate 2048 0)));
}

pub loop-state-smaller : goal.loop-state-smaller
loop-state-smaller g c =
    let on : c.report_next.new.s.over ≡ false → (offset_of c.loop-state.state < offset_of c.report_next.new.s) × (offset_of c.report_next.new.s ≤ 2 ^ 48) =
    search rules in
    bytes_fall _ _ _ _ (search rules) (c.loop-state.invariant.low (search rules)) (λ e. (on e).0)

pub loop-state-preserved : goal.loop-state-preserved
loop-state-preserved g c =
    let on : c.report_next.new.s.over ≡ false → (offset_of c.loop-state.state < offset_of c.report_next.new.s) × (offset_of c.report_next.new.s ≤ 2 ^ 48) =
    search rules in
    let told : TellsOn rest_of (g.R.Read.remaining c.loop-state.log) (g.R.Read.remaining c.report_next.new.log) (g.W.Write.contents c.loop-state.report)
    (g.W.Write.contents c.report_next.new.report) (held c.loop-state.state c.loop-state.ids c.loop-state.lens)
    (held c.report_next.new.s c.report_next.new.ids c.report_next.new.lens) = search rules in
    record {
      fragment_all = search rules;
      out_all = search rules;
      low = λ e. (on e).1;
      fit = search rules;
      told = on_join rest_of _ _ _ _ _ _ _ _ _ c.loop-state.invariant.told told;
    }

pub returns-clause-told : goal.returns-clause-told
returns-clause-told g c =
    on_over rest_of report_of _ _ _ _ _ _ (λ bytes. before_first_rest bytes (replicate 2048 0) (replicate 2048 0))
    (over_rest (held c.loop-state.state c.loop-state.ids c.loop-state.lens) (search rules)) c.loop-state.invariant.told
