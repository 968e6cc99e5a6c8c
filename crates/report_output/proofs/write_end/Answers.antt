-- `report_output::write_end` meets its contract. Assumes nothing.
use Rattle.std.proofs.Common.{rules, refl, sym, ap, subst, ◌∙◌, [], ◌++◌, append_assoc, List, ℕ, take}
use Rattle.std.proofs.lemmas.List.{append-nil}
use Rattle.std.specs.Io.KnownBytes.{Appends}
use Rattle.reporting.specs.Feeding.{held, rest_of}
use Rattle.reporting.proofs.Feeding.{over_rest}
use Rattle.log_input.proofs.Telling.{appends_nothing, appends_on}
use Rattle.report_output.proofs.Calls.{closed_done, places_fall}
use Rattle.report_output.proofs.write_end.Goals as goal

pub loop-s-init : goal.loop-s-init
loop-s-init g c = record { told = ([], (appends_nothing (g.W.Write.contents c.args.report.now), refl)); fit = λ z. z }

pub loop-s-preserved : goal.loop-s-preserved
loop-s-preserved g c =
    let fed = c.in_ok-fed.fed in
    let done = closed_done _ _ _ _ _ _ _ _ c.finish.ensures c.in_ok-fed.was in
    let written : Appends (g.W.Write.contents c.loop-s.report) (g.W.Write.contents c.write_all.new.self) (take fed.used c.finish.new.out) = search rules in
    let before = c.loop-s.invariant.told in
    record {
      told = (
        before.0 ++ take fed.used c.finish.new.out,
        (
          appends_on _ _ _ before.0 (take fed.used c.finish.new.out) before.1.0 written,
          append_assoc before.0 (take fed.used c.finish.new.out) (rest_of (held c.finish.new.s c.args.ids.now c.args.lens.now) [])
              ∙ ap (λ (t : List ℕ). before.0 ++ t) done.closed.joined
              ∙ before.1.1,
        ),
      );
      fit = λ z. done.goes_on;
    }

pub loop-s-smaller : goal.loop-s-smaller
loop-s-smaller g c =
    let done = closed_done _ _ _ _ _ _ _ _ c.finish.ensures c.in_ok-fed.was in places_fall _ _ _ _ (search rules) (done.moves (search rules))

pub returns-clause-told : goal.returns-clause-told
returns-clause-told g c =
    let before = c.loop-s.invariant.told in
    let none = over_rest (held c.loop-s.s c.args.ids.now c.args.lens.now) (search rules) [] in (
      search rules,
      subst (λ (t : List ℕ). Appends (g.W.Write.contents c.args.report.now) (g.W.Write.contents c.loop-s.report) t)
          (sym (append-nil before.0) ∙ ap (λ (t : List ℕ). before.0 ++ t) (sym none) ∙ before.1.1) before.1.0,
    )
