-- `report_output::write_fragment` meets its contract. From call to call the rest of the fragment gets shorter, and the
-- offset moves on. Assumes nothing.
use Rattle.std.proofs.Common.{arith, rules, ap, subst, List, ℕ, length, take}
use Rattle.std.proofs.lemmas.List.{drop-drop, length-drop}
use Rattle.std.specs.Io.KnownBytes.{Appends}
use Rattle.fragments.specs.Feeding.{Told}
use Rattle.reporting.specs.Feeding.{rest_of, held}
use Rattle.reporting.proofs.Feeding.{over_rest}
use Rattle.log_input.specs.Telling.{TellsPart}
use Rattle.log_input.proofs.Telling.{rest_from, part_on, part_over}
use Rattle.report_output.proofs.Calls.{fed_done, fed_low}
use Rattle.report_output.proofs.write_fragment.Goals as goal

pub loop-taken-preserved : goal.loop-taken-preserved
loop-taken-preserved g c =
    let fragment = c.args.fragment.now in
    let from = c.loop-taken.taken in
    let fed = c.in_ok-fed.fed in
    let done = fed_done _ _ _ _ _ _ _ _ _ _ _ c.feed.ensures c.in_ok-fed.was in
    let part = ap (length {A = ℕ}) (rest_from from fragment) in
    let told =
    subst (λ (t : List ℕ). Told rest_of (held c.loop-taken.s c.loop-taken.ids c.loop-taken.lens) t c.loop-taken.out fed.taken fed.used
    (held c.feed.new.s c.feed.new.ids c.feed.new.lens) c.feed.new.out) (rest_from from fragment) done.told in
    let written : Appends (g.W.Write.contents c.loop-taken.report) (g.W.Write.contents c.write_all.new.self) (take fed.used c.feed.new.out) = search rules in
    record {
      within = omega (arith, done.told.within, part, length-drop from fragment, c.loop-taken.invariant.within);
      onward = λ e. (
        omega (arith, done.onward e, (c.loop-taken.invariant.onward c.if-not-s.true).0),
        λ l. fed_low _ _ _ _ _ _ _ _ _ _ _ c.feed.ensures c.in_ok-fed.was e,
      );
      fit = λ z. done.goes_on;
      told =
          subst (λ (t : List ℕ). TellsPart rest_of (g.W.Write.contents c.args.report.now) (g.W.Write.contents c.write_all.new.self)
          (held c.args.s.now c.args.ids.now c.args.lens.now) (held c.feed.new.s c.feed.new.ids c.feed.new.lens) fragment t)
          (drop-drop fed.taken from fragment)
          (part_on rest_of _ _ _ _ _ _ c.loop-taken.invariant.told _ _ _ _ told.joined written);
    }

pub returns-else-not-s-clause-told : goal.returns-else-not-s-clause-told
returns-else-not-s-clause-told g c =
    part_over rest_of _ _ _ _ _ _ c.loop-taken.invariant.told (over_rest (held c.loop-taken.s c.loop-taken.ids c.loop-taken.lens) c.if-not-s.false)
