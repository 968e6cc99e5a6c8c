-- `listing::list_fragment` meets its contract. From call to call the state is not refused, and the rest of the fragment
-- gets shorter. Assumes nothing.
use Rattle.std.proofs.Common.{arith, ap, subst, List, ℕ, length}
use Rattle.std.proofs.lemmas.List.{drop-drop, length-drop}
use Rattle.fragments.specs.Feeding.{Told}
use Rattle.player.specs.Feeding.{rest_of, held}
use Rattle.player.proofs.Feeding.{over_rest}
use Rattle.log_input.specs.Telling.{TellsPart}
use Rattle.log_input.proofs.Telling.{rest_from, part_on, part_over}
use Rattle.listing.proofs.Calls.{fed_done}
use Rattle.listing.proofs.list_fragment.Goals as goal

pub loop-taken-preserved : goal.loop-taken-preserved
loop-taken-preserved g c =
    let fragment = c.args.fragment.now in
    let from = c.loop-taken.taken in
    let done = fed_done _ _ _ _ _ _ _ _ _ _ _ c.feed.ensures c.unwrap-fed.ensures c.loop-taken.invariant.fit in
    let part = ap (length {A = ℕ}) (rest_from from fragment) in
    let told =
    subst (λ (t : List ℕ). Told rest_of (held c.loop-taken.s c.loop-taken.ids c.loop-taken.lens) t c.loop-taken.out c.unwrap-fed.result.taken
    c.unwrap-fed.result.used (held c.feed.new.s c.feed.new.ids c.feed.new.lens) c.feed.new.out) (rest_from from fragment) done.told in
    record {
      within = omega (arith, done.told.within, part, length-drop from fragment, c.loop-taken.invariant.within);
      fit = done.goes_on;
      onward = λ e. omega (arith, done.onward e, c.loop-taken.invariant.onward c.if-not-s.true);
      listed =
          subst (λ (t : List ℕ). TellsPart rest_of (g.W.Write.contents c.args.listing.now) (g.W.Write.contents c.write_all.new.self)
          (held c.args.s.now c.args.ids.now c.args.lens.now) (held c.feed.new.s c.feed.new.ids c.feed.new.lens) fragment t)
          (drop-drop c.unwrap-fed.result.taken from fragment)
          (part_on rest_of _ _ _ _ _ _ c.loop-taken.invariant.listed _ _ _ _ told.joined c.in_ok-write_all.ensures.bytes);
    }

pub returns-else-not-s-clause-listed : goal.returns-else-not-s-clause-listed
returns-else-not-s-clause-listed g c =
    part_over rest_of _ _ _ _ _ _ c.loop-taken.invariant.listed (over_rest (held c.loop-taken.s c.loop-taken.ids c.loop-taken.lens) c.if-not-s.false)
