-- `taking::record_in` meets its contract: each refusal by its test, in turn; the place that is found is one of the 64
-- and its block has a share (found_at_lem, found_bought), and the entry of the record lies in the tables. Assumes
-- nothing.
use Rattle.finding.proofs.Finding.{found_at_lem, found_bought}
use Rattle.taking.specs.Taking.{recorded_in}
use borrow.Author.Tests.{lt-leb, le-leb}
use mathlib.Core.Path.{sym, ◌∙◌}
use Rattle.taking.proofs.record_in.Goals as goal

pub returns-then-outside-clause-recorded : goal.returns-then-outside-clause-recorded
unfolding recorded_in
returns-then-outside-clause-recorded c = rw (sym c.outside.ensures ∙ c.if-outside.true)

pub returns-in_default-clause-recorded : goal.returns-in_default-clause-recorded
unfolding recorded_in
returns-in_default-clause-recorded c =
    rw (sym c.outside.ensures ∙ c.if-outside.false, ← c.find.ensures.found, c.in_default.is)

pub returns-then-depth-before-clause-recorded : goal.returns-then-depth-before-clause-recorded
unfolding recorded_in
returns-then-depth-before-clause-recorded c =
    rw (sym c.outside.ensures ∙ c.if-outside.false, ← c.find.ensures.found, c.in-Some.is, ← c.depth.ensures, le-leb _ _ c.if-depth-before.true)

pub take_in-requires : goal.take_in-requires
take_in-requires c =
    record {
      place = (found_at_lem _ _ _ (sym c.find.ensures.found ∙ c.in-Some.is)).inside;
      room = rw (← c.depth.ensures) c.if-depth-before.false;
      low = found_bought c.args.b.now.numbers c.args.b.now.shares c.args.block _ (sym c.find.ensures.found ∙ c.in-Some.is) c.requires.low;
      high = c.requires.high _;
      time = c.requires.time;
      last = c.requires.last;
    }

pub returns-clause-recorded : goal.returns-clause-recorded
unfolding recorded_in
returns-clause-recorded c =
    rw (
      sym c.outside.ensures ∙ c.if-outside.false,
      ← c.find.ensures.found,
      c.in-Some.is,
      ← c.entry-entry.ensures.0,
      ← c.depth.ensures,
      lt-leb _ _ c.if-depth-before.false,
      c.take_in.ensures.taken,
    )
