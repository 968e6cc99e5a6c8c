-- `blocks::close_in` meets its contract: each refusal by its test, in turn; the block of the place that is found has a
-- share (found_bought). Assumes nothing.
use Rattle.finding.proofs.Finding.{found_bought}
use Rattle.blocks.specs.Blocks.{closed_in}
use borrow.Author.Tests.{lt-ltb, le-ltb}
use mathlib.Core.Path.{sym}
use Rattle.blocks.proofs.close_in.Goals as goal

pub returns-in_default-clause-closed : goal.returns-in_default-clause-closed
unfolding closed_in
returns-in_default-clause-closed c = rw (← c.in_default.ensures.found)

pub returns-then-b-place-gt0-clause-closed : goal.returns-then-b-place-gt0-clause-closed
unfolding closed_in
returns-then-b-place-gt0-clause-closed c = rw (← c.in-Some.ensures.found, lt-ltb _ _ c.if-b-place-gt0.true)

pub hold_in-requires : goal.hold_in-requires
hold_in-requires c = (
  found_bought c.args.b.now.numbers c.args.b.now.shares c.args.block _ (sym c.in-Some.ensures.found) c.requires.low,
  (c.requires.high _, c.requires.most),
)

pub returns-clause-closed : goal.returns-clause-closed
unfolding closed_in
returns-clause-closed c = rw (← c.in-Some.ensures.found, le-ltb _ _ c.if-b-place-gt0.false, c.hold_in.ensures)
