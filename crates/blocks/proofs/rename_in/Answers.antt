-- `blocks::rename_in` meets its contract: each refusal by its test, in turn (by_some, by_none). Assumes nothing.
use Rattle.finding.proofs.Finding.{by_some, by_none}
use Rattle.blocks.specs.Blocks.{renaming, renamed_in}
use borrow.Author.Tests.{eq-eqb, ne_eqb}
use mathlib.Core.Path.{sym}
use Rattle.blocks.proofs.rename_in.Goals as goal

pub returns-then-new-eq-NO_BLOCK-clause-renamed : goal.returns-then-new-eq-NO_BLOCK-clause-renamed
unfolding renamed_in
returns-then-new-eq-NO_BLOCK-clause-renamed c = rw (eq-eqb _ _ c.if-new-eq-NO_BLOCK.true)

pub returns-in_default-clause-renamed : goal.returns-in_default-clause-renamed
unfolding renamed_in
returns-in_default-clause-renamed c =
    rw (ne_eqb _ _ c.if-new-eq-NO_BLOCK.false, ← c.in_default.ensures.found)

pub returns-then-is_some-clause-renamed : goal.returns-then-is_some-clause-renamed
unfolding renamed_in
returns-then-is_some-clause-renamed c =
    rw (
      ne_eqb _ _ c.if-new-eq-NO_BLOCK.false,
      ← c.in-Some.ensures.found,
      ← c.find-2.ensures.found,
      by_some _ (renaming 5 c.args.b.now.numbers) _ (sym c.if-is_some.ensures),
    )

pub returns-clause-renamed : goal.returns-clause-renamed
unfolding renamed_in
returns-clause-renamed c =
    rw (ne_eqb _ _ c.if-new-eq-NO_BLOCK.false, ← c.in-Some.ensures.found, ← c.find-2.ensures.found, by_none _ _ _ (sym c.if-is_some.ensures))
