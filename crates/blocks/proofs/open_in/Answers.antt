-- `blocks::open_in` meets its contract: each refusal by its test, in turn (by_some, by_none, free_none, free_in).
-- Assumes nothing.
use Rattle.arrays.proofs.Totals.{total_plain}
use Rattle.finding.proofs.Finding.{by_some, by_none, free_none, free_in}
use Rattle.board.specs.Memory.{blocks_of}
use Rattle.blocks.specs.Blocks.{answered, opened_in}
use borrow.Author.Tests.{ne_eqb, lt-ltb, le-ltb}
use mathlib.Core.Path.{sym, ◌∙◌}
use native.Mathlib.Omega.{arith}
use Rattle.blocks.proofs.open_in.Goals as goal

pub returns-then-outside-clause-opened : goal.returns-then-outside-clause-opened
unfolding opened_in
returns-then-outside-clause-opened c = rw (sym c.outside.ensures ∙ c.if-outside.true)

pub returns-then-is_some-clause-opened : goal.returns-then-is_some-clause-opened
unfolding opened_in
returns-then-is_some-clause-opened c =
    rw (sym c.outside.ensures ∙ c.if-outside.false, ← c.find.ensures.found, by_some _ (answered 5 (blocks_of c.args.b.now)) _ (sym c.if-is_some.ensures))

pub returns-in_default-clause-opened : goal.returns-in_default-clause-opened
unfolding opened_in
returns-in_default-clause-opened c =
    rw (
      sym c.outside.ensures ∙ c.if-outside.false,
      ← c.find.ensures.found,
      by_none _ _ _ (sym c.if-is_some.ensures),
      free_none _ (sym c.in_default.ensures.found),
    )

pub returns-then-sum-opening-gt-WHOLE_LINE-clause-opened : goal.returns-then-sum-opening-gt-WHOLE_LINE-clause-opened
unfolding opened_in
returns-then-sum-opening-gt-WHOLE_LINE-clause-opened c =
    let free = free_in _ _ (sym c.in-Some.ensures.found) in
    rw (
      sym c.outside.ensures ∙ c.if-outside.false,
      ← c.find.ensures.found,
      by_none _ _ _ (sym c.if-is_some.ensures),
      ← free.0,
      ne_eqb c.in-Some.place 64 (λ z. omega (arith, free.1, z)),
      ← total_plain _ _ c.sum.ensures.total,
      ← total_plain _ _ c.sum-2.ensures.total,
      lt-ltb _ _ c.if-sum-opening-gt-WHOLE_LINE.true,
    )

pub returns-clause-opened : goal.returns-clause-opened
unfolding opened_in
returns-clause-opened c =
    let free = free_in _ _ (sym c.in-Some.ensures.found) in
    rw (
      sym c.outside.ensures ∙ c.if-outside.false,
      ← c.find.ensures.found,
      by_none _ _ _ (sym c.if-is_some.ensures),
      ← free.0,
      ne_eqb c.in-Some.place 64 (λ z. omega (arith, free.1, z)),
      ← total_plain _ _ c.sum.ensures.total,
      ← total_plain _ _ c.sum-2.ensures.total,
      le-ltb _ _ c.if-sum-opening-gt-WHOLE_LINE.false,
    )
