-- `taking::join_in` meets its contract: where the order is empty the block is its first; else it stands behind the
-- last. Assumes nothing.
use borrow.Author.Tests.{eq-eqb, ne_eqb}
use Rattle.taking.specs.Taking.{joined_orders}
use Rattle.taking.proofs.join_in.Goals.{then-last-eq-NO_LINK, else-last-eq-NO_LINK}
use Rattle.taking.proofs.join_in.Goals as goal

pub returns-clause-joined : goal.returns-clause-joined
unfolding joined_orders
returns-clause-joined c =
    elim c.if-last-eq-NO_LINK.branch [
      | then-last-eq-NO_LINK w ↦ rw (c.with_bit-b.ensures, w.b-is, eq-eqb _ _ w.if-last-eq-NO_LINK.true)
      | else-last-eq-NO_LINK w ↦ rw (c.with_bit-b.ensures, w.b-is, ne_eqb _ _ w.if-last-eq-NO_LINK.false)
    ]
