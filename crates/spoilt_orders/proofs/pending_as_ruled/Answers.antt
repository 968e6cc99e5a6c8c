-- `spoilt_orders::pending_as_ruled` meets its contract: the set is that of the pending classes. Assumes nothing.
use mathlib.Core.Path.{ap}
use lib.Dec.{eqb}
use Rattle.std.proofs.Common.{rules}
use Rattle.spoilt_orders.specs.Walks.{class_pending, pending_as_ruled}
use Rattle.spoilt_orders.proofs.pending_as_ruled.Goals as goal

pub returns : goal.returns
unfolding pending_as_ruled
returns c =
    let b = c.args.b.now in
    ap (eqb b.pending) (c.set_of.ensures (class_pending b.clock b.ready b.heads) (λ k t l p. search rules))
