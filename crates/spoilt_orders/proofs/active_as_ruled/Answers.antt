-- `spoilt_orders::active_as_ruled` meets its contract: the set is that of the active classes. Assumes nothing.
use mathlib.Core.Path.{ap}
use lib.Dec.{eqb}
use Rattle.std.proofs.Common.{rules}
use Rattle.spoilt_orders.specs.Walks.{class_active, active_as_ruled}
use Rattle.spoilt_orders.proofs.active_as_ruled.Goals as goal

pub returns : goal.returns
unfolding active_as_ruled
returns c =
    let b = c.args.b.now in
    ap (eqb b.active) (c.set_of.ensures (class_active b.slot b.shares b.heads) (λ k t l p. search rules))
