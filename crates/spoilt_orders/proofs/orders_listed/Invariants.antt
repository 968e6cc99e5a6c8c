use Rattle.spoilt_orders.proofs.Steps.{Listed}
use Rattle.spoilt_orders.proofs.orders_listed.Given as goal

abbrev pub invariant-loop-k : goal.invariant-loop-k
invariant-loop-k l = Listed l.b l.k l.total
