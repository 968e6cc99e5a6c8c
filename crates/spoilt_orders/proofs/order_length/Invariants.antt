use Prim.Native.Nat.{◌-◌}
use Rattle.spoilt_orders.proofs.Steps.{Walking}
use Rattle.spoilt_orders.proofs.order_length.Given as goal

abbrev pub invariant-loop-h : goal.invariant-loop-h
invariant-loop-h l = Walking l.b l.k l.start l.met l.h l.least l.last

abbrev pub decreases-loop-h : goal.decreases-loop-h
decreases-loop-h l = 64 - l.met
