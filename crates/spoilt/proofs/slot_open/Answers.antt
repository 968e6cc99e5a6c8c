-- `spoilt::slot_open` meets its contract: three times the charge of L fits, since L is below 2^32. Assumes nothing.
use native.Mathlib.Omega.{arith}
use Rattle.units.specs.Credit.{charge_of, charged, framing}
use Rattle.spoilt.proofs.slot_open.Goals as goal

pub overflow_mul-most : goal.overflow_mul-most
unfolding charge_of charged framing
overflow_mul-most c = omega (arith, c.charge-most.ensures)
