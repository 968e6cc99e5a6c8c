-- `units::charge` meets its contract: the product is the definition, and fits, since the length is below 2^32.
-- Assumes nothing.
use native.Mathlib.Omega.{arith}
use Rattle.units.specs.Credit.{framing, charged, charge_of}
use Rattle.units.proofs.charge.Goals as goal

pub overflow_mul-result : goal.overflow_mul-result
unfolding framing charged
overflow_mul-result c = record { fits = omega arith }

pub returns : goal.returns
unfolding charge_of
returns c = rw c.charged.ensures
