-- `bits::without_bit` meets its contract: all bits but k are those of the set (clear_is). Assumes nothing.
use native.Mathlib.Omega.{arith}
use Rattle.bits.proofs.Bits.{clear_is}
use Rattle.bits.proofs.without_bit.Goals as goal

pub returns : goal.returns
returns c = clear_is c.args.set c.args.k (omega arith) c.requires
