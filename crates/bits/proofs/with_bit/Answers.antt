-- `bits::with_bit` meets its contract: the shifted 1 is 2^k (shl_one), and the rest is the definition. Assumes nothing.
use Rattle.bits.proofs.Bits.{shl_one}
use Rattle.bits.specs.Sets.{with_bit}
use Rattle.bits.proofs.with_bit.Goals as goal

pub returns : goal.returns
unfolding with_bit
returns c = rw (shl_one c.args.k c.requires)
