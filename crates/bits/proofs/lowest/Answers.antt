-- `bits::lowest` meets its contract: the zero bits below the lowest 1 are the classes before the first one in the set
-- (lowest_zeros). Assumes nothing.
use mathlib.Core.Path.{sym}
use Rattle.bits.specs.Sets.{lowest_bit}
use Rattle.bits.proofs.Sets.{lowest_zeros}
use Rattle.bits.proofs.lowest.Goals as goal

pub returns : goal.returns
unfolding lowest_bit
returns c = sym (lowest_zeros 32 c.args.set)
