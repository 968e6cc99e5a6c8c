-- `lanes::ring_on` meets its contract: the remainder is the definition. Assumes nothing.
use Rattle.lanes.specs.Lanes.{ring_on}
use Rattle.lanes.proofs.ring_on.Goals as goal

pub returns : goal.returns
unfolding ring_on
returns c = rw (c.from.ensures, c.from-2.ensures)
