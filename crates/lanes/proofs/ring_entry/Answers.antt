-- `lanes::ring_entry` meets its contract: the sum is the definition. Assumes nothing.
use Rattle.lanes.specs.Lanes.{ring_entry}
use Rattle.lanes.proofs.ring_entry.Goals as goal

pub returns : goal.returns
unfolding ring_entry
returns c = rw (c.from.ensures, c.from-2.ensures, c.from-3.ensures, c.from-4.ensures)
