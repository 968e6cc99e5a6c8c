-- `units::next_start` meets its contract: the product is the definition. Assumes nothing.
use Rattle.units.specs.Classes.{next_start}
use Rattle.units.proofs.next_start.Goals as goal

pub returns : goal.returns
unfolding next_start
returns c = rw c.interval-step.ensures
