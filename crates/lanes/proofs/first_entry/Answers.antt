-- `lanes::first_entry` meets its contract: the product is the definition, and fits, since the place is one of the 64.
-- Assumes nothing.
use mathlib.Core.Path.{refl}
use Rattle.lanes.specs.Lanes.{lane_depth, lane_first}
use Rattle.lanes.proofs.first_entry.Goals as goal

pub returns : goal.returns
unfolding lane_first lane_depth
returns c = refl
