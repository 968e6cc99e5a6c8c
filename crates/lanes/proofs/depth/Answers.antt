-- `lanes::depth` meets its contract: the constant is the definition's. Assumes nothing.
use mathlib.Core.Path.{refl}
use Rattle.lanes.specs.Lanes.{lane_depth}
use Rattle.lanes.proofs.depth.Goals as goal

pub returns : goal.returns
unfolding lane_depth
returns c = refl
