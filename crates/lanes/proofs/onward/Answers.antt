-- `lanes::onward` meets its contract: the ring's depth is the lane's, which is not 0 (depth_positive). Assumes nothing.
use native.Mathlib.Omega.{arith}
use Rattle.lanes.proofs.Lanes.{depth_positive}
use Rattle.lanes.proofs.onward.Goals as goal

pub ring_on-requires : goal.ring_on-requires
ring_on-requires c = omega (arith, c.depth.ensures, depth_positive)
