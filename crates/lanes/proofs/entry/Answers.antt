-- `lanes::entry` meets its contract: it is the ring's entry, as first entry and depth are the lane's, and it lies in
-- the tables (lane_inside). Assumes nothing.
use mathlib.Core.Path.{◌≡◌}
use native.Mathlib.Omega.{arith}
use Rattle.lanes.specs.Lanes.{lane_entry}
use Rattle.lanes.proofs.Lanes.{depth_positive, lane_inside}
use Rattle.lanes.proofs.entry.Goals as goal

pub ring_entry-requires : goal.ring_entry-requires
ring_entry-requires c = omega (arith, c.depth.ensures, depth_positive)

pub returns : goal.returns
returns c =
    let is : c.ring_entry.result ≡ lane_entry c.args.place c.args.start c.args.j = rw (← c.first_entry.ensures, ← c.depth.ensures) c.ring_entry.ensures in
    (is, rw is (lane_inside c.args.place c.args.start c.args.j c.requires))
