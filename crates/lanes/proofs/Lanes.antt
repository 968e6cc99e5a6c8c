-- Laws of the lanes: the only ones that look at how deep a lane is.
use mathlib.Core.Path.{◌≡◌, sym}
use mathlib.Core.Logic.{◌⊎◌, inl, inr}
use Prim.Native.Nat.{ℕ, ◌+◌, ◌≤◌, ◌<◌}
use native.Mathlib.Nat.{le_antisymm}
use native.Mathlib.Omega.{arith}
use Rattle.base.proofs.Numbers.{split}
use Rattle.lanes.specs.Lanes.{lane_depth, lane_first, lane_entry}
use Rattle.lanes.specs.Laws.{DepthPositive, DepthMost, LaneInside, LanesApart}
use Rattle.lanes.proofs.Rings.{ring_below, rings_apart}

pub depth_positive : DepthPositive
unfolding lane_depth
depth_positive = omega arith

pub depth_most : DepthMost
unfolding lane_depth
depth_most = omega arith

-- the runs of the 64 places lie in the tables, each behind the one before
run_inside : (p : ℕ) → p < 64 → lane_first p + lane_depth ≤ 2048
unfolding lane_first lane_depth
run_inside p h = omega arith

run_behind : (p q : ℕ) → p < q → lane_first p + lane_depth ≤ lane_first q
unfolding lane_first lane_depth
run_behind p q h = omega arith

pub lane_inside : LaneInside
lane_inside p start j h = omega (arith, ring_below (lane_first p) lane_depth start j depth_positive, run_inside p h)

-- of two places that share an entry, none is behind the other
at_most : (p q start start' j n : ℕ) → lane_entry p start j ≡ lane_entry q start' n → p ≤ q
at_most p q start start' j n e = go (split p q)
  where
    go : (p ≤ q) ⊎ (q < p) → p ≤ q
    go (inl h) = h
    go (inr h) = absurd (rings_apart _ _ start' n _ _ start j depth_positive (run_behind q p h) (sym e))

pub lanes_apart : LanesApart
lanes_apart p q start start' j n ne e =
    ne (le_antisymm (at_most p q start start' j n e) (at_most q p start' start n j (sym e)))
