-- WHAT IS PROVED of rings of any depth, and of the lanes of the 64 places.
use Rattle.std.specs.Prelude.{◌≡◌, ◌≢◌, ℕ, suc, ◌+◌, ◌≤◌, ◌<◌}
use Rattle.lanes.specs.Lanes.{ring_entry, ring_on, lane_depth, lane_entry}

-- ---- Rings

-- Every record stands in the ring's own run of entries, and every start is in the ring.
abbrev pub RingFrom : Type 0
RingFrom = (first depth start j : ℕ) → first ≤ ring_entry first depth start j

abbrev pub RingBelow : Type 0
RingBelow = (first depth start j : ℕ) → 1 ≤ depth → ring_entry first depth start j < first + depth

abbrev pub RingOnInside : Type 0
RingOnInside = (depth start : ℕ) → 1 ≤ depth → ring_on depth start < depth

-- No two records of a ring stand in one entry.
abbrev pub RingOwn : Type 0
RingOwn = (first depth start j n : ℕ) → j < n → n < depth
    → ring_entry first depth start j ≢ ring_entry first depth start n

-- With the start moved on by one, the record behind the front is the front.
abbrev pub RingMoved : Type 0
RingMoved = (first depth start j : ℕ)
    → ring_entry first depth (ring_on depth start) j ≡ ring_entry first depth start (suc j)

-- Rings whose runs don't overlap share no entry.
abbrev pub RingsApart : Type 0
RingsApart = (first depth start j : ℕ) (first' depth' start' n : ℕ) → 1 ≤ depth → first + depth ≤ first'
    → ring_entry first depth start j ≢ ring_entry first' depth' start' n

-- ---- Lanes

-- A lane has room for a record, and for no more than 256.
abbrev pub DepthPositive : Type 0
DepthPositive = 1 ≤ lane_depth

abbrev pub DepthMost : Type 0
DepthMost = lane_depth ≤ 256

-- The lanes of the 64 places lie in the 2,048 entries, and no two overlap.
abbrev pub LaneInside : Type 0
LaneInside = (p start j : ℕ) → p < 64 → lane_entry p start j < 2048

abbrev pub LanesApart : Type 0
LanesApart = (p q start start' j n : ℕ) → p ≢ q → lane_entry p start j ≢ lane_entry q start' n
