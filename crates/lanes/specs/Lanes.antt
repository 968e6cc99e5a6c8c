-- LANES (document 01, 'Numbers'): a row of entries in the two tables, used as a ring. Only `lane_depth` and
-- `lane_first` know how deep a lane is and where it lies; rings are of any depth.
use Rattle.std.specs.Prelude.{ℕ, ◌+◌, ◌*◌, ◌%◌}

-- ---- A ring: its first entry, its depth, and its start, where the front record is, counted from the first entry

-- the entry of the j-th record from the front, counting from 0
unfoldable pub ring_entry : (first depth start j : ℕ) → ℕ
ring_entry first depth start j = first + (start + j) % depth

-- the start after a send
unfoldable pub ring_on : (depth start : ℕ) → ℕ
ring_on depth start = (start + 1) % depth

-- ---- The lane of a place

-- Lane depth: 32 records.
unfoldable pub lane_depth : ℕ
lane_depth = 32

-- Place p has entries 32p to 32p+31, used as a ring.
unfoldable pub lane_first : (p : ℕ) → ℕ
lane_first p = lane_depth * p

-- The j-th record from the front, counting from 0, is at 32p + (start + j) mod 32.
abbrev pub lane_entry : (p start j : ℕ) → ℕ
lane_entry p start j = ring_entry (lane_first p) lane_depth start j

-- A send moves the start on by one, mod 32.
abbrev pub lane_on : (start : ℕ) → ℕ
lane_on start = ring_on lane_depth start
