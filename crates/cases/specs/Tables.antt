-- How much of the two tables can be lent.
use Rattle.std.specs.Prelude.{ℕ, ◌≤◌}

-- each table has 4,096 entries, of which the first ones are lent
abbrev pub Lendable : (numbers lengths : ℕ) → Type 0
Lendable numbers lengths = (numbers ≤ 4096) × (lengths ≤ 4096)
