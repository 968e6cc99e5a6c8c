-- What is done with whole arrays, which are lists of numbers.
use Rattle.std.specs.Prelude.{List, ℕ, length, get_or, replicate}
use Rattle.base.specs.Sums.{below}

-- the sum of a list's numbers
unfoldable pub total_of : List ℕ → ℕ
total_of l = below (λ i. get_or l i 0) (length l)

-- zeros, as many as the list has numbers
abbrev pub zeroed : List ℕ → List ℕ
zeroed l = replicate (length l) 0
