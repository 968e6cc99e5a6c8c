-- `finding::lowest_free` meets its contract: the lowest free place is the first one with the number 0 (first_place).
-- Assumes nothing.
use mathlib.Core.Path.{◌∙◌}
use Rattle.finding.proofs.Finding.{first_place}
use Rattle.finding.specs.Finding.{lowest_free}
use Rattle.finding.proofs.lowest_free.Goals as goal

pub returns-clause-found : goal.returns-clause-found
unfolding lowest_free
returns-clause-found c = c.place_with.ensures.first ∙ first_place _ _ c.told-numbers
