-- `finding::find` meets its contract: 0 is no block's number (find_none), and the first place with any other is where
-- it is (first_place, find_first). Assumes nothing.
use mathlib.Core.Path.{◌∙◌}
use Rattle.finding.proofs.Finding.{first_place, find_none, find_first}
use Rattle.finding.proofs.find.Goals as goal

pub returns-then-number-eq-NO_BLOCK-clause-found : goal.returns-then-number-eq-NO_BLOCK-clause-found
returns-then-number-eq-NO_BLOCK-clause-found c = find_none _ _ c.if-number-eq-NO_BLOCK.true

pub returns-clause-found : goal.returns-clause-found
returns-clause-found c =
    c.place_with.ensures.first ∙ first_place _ _ c.told-numbers ∙ find_first _ _ c.if-number-eq-NO_BLOCK.false
