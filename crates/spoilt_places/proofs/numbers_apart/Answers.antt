-- `spoilt_places::numbers_apart` meets its contract: each number is tested (all_list). Assumes nothing.
use mathlib.Core.Path.{◌∙◌}
use Rattle.std.proofs.Common.{rules, tests}
use Rattle.std.proofs.lemmas.Iterator.{YieldsList-from_slice}
use Rattle.std.proofs.lemmas.Iterator.Search.{all_from_yields_List}
use Rattle.base.proofs.Iterations.{all_list}
use Rattle.spoilt_places.specs.Ranges.{number_apart, numbers_apart}
use Rattle.spoilt_places.proofs.numbers_apart.Goals as goal

pub returns : goal.returns
unfolding numbers_apart
returns c =
    let xs = c.args.numbers.now in
    all_from_yields_List (number_apart xs) _ _ _ c.all.ensures.ran (YieldsList-from_slice xs cc) (λ x b q k. search (rules, tests))
    ∙ all_list _ xs 0 64 c.told-numbers
