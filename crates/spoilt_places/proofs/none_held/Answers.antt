-- `spoilt_places::none_held` meets its contract: each share is tested (all_list). Assumes nothing.
use mathlib.Core.Path.{◌∙◌}
use lib.Dec.{eqb}
use Rattle.std.proofs.Common.{rules, tests}
use Rattle.std.proofs.lemmas.Iterator.{YieldsList-from_slice}
use Rattle.std.proofs.lemmas.Iterator.Search.{all_from_yields_List}
use Rattle.base.proofs.Iterations.{all_list}
use Rattle.spoilt_places.specs.Ranges.{none_held}
use Rattle.spoilt_places.proofs.none_held.Goals as goal

pub returns : goal.returns
unfolding none_held
returns c =
    all_from_yields_List (λ share. eqb share 0) _ _ _ c.all.ensures.ran (YieldsList-from_slice c.args.held.now cc) (λ x b q k. search (rules, tests))
    ∙ all_list _ c.args.held.now 0 17 c.told-held
