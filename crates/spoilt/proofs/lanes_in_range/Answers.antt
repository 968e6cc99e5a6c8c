-- `spoilt::lanes_in_range` meets its contract: each lane is tested (all_range). Assumes nothing.
use mathlib.Core.Path.{refl, ◌∙◌}
use lib.ListN.{get_or}
use Rattle.std.proofs.Common.{rules, tests}
use Rattle.std.proofs.lemmas.Iterator.{YieldsList-from_range}
use Rattle.std.proofs.lemmas.Iterator.Search.{all_from_yields_List}
use Rattle.base.proofs.Iterations.{all_range}
use Rattle.spoilt.specs.Test.{lane_in_range, lanes_in_range}
use Rattle.spoilt.proofs.lanes_in_range.Goals as goal

pub returns : goal.returns
unfolding lanes_in_range
returns c =
    let b = c.args.b.now in
    all_from_yields_List (λ p. lane_in_range c.args.lens.now b.largest p (get_or b.starts p 0) (get_or b.counts p 0)) _ _ _ c.all.ensures.ran
    (YieldsList-from_range 0 64 64 refl refl) (λ x r q k. search (rules, tests))
    ∙ all_range _ 64
