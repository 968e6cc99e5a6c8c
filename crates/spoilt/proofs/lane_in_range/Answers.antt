-- `spoilt::lane_in_range` meets its contract: each waiting length is tested (all_range). Assumes nothing.
use mathlib.Core.Path.{refl, ◌∙◌}
use native.Mathlib.Nat.{sub-zero}
use lib.ListN.{get_or}
use Rattle.std.proofs.Common.{rules, tests}
use Rattle.std.proofs.lemmas.Iterator.{YieldsList-from_range}
use Rattle.std.proofs.lemmas.Iterator.Search.{all_from_yields_List}
use Rattle.lanes.specs.Lanes.{lane_entry}
use Rattle.base.proofs.Iterations.{all_range}
use Rattle.spoilt.specs.Test.{length_in_range, lane_in_range}
use Rattle.spoilt.proofs.lane_in_range.Goals as goal

pub returns : goal.returns
unfolding lane_in_range
returns c =
    let b = c.args.b.now in
    let count = get_or b.counts c.args.p 0 in
    all_from_yields_List (λ j. length_in_range b.largest (get_or c.args.lens.now (lane_entry c.args.p (get_or b.starts c.args.p 0) j) 0)) _ _ _
    c.all.ensures.ran
    (YieldsList-from_range 0 count count refl (sub-zero count)) (λ x r q k. search (rules, tests))
    ∙ all_range _ count
