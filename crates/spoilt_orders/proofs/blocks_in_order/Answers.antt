-- `spoilt_orders::blocks_in_order` meets its contract: the places that pass are counted (count_range). Assumes nothing.
use mathlib.Core.Path.{refl, ◌∙◌}
use lib.ListN.{get_or}
use Rattle.std.proofs.Common.{rules, tests}
use Rattle.std.proofs.lemmas.Iterator.{YieldsList-from_range}
use Rattle.std.proofs.lemmas.Iterator.Consumers.{YieldsList-at, YieldsList-from_filter, count_from_yields_List}
use Rattle.base.proofs.Iterations.{count_range}
use Rattle.spoilt_places.specs.Ranges.{in_order}
use Rattle.spoilt_orders.specs.Walks.{blocks_in_order}
use Rattle.spoilt_orders.proofs.blocks_in_order.Goals as goal

pub returns : goal.returns
unfolding blocks_in_order
returns c =
    count_from_yields_List c.filter.result _ c.count.ensures.ran
    (YieldsList-from_filter _ (λ p. in_order p (get_or c.args.b.now.counts p 0) c.args.b.now.slot)
    (YieldsList-at c.filter.ensures.source (YieldsList-from_range 0 64 64 refl refl)) c.filter.ensures.closure (λ x b q k. search (rules, tests)))
    ∙ count_range _ 64
