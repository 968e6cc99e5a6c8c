-- `spoilt_places::places_in_range` meets its contract: each place is tested (all_range). Assumes nothing.
use mathlib.Core.Path.{refl, ◌∙◌}
use Rattle.std.proofs.Common.{rules, tests}
use Rattle.std.proofs.lemmas.Iterator.{YieldsList-from_range}
use Rattle.std.proofs.lemmas.Iterator.Search.{all_from_yields_List}
use Rattle.base.proofs.Iterations.{all_range}
use Rattle.spoilt_places.specs.Ranges.{place_now, place_in_range, places_in_range}
use Rattle.spoilt_places.proofs.places_in_range.Goals as goal

pub returns : goal.returns
unfolding places_in_range
returns c =
    let b = c.args.b.now in
    all_from_yields_List (λ p. place_in_range b.largest b.slot p (place_now b p)) _ _ _ c.all.ensures.ran (YieldsList-from_range 0 64 64 refl refl)
    (λ x r q k. search (rules, tests))
    ∙ all_range _ 64
