-- `counting::counts_fit` meets its contract: each place is asked, and all of a range pass where all below its end do
-- (all_range). Assumes nothing.
use mathlib.Core.Path.{refl, ◌∙◌}
use Rattle.std.proofs.Common.{rules}
use Rattle.std.proofs.lemmas.Iterator.{serves_from_Range, YieldsList-from_range}
use Rattle.std.proofs.lemmas.Iterator.Search.{all_from_yields_List}
use Rattle.counting.specs.Counting.{tallies_of, fits_now, counts_fit_now}
use Rattle.base.proofs.Iterations.{all_range}
use Rattle.counting.proofs.counts_fit.Goals as goal

pub all-requires-clause-callable : goal.all-requires-clause-callable
all-requires-clause-callable c = serves_from_Range (λ x q h. search rules) (λ x low high. search rules)

pub returns-else-c-clause-fit : goal.returns-else-c-clause-fit
unfolding counts_fit_now
returns-else-c-clause-fit c =
    rw c.if-c.false
    (all_from_yields_List (fits_now c.args.b.now (tallies_of c.args.c.now)) _ _ _ c.all.ensures.ran
    (YieldsList-from_range 0 64 64 refl refl) (λ x b q k. search rules)
    ∙ all_range (fits_now c.args.b.now (tallies_of c.args.c.now)) 64)
