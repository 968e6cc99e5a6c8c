-- `arrays::sum` meets its contract: the loop keeps the sum of the first numbers (Summed). Assumes nothing.
use native.Mathlib.Omega.{arith}
use Rattle.arrays.proofs.Loops.{summed_none, summed_more, summed_all}
use Rattle.arrays.proofs.sum.Goals as goal

pub loop-n-init : goal.loop-n-init
loop-n-init g c = summed_none _ _

pub loop-n-preserved : goal.loop-n-preserved
loop-n-preserved g c =
    rw (c.wide-sum.ensures.value)
    (summed_more _ _ _ _ _ c.n-item.result c.loop-n.invariant c.loop-n-test.true c.n-item.is (omega arith))

pub returns-clause-total : goal.returns-clause-total
returns-clause-total g c = summed_all _ _ _ _ _ c.loop-n.invariant (omega arith)
