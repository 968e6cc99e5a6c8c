-- `spoilt_places::times_found` meets its contract: the loop keeps that it has counted the places that have the number,
-- which are no more than were looked at. Assumes nothing.
use mathlib.Core.Path.{sym}
use native.Mathlib.Omega.{arith}
use lib.Dec.{eqb}
use lib.ListN.{get_or}
use Rattle.base.proofs.Loops.{below_more, below_none}
use Rattle.base.proofs.Sums.{one_if_le}
use Rattle.base.specs.Sums.{one_if}
use Rattle.base.proofs.Iterations.{byte_is}
use Rattle.spoilt_places.proofs.times_found.Goals as goal

pub loop-m-init : goal.loop-m-init
loop-m-init c = (omega arith, sym (below_none _))

pub overflow_add-found : goal.overflow_add-found
overflow_add-found c =
    let found = eqb (get_or c.args.numbers.now c.loop-m.m-index 0) c.args.n in
    omega (arith, c.from-found.ensures, byte_is found, one_if_le found)

pub loop-m-preserved : goal.loop-m-preserved
loop-m-preserved c =
    let found = eqb (get_or c.args.numbers.now c.loop-m.m-index 0) c.args.n in (
      omega (arith, c.from-found.ensures, byte_is found, one_if_le found),
      omega (
        arith,
        c.from-found.ensures,
        byte_is found,
        c.loop-m.invariant.1,
        below_more (λ q. one_if (eqb (get_or c.args.numbers.now q 0) c.args.n)) c.loop-m.m-index,
      ),
    )
