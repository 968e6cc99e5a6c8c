use mathlib.Core.Path.{◌≡◌}
use Prim.Native.Nat.{◌≤◌}
use lib.Dec.{eqb}
use lib.ListN.{get_or}
use Rattle.base.specs.Sums.{below, one_if}
use Rattle.spoilt_places.proofs.times_found.Given as goal

abbrev pub invariant-loop-m : goal.invariant-loop-m
invariant-loop-m l = (l.found ≤ l.m-index) × (l.found ≡ below (λ q. one_if (eqb (get_or l.numbers q 0) l.n)) l.m-index)
