-- `spoilt_orders::set_of` meets its contract: for each test that the closure computes, the loop keeps that the set has
-- the classes below k that pass it, and no other (set_none, set_next). Assumes nothing.
use mathlib.Core.Path.{◌≡◌, sym, ap, ◌∙◌}
use native.Mathlib.Omega.{arith}
use Rattle.bits.specs.Sets.{with_bit, set_below}
use Rattle.spoilt_orders.proofs.Steps.{set_next, set_none}
use Rattle.spoilt_orders.proofs.set_of.Goals as goal
use Rattle.spoilt_orders.proofs.set_of.Goals.{then-passes, else-passes}

pub loop-k-init : goal.loop-k-init
loop-k-init g c test h = sym (set_none test)

pub loop-k-preserved : goal.loop-k-preserved
loop-k-preserved g c test h =
    let passed : c.passes.result ≡ test c.loop-k.k = h c.loop-k.k c.passes.result c.loop-k-test.true c.passes.ensures in
    let so_far : c.loop-k.set ≡ set_below c.loop-k.k test = c.loop-k.invariant test h in
    elim c.if-passes.branch [
      | then-passes w ↦
          w.set-is ∙ w.with_bit-set.ensures ∙ rw (set_next test c.loop-k.k, ← passed, w.if-passes.true) (ap (λ s. with_bit s c.loop-k.k) so_far)
      | else-passes w ↦ w.set-is ∙ rw (set_next test c.loop-k.k, ← passed, w.if-passes.false) so_far
    ]

pub returns : goal.returns
returns g c test h =
    let e : c.loop-k.k ≡ 17 = omega arith in c.loop-k.invariant test h ∙ ap (λ n. set_below n test) e
