-- `spoilt_orders::orders_listed` meets its contract: the loop keeps that the orders below class k have 64 places at
-- most, and how many in all (Listed); the first that is none ends it (none_listed). Assumes nothing.
use mathlib.Core.Path.{◌≡◌, sym, ap, ◌∙◌}
use Prim.Native.Nat.{◌^◌}
use native.Mathlib.Omega.{arith}
use lib.Dec.{eqb}
use Rattle.base.specs.Sums.{below}
use Rattle.base.proofs.Numbers.{true_le}
use Rattle.spoilt_orders.proofs.Steps.{listed_none, listed_more, none_listed}
use Rattle.spoilt_orders.specs.Walks.{length_in, length_of, clock_in_range, orders_listed}
use Rattle.spoilt_orders.proofs.orders_listed.Goals as goal

pub returns-then-not-clock_in_range : goal.returns-then-not-clock_in_range
unfolding orders_listed
returns-then-not-clock_in_range c = rw (sym c.clock_in_range.ensures ∙ c.if-not-clock_in_range.true)

pub loop-k-init : goal.loop-k-init
loop-k-init c = listed_none _

pub order_length-requires-clause-clock : goal.order_length-requires-clause-clock
unfolding clock_in_range
order_length-requires-clause-clock c =
    true_le c.args.b.now.clock (2 ^ 62) (sym c.clock_in_range.ensures ∙ c.if-not-clock_in_range.false)

pub returns-in_default : goal.returns-in_default
unfolding orders_listed
returns-in_default c =
    rw (
      sym c.clock_in_range.ensures ∙ c.if-not-clock_in_range.false,
      none_listed c.args.b.now c.loop-k.k c.loop-k-test.true (sym (ap length_in c.in_default.is) ∙ c.order_length.ensures.length),
    )

pub loop-k-preserved : goal.loop-k-preserved
loop-k-preserved c =
    listed_more _ _ _ _ c.loop-k.invariant c.in-Some.ensures.length c.in-Some.ensures.short

pub returns : goal.returns
unfolding orders_listed
returns c =
    let e : c.loop-k.k ≡ 17 = omega arith in
    rw (
      sym c.clock_in_range.ensures ∙ c.if-not-clock_in_range.false,
      rw e at c.loop-k.invariant.each,
      ← c.blocks_in_order.ensures,
    )
    (ap (λ n. eqb n c.blocks_in_order.result) (c.loop-k.invariant.sum ∙ ap (below (length_of c.args.b.now)) e))
