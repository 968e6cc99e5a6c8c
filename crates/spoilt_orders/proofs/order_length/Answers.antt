-- `spoilt_orders::order_length` meets its contract: the loop keeps that the walk from here gives what the walk from the
-- head gives (Walking); a step and each end by its law. Assumes nothing.
use mathlib.Core.Bool.{Bool, cond}
use mathlib.Core.Path.{◌∙◌, ap, sym}
use borrow.Author.Tests.{eq-eqb, ne_eqb}
use Rattle.spoilt_orders.proofs.Steps.{walking_none, walking_end, walking_off, walking_refused, walking_more}
use Rattle.spoilt_orders.proofs.order_length.Goals as goal

pub loop-h-init : goal.loop-h-init
loop-h-init c = walking_none _ _ _ c.next_start-start.ensures

pub returns-then-met-eq-PLACES-clause-length : goal.returns-then-met-eq-PLACES-clause-length
returns-then-met-eq-PLACES-clause-length c =
    sym (walking_off _ _ _ _ _ _ _ c.loop-h.invariant c.loop-h-test.true c.then-met-eq-PLACES.either)

pub returns-then-not-block_in_range-clause-length : goal.returns-then-not-block_in_range-clause-length
returns-then-not-block_in_range-clause-length c =
    sym (walking_refused _ _ _ _ _ _ _ c.loop-h.invariant c.loop-h-test.true c.if-met-eq-PLACES.false c.if-h-gt-LAST_LINK.false _
    c.from-p.ensures
    (sym c.block_in_range.ensures ∙ c.if-not-block_in_range.true))

pub loop-h-preserved : goal.loop-h-preserved
loop-h-preserved c =
    walking_more _ _ _ _ _ _ _ c.loop-h.invariant c.loop-h-test.true c.if-met-eq-PLACES.false c.if-h-gt-LAST_LINK.false _ c.from-p.ensures
    (sym c.block_in_range.ensures ∙ c.if-not-block_in_range.false)

pub returns-then-last-b-clause-length : goal.returns-then-last-b-clause-length
returns-then-last-b-clause-length c =
    sym (walking_end _ _ _ _ _ _ _ c.loop-h.invariant c.loop-h-test.false
    ∙ ap (λ (t : Bool). cond t c.loop-h.met 65) (eq-eqb _ _ c.if-last-b.true))

pub returns-else-last-b-clause-length : goal.returns-else-last-b-clause-length
returns-else-last-b-clause-length c =
    sym (walking_end _ _ _ _ _ _ _ c.loop-h.invariant c.loop-h-test.false
    ∙ ap (λ (t : Bool). cond t c.loop-h.met 65) (ne_eqb _ _ c.if-last-b.false))
