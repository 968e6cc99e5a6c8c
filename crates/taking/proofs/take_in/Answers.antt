-- `taking::take_in` meets its contract: the count fits, as the lane is not full (depth_most); where the lane was empty
-- the block joins the order of its class, which is at most 16 (class_le). Assumes nothing.
use Prim.Native.Nat.{◌≤◌}
use native.Mathlib.Omega.{arith}
use borrow.Author.Tests.{eq-eqb, ne_eqb}
use Rattle.units.proofs.Classes.{class_le}
use Rattle.lanes.proofs.Lanes.{depth_most}
use Rattle.taking.specs.Taking.{taken_at}
use Rattle.taking.proofs.take_in.Goals as goal

pub overflow_add-b : goal.overflow_add-b
overflow_add-b c = omega (arith, depth_most, c.requires.room)

pub returns-then-count-ne0-clause-taken : goal.returns-then-count-ne0-clause-taken
unfolding taken_at
returns-then-count-ne0-clause-taken c = rw (ne_eqb _ _ c.if-count-ne0.true)

pub next_start-time-requires : goal.next_start-time-requires
next_start-time-requires c =
    (rw c.class_of-k.ensures (class_le _), c.requires.time)

pub join_in-requires : goal.join_in-requires
join_in-requires c =
    let h : c.class_of-k.result ≤ 16 =
    rw c.class_of-k.ensures (class_le _) in (c.requires.place, (omega arith, c.requires.last _ (omega arith)))

pub returns-clause-taken : goal.returns-clause-taken
unfolding taken_at
returns-clause-taken c =
    rw (c.join_in.ensures.rest, eq-eqb _ _ c.if-count-ne0.false, c.join_in.ensures.joined, c.next_start-time.ensures, c.class_of-k.ensures)
