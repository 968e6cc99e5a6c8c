-- `blocks::hold_in` meets its contract: where a class is active the share is added to its class's sum, which is one of
-- the seventeen (class_le); else nothing changes. Assumes nothing.
use Prim.Native.Nat.{◌≤◌}
use Rattle.blocks.specs.Blocks.{held_with}
use Rattle.units.proofs.Classes.{class_le}
use borrow.Author.Tests.{eq-eqb, ne_eqb}
use native.Mathlib.Omega.{arith}
use Rattle.blocks.proofs.hold_in.Goals as goal

pub returns-then-b-eq0 : goal.returns-then-b-eq0
unfolding held_with
returns-then-b-eq0 c = rw (eq-eqb _ _ c.if-b-eq0.true)

pub bounds-b-k : goal.bounds-b-k
bounds-b-k c = let h : c.class_of-k.result ≤ 16 = rw c.class_of-k.ensures (class_le _) in omega arith

pub bounds-b-k-2 : goal.bounds-b-k-2
bounds-b-k-2 c =
    let h : c.class_of-k.result ≤ 16 = rw c.class_of-k.ensures (class_le _) in omega arith

pub returns : goal.returns
unfolding held_with
returns c = rw (ne_eqb _ _ c.if-b-eq0.false, c.class_of-k.ensures)
