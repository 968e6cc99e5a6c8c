-- `slots::begin` meets its contract: its steps, one after the other, are the definition's; a class is at most 16
-- (class_le), and deficit and credit fit in one number (credit_under). Assumes nothing.
use Rattle.slots.proofs.Cases.{set_bound}
use Rattle.slots.specs.Slots.{left_links}
use Rattle.rules.proofs.Shape.{most_pos}
use Rattle.units.proofs.Credits.{credit_under, charge_small}
use Rattle.units.proofs.Classes.{class_le}
use lib.ListN.{get_or}
use native.Mathlib.Omega.{arith}
use Rattle.slots.proofs.begin.Goals as goal

pub still_pending-b-requires : goal.still_pending-b-requires
unfolding left_links
still_pending-b-requires c = (
  omega (arith, c.class_of-class.ensures, class_le (get_or c.args.b.now.shares c.args.turn.place 0)),
  rw (c.leave.ensures, c.advance.ensures) (set_bound c.args.b.now.heads c.class_of-class.result _ 64 c.requires.behind),
)

pub overflow_add-b-2 : goal.overflow_add-b-2
overflow_add-b-2 c =
    let most = c.args.b.now.largest in
    let share = get_or c.args.b.now.shares c.args.turn.place 0 in
    let under = credit_under most share c.requires.high (most_pos most c.requires.least) in
    let paid = rw c.from.ensures at c.credit-credit.ensures in
    omega (arith, under, charge_small most c.requires.most, paid, c.requires.owed)
