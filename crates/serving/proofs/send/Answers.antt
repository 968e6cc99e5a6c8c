-- `serving::send` meets its contract: a class is at most 16 (class_le); every other need is found by search. Assumes
-- nothing.
use Rattle.units.proofs.Classes.{class_le}
use lib.ListN.{get_or}
use native.Mathlib.Omega.{arith}
use Rattle.serving.proofs.send.Goals as goal

pub end_empty-requires : goal.end_empty-requires
end_empty-requires c =
    (omega (arith, c.class_of-k.ensures, class_le (get_or c.args.b.now.shares c.args.place 0)), c.requires.can.time)

pub end_waiting-requires : goal.end_waiting-requires
end_waiting-requires c =
    (c.requires.can.inside, (rw c.class_of-k.ensures (omega (arith, class_le)), (c.requires.can.time, rw c.class_of-k.ensures c.requires.can.tail)))
