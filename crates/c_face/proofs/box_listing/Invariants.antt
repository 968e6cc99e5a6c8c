use Prim.Native.Nat.{◌-◌}
use lib.ListN.{length}
use Rattle.c_face.proofs.Whole.{Going}
use Rattle.c_face.proofs.box_listing.Given as goal

abbrev pub invariant-pieces : goal.invariant-pieces
invariant-pieces l = Going l.log l.initial.piece l.initial.out l.piece l.out l.ids l.lens l.state l.taken l.end

abbrev pub decreases-pieces : goal.decreases-pieces
decreases-pieces l = length l.log - l.taken
