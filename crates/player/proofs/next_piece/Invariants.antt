use mathlib.Core.Path.{◌≡◌}
use Prim.Native.Nat.{◌-◌}
use lib.ListN.{length}
use Rattle.player.specs.Feeding.{held as between}
use Rattle.player.proofs.Feeding.{UnderWay}
use Rattle.player.proofs.next_piece.Given as goal

-- the state that was lent is as it was
abbrev pub invariant-loop-out : goal.invariant-loop-out
invariant-loop-out l =
    (l.s ≡ l.initial.s) × UnderWay (between l.initial.s l.initial.ids l.initial.lens) l.fragment l.initial.out l.on l.ids l.lens l.taken l.used l.out

abbrev pub decreases-loop-out : goal.decreases-loop-out
decreases-loop-out l = length l.fragment - l.taken
