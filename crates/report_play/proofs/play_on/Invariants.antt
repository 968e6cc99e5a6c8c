use mathlib.Core.Path.{◌≡◌}
use Prim.Native.Nat.{◌-◌}
use lib.ListN.{length}
use Rattle.report_play.specs.Playing.{ledger_of}
use Rattle.report_play.proofs.Playing.{PlayedTo}
use Rattle.report_play.proofs.play_on.Given as goal

abbrev pub invariant-loop-taken : goal.invariant-loop-taken
invariant-loop-taken l = record {
  played : PlayedTo l.s l.initial.ids l.initial.lens l.fragment (ledger_of l.here l.ids l.lens) l.here.reader l.taken;
  shown : l.here.shown ≡ l.s.shown;
}

abbrev pub decreases-loop-taken : goal.decreases-loop-taken
decreases-loop-taken l = length l.fragment - l.taken
