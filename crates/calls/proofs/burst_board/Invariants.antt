use mathlib.Core.Path.{◌≡◌}
use Prim.Native.Nat.{◌-◌, ◌≤◌}
use lib.ListN.{length}
use Rattle.board.specs.Leaving.{Known}
use Rattle.calls.specs.Contract.{good_burst}
use Rattle.calls.proofs.Promises.{burst_from}
use Rattle.calls.proofs.burst_board.Given as goal

abbrev pub invariant-rounds : goal.invariant-rounds
invariant-rounds l =
    record {
      within : l.count ≤ length l.initial.list;
      as_long : length l.list ≡ length l.initial.list;
      spent : l.total.0 ≤ l.bytes.0;
      known : Known l.b l.ids l.lens;
      goes_on : good_burst l.initial.b l.ids l.lens l.bytes.0 l.initial.list ≡ burst_from l.b l.ids l.lens l.bytes.0 l.count l.total.0 l.list;
    }

abbrev pub decreases-rounds : goal.decreases-rounds
decreases-rounds l = length l.initial.list - l.count
