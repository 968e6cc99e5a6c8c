use mathlib.Core.Path.{◌≡◌}
use Rattle.counting.specs.Counting.{tallies_of}
use Rattle.reporting.proofs.Shown.{Showing}
use Rattle.reporting.proofs.show_places.Given as goal

abbrev pub invariant-loop-place : goal.invariant-loop-place
invariant-loop-place l =
    let s = l.initial.s in record {
      same_state : l.s ≡ s;
      showing : Showing s.board (tallies_of s.counts) s.shown l.initial.out l.place l.used l.out;
    }
