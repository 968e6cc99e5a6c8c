-- What was left is what is written and what is left now, and a state that could be fed can be. From call to call there
-- are fewer places to show.
use Rattle.std.proofs.Common.{◌≡◌, [], ◌++◌, List, ℕ}
use Rattle.std.specs.Io.KnownBytes.{Appends}
use Rattle.reporting.specs.Feeding.{feed_code, held, rest_of}
use Rattle.report_output.proofs.Calls.{places_left}
use Rattle.report_output.proofs.write_end.Given as goal

abbrev pub invariant-loop-s : goal.invariant-loop-s
invariant-loop-s g l = record {
  told : (text : List ℕ)
      × (Appends (g.W.Write.contents l.fn.report) (g.W.Write.contents l.report) text
      × (text ++ rest_of (held l.s l.ids l.lens) [] ≡ rest_of (held l.fn.s l.ids l.lens) []));
  fit : feed_code l.fn.s l.ids l.lens ≡ 0 → feed_code l.s l.ids l.lens ≡ 0;
}

abbrev pub decreases-loop-s : goal.decreases-loop-s
decreases-loop-s g l = places_left l.s.over l.s.shown
