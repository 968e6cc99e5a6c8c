-- From fragment to fragment the offset moves on, up to the end of every log, and the state can be fed.
use Rattle.std.proofs.Common.{◌≡◌, false, ◌^◌, ◌≤◌, length, replicate}
use Rattle.report_play.specs.Playing.{offset_of}
use Rattle.reporting.specs.Feeding.{before_first, feed_code, held, rest_of}
use Rattle.log_input.specs.Telling.{TellsOn}
use Rattle.log_input.proofs.Telling.{bytes_left}
use Rattle.report.proofs.report_log.Given as goal

abbrev pub invariant-loop-state : goal.invariant-loop-state
invariant-loop-state g l = record {
  fragment_all : length l.fragment ≡ 65536;
  out_all : length l.out ≡ 4096;
  low : l.state.over ≡ false → offset_of l.state ≤ 2 ^ 48;
  fit : feed_code l.state l.ids l.lens ≡ 0;
  told : TellsOn rest_of (g.R.Read.remaining l.fn.log) (g.R.Read.remaining l.log) (g.W.Write.contents l.fn.report) (g.W.Write.contents l.report)
      (held before_first (replicate 2048 0) (replicate 2048 0)) (held l.state l.ids l.lens);
}

abbrev pub decreases-loop-state : goal.decreases-loop-state
decreases-loop-state g l = bytes_left l.state.over (offset_of l.state)
