-- From byte to byte the offset moves on, up to the end of every log.
use Rattle.std.proofs.Common.{◌≡◌, false, ◌^◌, ◌≤◌, length}
use Rattle.report_play.specs.Playing.{offset_of}
use Rattle.log_input.proofs.Telling.{bytes_left}
use Rattle.report_case.proofs.play_case.Given as goal

abbrev pub invariant-loop-state : goal.invariant-loop-state
invariant-loop-state g l = record {
  byte_all : length l.byte ≡ 1;
  out_all : length l.out ≡ 128;
  low : l.state.over ≡ false → offset_of l.state ≤ 2 ^ 48;
}

abbrev pub decreases-loop-state : goal.decreases-loop-state
decreases-loop-state g l = bytes_left l.state.over (offset_of l.state)
