use Rattle.std.proofs.Common.{◌≡◌, false, ◌-◌, ◌+◌, ◌^◌, ◌≤◌, ◌<◌, length, drop}
use Rattle.report_play.specs.Playing.{offset_of}
use Rattle.reporting.specs.Feeding.{feed_code, held, rest_of}
use Rattle.log_input.specs.Telling.{TellsPart}
use Rattle.report_output.proofs.write_fragment.Given as goal

abbrev pub invariant-loop-taken : goal.invariant-loop-taken
invariant-loop-taken g l = record {
  within : l.taken ≤ length l.fragment;
  onward : l.s.over ≡ false → (offset_of l.s ≡ offset_of l.fn.s + l.taken) × (0 < l.taken → offset_of l.s ≤ 2 ^ 48);
  fit : feed_code l.fn.s l.fn.ids l.fn.lens ≡ 0 → feed_code l.s l.ids l.lens ≡ 0;
  told : TellsPart rest_of (g.W.Write.contents l.fn.report) (g.W.Write.contents l.report) (held l.fn.s l.fn.ids l.fn.lens) (held l.s l.ids l.lens)
      l.fragment (drop l.taken l.fragment);
}

abbrev pub decreases-loop-taken : goal.decreases-loop-taken
decreases-loop-taken g l = length l.fragment - l.taken
