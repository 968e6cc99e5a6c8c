use Rattle.std.proofs.Common.{◌≡◌, false, ◌+◌, ◌-◌, ◌≤◌, length, drop}
use Rattle.player.specs.Feeding.{feed_code, offset_of, held, rest_of}
use Rattle.log_input.specs.Telling.{TellsPart}
use Rattle.listing.proofs.list_fragment.Given as goal

abbrev pub invariant-loop-taken : goal.invariant-loop-taken
invariant-loop-taken g l = record {
  within : l.taken ≤ length l.fragment;
  fit : feed_code l.s l.ids l.lens ≡ 0;
  onward : l.s.over ≡ false → offset_of l.s ≡ offset_of l.fn.s + l.taken;
  listed : TellsPart rest_of (g.W.Write.contents l.fn.listing) (g.W.Write.contents l.listing) (held l.fn.s l.fn.ids l.fn.lens) (held l.s l.ids l.lens)
      l.fragment (drop l.taken l.fragment);
}

abbrev pub decreases-loop-taken : goal.decreases-loop-taken
decreases-loop-taken g l = length l.fragment - l.taken
