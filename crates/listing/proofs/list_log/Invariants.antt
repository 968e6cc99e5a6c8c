use Rattle.std.proofs.Common.{◌≡◌, length, replicate}
use Rattle.player.specs.Feeding.{before_first, feed_code, offset_of, held, rest_of}
use Rattle.log_input.specs.Telling.{TellsOn}
use Rattle.log_input.proofs.Telling.{bytes_left}
use Rattle.listing.proofs.list_log.Given as goal

abbrev pub invariant-loop-state : goal.invariant-loop-state
invariant-loop-state g l = record {
  ids_all : length l.ids ≡ 2048;
  lens_all : length l.lens ≡ 2048;
  fragment_all : length l.fragment ≡ 65536;
  out_all : length l.out ≡ 65536;
  fit : feed_code l.state l.ids l.lens ≡ 0;
  told : TellsOn rest_of (g.R.Read.remaining l.fn.log) (g.R.Read.remaining l.log) (g.W.Write.contents l.fn.listing) (g.W.Write.contents l.listing)
      (held before_first (replicate 2048 0) (replicate 2048 0)) (held l.state l.ids l.lens);
}

abbrev pub decreases-loop-state : goal.decreases-loop-state
decreases-loop-state g l = bytes_left l.state.over (offset_of l.state)
