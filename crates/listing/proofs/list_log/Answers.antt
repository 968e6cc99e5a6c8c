-- `listing::list_log` meets its contract. From fragment to fragment the state is not refused, and its offset rises, which
-- is at most 2^48. Assumes nothing.
use Rattle.std.proofs.Common.{◌≡◌, false, [], ◌+◌, take, length, rules, arith, refl, replicate}
use Rattle.std.specs.Io.KnownBytes.{Appends, Consumes, IsAtEnd}
use Rattle.listing_rules.specs.Listing.{listing_of}
use Rattle.player.specs.Feeding.{before_first, offset_of, held, rest_of}
use Rattle.player.proofs.Feeding.{over_rest}
use Rattle.player.proofs.Ends.{before_first_ready, before_first_rest, code_low}
use Rattle.log_input.specs.Telling.{TellsPart}
use Rattle.log_input.proofs.Telling.{on_none, on_join, on_part, on_end, on_over, bytes_fall}
use Rattle.listing.proofs.Calls.{closed_done}
use Rattle.listing.proofs.list_log.Goals as goal

pub loop-state-init : goal.loop-state-init
loop-state-init g c = record {
  ids_all = refl;
  lens_all = refl;
  fragment_all = refl;
  out_all = refl;
  fit = rw c.begin-state.ensures (before_first_ready (replicate 2048 0) (replicate 2048 0) (search rules) (search rules));
  told = rw c.begin-state.ensures (on_none rest_of _ _ (held before_first (replicate 2048 0) (replicate 2048 0)));
}

pub loop-state-smaller : goal.loop-state-smaller
loop-state-smaller g c =
    let next : c.list_fragment.new.s.over ≡ false
    → offset_of c.list_fragment.new.s ≡ offset_of c.loop-state.state + length (take c.in_ok-n.n c.next_fragment.new.fragment) = search rules in
    let count : c.in_ok-n.n ≡ length (take c.in_ok-n.n c.next_fragment.new.fragment) = search rules in
    let low = code_low _ _ _ c.loop-state.invariant.ids_all c.loop-state.invariant.lens_all c.loop-state.invariant.fit (search rules) in
    bytes_fall _ _ _ _ (search rules) low (λ e. omega (arith, next e, count, c.if-n-eq0.false))

pub loop-state-preserved : goal.loop-state-preserved
loop-state-preserved g c =
    let came : Consumes (g.R.Read.remaining c.loop-state.log) (g.R.Read.remaining c.next_fragment.new.log) (take c.in_ok-n.n c.next_fragment.new.fragment) =
    search rules in
    let part : TellsPart rest_of (g.W.Write.contents c.loop-state.listing) (g.W.Write.contents c.list_fragment.new.listing)
    (held c.loop-state.state c.loop-state.ids c.loop-state.lens) (held c.list_fragment.new.s c.list_fragment.new.ids c.list_fragment.new.lens)
    (take c.in_ok-n.n c.next_fragment.new.fragment) [] = search rules in
    record {
      ids_all = search rules;
      lens_all = search rules;
      fragment_all = search rules;
      out_all = search rules;
      fit = search rules;
      told = on_join rest_of _ _ _ _ _ _ _ _ _ c.loop-state.invariant.told (on_part rest_of _ _ _ _ _ _ _ came part);
    }

-- the last line
pub returns-then-n-eq0 : goal.returns-then-n-eq0
returns-then-n-eq0 g c =
    let came : Consumes (g.R.Read.remaining c.loop-state.log) (g.R.Read.remaining c.next_fragment.new.log) [] = search rules in
    let ended : IsAtEnd (g.R.Read.remaining c.next_fragment.new.log) = search rules in
    let done = closed_done _ _ _ _ _ _ _ _ c.finish.ensures c.unwrap-fed.ensures c.loop-state.invariant.fit in
    let written : Appends (g.W.Write.contents c.loop-state.listing) (g.W.Write.contents c.write_all.new.self) (take c.unwrap-fed.result.used c.finish.new.out) =
    search rules in
    let room = done.ends (omega (arith, c.loop-state.invariant.out_all)) in
    on_over rest_of listing_of _ _ _ _ _ _ (λ bytes. before_first_rest bytes (replicate 2048 0) (replicate 2048 0))
    (over_rest (held c.finish.new.s c.loop-state.ids c.loop-state.lens) room)
    (on_join rest_of _ _ _ _ _ _ _ _ _ c.loop-state.invariant.told (on_end rest_of _ _ _ _ _ _ _ came ended written done.closed.joined))

pub returns : goal.returns
returns g c =
    on_over rest_of listing_of _ _ _ _ _ _ (λ bytes. before_first_rest bytes (replicate 2048 0) (replicate 2048 0))
    (over_rest (held c.loop-state.state c.loop-state.ids c.loop-state.lens) (search rules)) c.loop-state.invariant.told
