-- `player::feed` meets its contract. Where the listing is over, all is taken and nothing written. Assumes nothing.
use mathlib.Core.Path.{sym}
use Rattle.player.proofs.Ends.{done_feed, over_feed}
use Rattle.player.proofs.feed.Goals as goal

pub returns-then-s : goal.returns-then-s
returns-then-s c =
    let z = sym c.in_ok-unready.ensures.code in
    done_feed _ _ _ _ _ _ _ _ _ z (over_feed _ _ _ _ _ z c.if-s.true)
