-- `reporting::feed` meets its contract. A state that is not refused goes on with the log's first field, or with those
-- after it. Assumes nothing.
use mathlib.Core.Path.{sym}
use Rattle.reporting.proofs.Feeding.{done_feed, over_feed}
use Rattle.reporting.proofs.feed.Goals as goal

pub returns-then-s : goal.returns-then-s
returns-then-s c =
    let z = sym c.in_ok-early.ensures.code in
    done_feed _ _ _ _ _ _ _ _ _ z (over_feed _ _ _ _ _ z c.if-s.true)
