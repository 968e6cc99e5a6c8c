-- `serving::open_slot` meets its contract: an open slot serves on (opened_open); that one begins is found by search.
-- Assumes nothing.
use mathlib.Core.Path.{sym, ap}
use Rattle.board.specs.Memory.{engine_of, with_engine}
use Rattle.serving.proofs.Cases.{opened_open}
use Rattle.serving.proofs.open_slot.Goals as goal

pub returns-else-b-eq-NO_LINK : goal.returns-else-b-eq-NO_LINK
returns-else-b-eq-NO_LINK c =
    let b = c.args.b.now in ap (with_engine b) (sym (opened_open _ _ _ _ (engine_of b) c.if-b-eq-NO_LINK.false c.requires.goes))
