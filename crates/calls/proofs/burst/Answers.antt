-- `calls::burst` meets its contract: a refusal that comes before all others refuses the burst (early_burst); else the
-- value is known, and what the rules say is the promise (burst_called). Assumes nothing.
use mathlib.Core.Path.{refl}
use Rattle.calls.proofs.Calling.{early_burst, burst_called}
use Rattle.calls.proofs.burst.Goals as goal

pub returns-in-Err : goal.returns-in-Err
returns-in-Err c = early_burst _ _ _ _ c.in-Err.ensures.early _ _

pub burst_board-requires : goal.burst_board-requires
burst_board-requires c = c.in_default.ensures.known refl

pub returns : goal.returns
returns c = burst_called _ _ _ (c.in_default.ensures.known refl) _ _ _ c.burst_board.ensures
