-- `calls::serve` meets its contract: a refusal that comes before all others refuses the call (early_serve); else the
-- value is known, and what the rules say is the promise (serve_called). Assumes nothing.
use mathlib.Core.Path.{refl}
use borrow.Author.Rules.{rules}
use Rattle.calls.proofs.Calling.{early_serve, serve_called}
use Rattle.calls.proofs.serve.Goals as goal

pub returns-in_err-early : goal.returns-in_err-early
returns-in_err-early c = early_serve _ _ _ _ c.in_err-early.ensures.early _ (search rules)

pub returns : goal.returns
returns c = serve_called _ _ _ (c.in_ok-early.ensures.known refl) _ c.serve_board.ensures
