-- `calls::rename` meets its contract: a refusal that comes before all others refuses the call (early_reply); else the value
-- is known, and what the rules say is the promise (called_left). Assumes nothing.
use mathlib.Core.Path.{refl}
use borrow.Author.Rules.{rules}
use Rattle.blocks.proofs.Answers.{rename_known}
use Rattle.calls.proofs.Calling.{called_left, early_reply}
use Rattle.calls.proofs.rename.Goals as goal

pub returns-in_err-early : goal.returns-in_err-early
returns-in_err-early c = early_reply _ _ _ _ c.in_err-early.ensures.early _ _ (search rules)

pub returns : goal.returns
returns c =
    let k = c.in_ok-early.ensures.known refl in
    called_left _ _ _ k _ _ _ _ _ _ c.rename_in.ensures.rest (rename_known _ _ _ k _ _ _ c.rename_in.ensures.renamed)
