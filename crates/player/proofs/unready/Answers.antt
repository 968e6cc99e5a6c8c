-- `player::unready` meets its contract: a state that it lets pass can go on. Assumes nothing.
use mathlib.Core.Path.{sym, ◌∙◌}
use Rattle.player.proofs.Codes.{can_before, can_past}
use Rattle.player.proofs.unready.Goals as goal

pub returns-then-not-past_l-clause-known : goal.returns-then-not-past_l-clause-known
returns-then-not-past_l-clause-known c =
    λ _. can_before _ _ _ c.if-ids-ne-TABLE_ENTRIES.false c.if-lens-ne-TABLE_ENTRIES.false
    (sym c.is_fit.ensures.fit ∙ c.if-not-is_fit.false) c.is_fit.ensures.sized
    (sym c.past_l.ensures ∙ c.if-not-past_l.true)

pub returns-clause-known : goal.returns-clause-known
returns-clause-known c =
    λ known. can_past _ _ _ c.if-ids-ne-TABLE_ENTRIES.false c.if-lens-ne-TABLE_ENTRIES.false
    (sym c.is_fit.ensures.fit ∙ c.if-not-is_fit.false) c.is_fit.ensures.sized
    c.if-s-2.false (c.early.ensures.known known)
