-- `lines::put_digits` meets its contract. What is written stands behind the digits that are left, which get fewer.
-- Assumes nothing.
use Rattle.lines.proofs.Digits.{filled_none, filled_more, filled_all}
use Rattle.lines.proofs.put_digits.Goals as goal

pub loop-i-init : goal.loop-i-init
loop-i-init c = filled_none _ _ _ _ c.requires.0

pub loop-i-preserved : goal.loop-i-preserved
loop-i-preserved c = filled_more _ _ _ _ _ _ c.loop-i.invariant c.loop-i-test.true

pub returns : goal.returns
returns c = filled_all _ _ _ _ _ _ c.loop-i.invariant c.loop-i-test.false _ c.requires.0
