-- `fragments::keep` meets its contract. Up to an index the bytes stand behind those that were kept. Assumes nothing.
use native.Mathlib.Omega.{arith}
use Rattle.fragments.proofs.Kept.{behind_none, behind_more, behind_all}
use Rattle.fragments.proofs.keep.Goals as goal

pub loop-i-init : goal.loop-i-init
loop-i-init c = (omega arith, behind_none _ _ _)

pub loop-i-preserved : goal.loop-i-preserved
loop-i-preserved c = (
  omega (arith, c.loop-i.invariant.0),
  behind_more _ _ _ _ _ c.loop-i.invariant.0 (omega (arith, c.loop-i-test.true, c.requires.0, c.loop-i.invariant.1.same))
      c.loop-i.invariant.1,
)

pub returns : goal.returns
returns c = behind_all _ _ _ _ _ _ (omega (arith, c.loop-i-test.false)) c.loop-i.invariant.1
