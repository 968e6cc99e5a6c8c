-- `lines::put_text` meets its contract. The text up to an index is written. Assumes nothing.
use native.Mathlib.Omega.{arith}
use lib.ListN.{length-set}
use Rattle.lines.proofs.Texts.{text_more}
use Rattle.lines.proofs.put_text.Goals as goal

pub loop-i-preserved : goal.loop-i-preserved
loop-i-preserved c = (
  omega (arith, c.loop-i-test.true),
  (
    rw length-set c.loop-i.invariant.1.0,
    text_more _ c.loop-i.out c.args.text.now c.args.at c.loop-i.i c.loop-i-test.true c.loop-i.invariant.1.1,
  ),
)
