-- `lines::put_columns` meets its contract. The numbers up to an index are written, each after a space. Assumes nothing.
use Rattle.lines.proofs.Texts.{columns_none, columns_on}
use Rattle.lines.proofs.put_columns.Goals as goal

pub loop-number-init : goal.loop-number-init
loop-number-init c =
    columns_none _ c.args.numbers.now c.args.at

pub loop-number-preserved : goal.loop-number-preserved
loop-number-preserved c =
    columns_on c.args.numbers.now c.loop-number.number-index c.loop-number-test.true c.loop-number.invariant
    c.put_byte-end.ensures
    c.put_number-end.ensures
