-- `lines::put_line` meets its contract: the word, its numbers and the line's end are written one after another. Assumes nothing.
use Rattle.lines.proofs.Texts.{line_all}
use Rattle.lines.proofs.put_line.Goals as goal

pub returns : goal.returns
returns c =
    line_all c.args.word.now c.args.numbers.now c.put_text-a.ensures
    c.put_columns-b.ensures c.put_byte.ensures
