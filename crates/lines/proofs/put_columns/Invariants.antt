use lib.ListN.{take}
use Rattle.lines.specs.Text.{columns, Written}
use Rattle.lines.proofs.put_columns.Given as goal

abbrev pub invariant-loop-number : goal.invariant-loop-number
invariant-loop-number l = Written l.initial.out l.at (columns (take l.number-index l.numbers)) l.end l.out
