use Rattle.std.proofs.Common.{map}
use Rattle.arrays.proofs.Loops.{Summed}
use Rattle.arrays.proofs.sum.Given as goal

abbrev pub invariant-loop-n : goal.invariant-loop-n
invariant-loop-n g l = Summed g.T.Word.limit (map g.T.Word.value l.row) l.n-index l.sum
