use Rattle.lines.proofs.Digits.{Filled}
use Rattle.lines.proofs.put_digits.Given as goal

abbrev pub invariant-loop-i : goal.invariant-loop-i
invariant-loop-i l = Filled l.initial.out l.at l.n l.rest l.i l.out
