use Rattle.std.proofs.lemmas.List.{map-set}
use Rattle.counting.specs.Steps.{vanished_in}
use Rattle.counting.proofs.count_close.Goals as goal

pub returns-clause-vanished : goal.returns-clause-vanished
unfolding vanished_in
returns-clause-vanished c = simp map-set
