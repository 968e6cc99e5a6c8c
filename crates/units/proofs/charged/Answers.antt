-- `units::charged` meets its contract: the sum is the definition. Assumes nothing.
use mathlib.Core.Path.{refl}
use Rattle.units.specs.Credit.{framing, charged}
use Rattle.units.proofs.charged.Goals as goal

pub returns : goal.returns
unfolding framing charged
returns c = refl
