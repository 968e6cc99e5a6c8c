-- The marked examples hold: they are computed.
use mathlib.Core.Path.{refl}
use Rattle.base.specs.Tests.{least}
use Rattle.units.specs.Classes.{class_of, next_start}
use Rattle.units.specs.Credit.{framing, charged, largest_charge, credit_of}
use Rattle.units.specs.Examples.{MarkedExamples}

pub marked_examples_lem : MarkedExamples
unfolding least class_of next_start framing charged largest_charge credit_of
marked_examples_lem = refl
