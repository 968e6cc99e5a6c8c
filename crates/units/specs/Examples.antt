-- The thirteen marked examples of document 01: one table, one claim.
use Rattle.std.specs.Prelude.{◌≡◌, Bool, true, List, [], ◌∷◌, eqb}
use Rattle.base.specs.Tests.{every}
use Rattle.units.specs.Classes.{class_of, next_start}
use Rattle.units.specs.Credit.{credit_of}

abbrev pub marked_examples : List Bool
marked_examples =
    eqb (class_of 1) 16
    ∷ eqb (class_of 2) 15
    ∷ eqb (class_of 3) 15
    ∷ eqb (class_of 32767) 2
    ∷ eqb (class_of 32768) 1
    ∷ eqb (class_of 65535) 1
    ∷ eqb (class_of 65536) 0
    ∷ eqb (next_start 0 0) 1
    ∷ eqb (next_start 1 3) 4
    ∷ eqb (next_start 2 4) 8
    ∷ eqb (next_start 16 65535) 65536
    ∷ eqb (credit_of 100 24576) 9830400
    ∷ eqb (credit_of 64 65535) 8388480
    ∷ []

abbrev pub MarkedExamples : Type 0
MarkedExamples = every marked_examples ≡ true
