-- The worked log of document 01, its 110 bytes written out, and its fourteen fields.
use Rattle.std.specs.Prelude.{◌≡◌, List, [], ◌∷◌, ℕ, length}
use Rattle.log_bytes.specs.declared.Event.TheVariants.{Largest, Open, Arrive, Serve}
use Rattle.log_bytes.specs.declared.End.TheVariants.{Whole as whole}
use Rattle.log_bytes.specs.Rows.{WholeField, read_log}

abbrev pub worked_log : List ℕ
worked_log =
    6 ∷ 0 ∷ 2 ∷ 0 ∷ 100 ∷
    1 ∷ 0 ∷ 8 ∷ 0 ∷ 0 ∷ 0 ∷ 11 ∷ 0 ∷ 0 ∷ 128 ∷ 0 ∷
    1 ∷ 0 ∷ 8 ∷ 0 ∷ 0 ∷ 0 ∷ 12 ∷ 0 ∷ 0 ∷ 96 ∷ 0 ∷
    4 ∷ 0 ∷ 10 ∷ 0 ∷ 0 ∷ 0 ∷ 11 ∷ 0 ∷ 0 ∷ 0 ∷ 1 ∷ 0 ∷ 100 ∷
    4 ∷ 0 ∷ 10 ∷ 0 ∷ 0 ∷ 0 ∷ 11 ∷ 0 ∷ 0 ∷ 0 ∷ 2 ∷ 0 ∷ 60 ∷
    4 ∷ 0 ∷ 10 ∷ 0 ∷ 0 ∷ 0 ∷ 12 ∷ 0 ∷ 0 ∷ 0 ∷ 3 ∷ 0 ∷ 100 ∷
    4 ∷ 0 ∷ 10 ∷ 0 ∷ 0 ∷ 0 ∷ 12 ∷ 0 ∷ 0 ∷ 0 ∷ 4 ∷ 0 ∷ 100 ∷
    4 ∷ 0 ∷ 10 ∷ 0 ∷ 0 ∷ 0 ∷ 12 ∷ 0 ∷ 0 ∷ 0 ∷ 5 ∷ 0 ∷ 100 ∷
    5 ∷ 0 ∷ 0 ∷
    5 ∷ 0 ∷ 0 ∷
    5 ∷ 0 ∷ 0 ∷
    5 ∷ 0 ∷ 0 ∷
    5 ∷ 0 ∷ 0 ∷
    5 ∷ 0 ∷ 0 ∷
    []

abbrev pub worked_fields : List WholeField
worked_fields =
    record { offset = 0; event = Largest 100; next = 5 } ∷
    record { offset = 5; event = Open (record { number = 11; share = 32768 }); next = 16 } ∷
    record { offset = 16; event = Open (record { number = 12; share = 24576 }); next = 27 } ∷
    record { offset = 27; event = Arrive 11 1 100; next = 40 } ∷
    record { offset = 40; event = Arrive 11 2 60; next = 53 } ∷
    record { offset = 53; event = Arrive 12 3 100; next = 66 } ∷
    record { offset = 66; event = Arrive 12 4 100; next = 79 } ∷
    record { offset = 79; event = Arrive 12 5 100; next = 92 } ∷
    record { offset = 92; event = Serve; next = 95 } ∷
    record { offset = 95; event = Serve; next = 98 } ∷
    record { offset = 98; event = Serve; next = 101 } ∷
    record { offset = 101; event = Serve; next = 104 } ∷
    record { offset = 104; event = Serve; next = 107 } ∷
    record { offset = 107; event = Serve; next = 110 } ∷
    []

-- The log has 110 bytes, and is read as these fields.
abbrev pub WorkedLength : Type 0
WorkedLength = length worked_log ≡ 110

abbrev pub WorkedReading : Type 0
WorkedReading = read_log worked_log ≡ record { fields = worked_fields; ends = whole }
