-- The report of the worked example, byte by byte, and the line `full`.
use Rattle.std.specs.Prelude.{◌≡◌, List, [], ◌∷◌, ◌++◌, ℕ, pos, negsuc}
use Rattle.report_lines.specs.Text.{account_line, full_line}

abbrev pub worked_bytes : List ℕ
worked_bytes =
    49 ∷ 49 ∷ 32 ∷ 50 ∷ 32 ∷ 49 ∷ 51 ∷ 49 ∷ 48 ∷ 55 ∷ 50 ∷ 48 ∷ 48 ∷ 32 ∷ 49 ∷ 54 ∷ 48 ∷ 32 ∷ 45 ∷ 50 ∷ 54 ∷ 50 ∷
    49 ∷ 52 ∷ 52 ∷ 48 ∷ 32 ∷ 50 ∷ 54 ∷ 50 ∷ 49 ∷ 52 ∷ 52 ∷ 48 ∷ 10 ∷
    49 ∷ 50 ∷ 32 ∷ 50 ∷ 32 ∷ 49 ∷ 57 ∷ 54 ∷ 54 ∷ 48 ∷ 56 ∷ 48 ∷ 48 ∷ 32 ∷ 51 ∷ 48 ∷ 48 ∷ 32 ∷ 48 ∷ 32 ∷ 48 ∷ 10 ∷
    []

abbrev pub WorkedReport : Type 0
WorkedReport =
    account_line 11 2 13107200 160 (negsuc 2621439) 2621440 ++ account_line 12 2 19660800 300 (pos 0) 0 ≡ worked_bytes

abbrev pub full_bytes : List ℕ
full_bytes = 102 ∷ 117 ∷ 108 ∷ 108 ∷ 10 ∷ []

abbrev pub FullBytes : Type 0
FullBytes = full_line ≡ full_bytes
