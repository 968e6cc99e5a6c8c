-- The lines of a report, and whole numbers with their sign.
use Rattle.std.specs.Prelude.{List, [], ◌∷◌, ◌++◌, ℕ, suc, ℤ, pos, negsuc}
use Rattle.lines.specs.Text.{decimal, columns, line_of}

-- A number below 0 has the sign -, which is byte 45, before its size; no other number has a sign.
abbrev pub signed : ℤ → List ℕ
signed (pos n) = decimal n
signed (negsuc n) = 45 ∷ decimal (suc n)

-- BLOCK SLOTS CREDIT BYTES DIFFERENCE LOST
unfoldable pub account_line : (block slots credit bytes : ℕ) (difference : ℤ) (lost : ℕ) → List ℕ
account_line block slots credit bytes difference lost =
    decimal block
    ++ (columns (slots ∷ credit ∷ bytes ∷ []) ++ (32 ∷ (signed difference ++ (columns (lost ∷ []) ++ (10 ∷ [])))))

-- full
abbrev pub full_word : List ℕ
full_word = 102 ∷ 117 ∷ 108 ∷ 108 ∷ []

unfoldable pub full_line : List ℕ
full_line = line_of full_word []
