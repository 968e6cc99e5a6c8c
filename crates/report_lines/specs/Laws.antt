-- WHAT IS PROVED of a report's lines: their room, and that each can be read back.
use Rattle.std.specs.Prelude.{◌≡◌, cond, ◌⊎◌, List, [], ◌∷◌, ◌++◌, ℕ, ◌^◌, ◌≤◌, ◌<◌, eqb, ℤ, pos, neg_ℤ, nat_abs}
use Rattle.std.specs.Prelude.{length}
use Rattle.lines.specs.Text.{Digits, Plain, number_of}
use Rattle.lines.specs.Listing.{broken_line, long_line}
use Rattle.report_lines.specs.Text.{signed, account_line, full_line}

-- ---- Room

-- For every number of its columns' types an account line has at most 116 bytes.
abbrev pub AccountFits : Type 0
AccountFits = (block slots credit bytes : ℕ) (difference : ℤ) (lost : ℕ) → block < 2 ^ 32 → slots < 2 ^ 64
    → credit < 2 ^ 64
    → bytes < 2 ^ 64
    → nat_abs difference ≤ 2 ^ 63
    → lost < 2 ^ 64
    → length (account_line block slots credit bytes difference lost) ≤ 116

-- With counts of at most 2^62 parts it has at most 101: the credit of a slot is at least 64 x 65,536 parts, and bytes
-- that were got cost 65,536 parts each.
abbrev pub CountedFits : Type 0
CountedFits = (block slots credit bytes : ℕ) (difference : ℤ) (lost : ℕ) → block < 2 ^ 32 → slots ≤ 2 ^ 40
    → credit ≤ 2 ^ 62
    → bytes ≤ 2 ^ 46
    → nat_abs difference ≤ 2 ^ 62
    → lost ≤ 2 ^ 62
    → length (account_line block slots credit bytes difference lost) ≤ 101

abbrev pub FullFits : Type 0
FullFits = length full_line ≤ 128

-- ---- Whole numbers

-- Back from a text: with the sign - in front it is a number below 0.
unfoldable pub whole_of : (text : List ℕ) → ℤ
whole_of [] = pos 0
whole_of (d ∷ ds) = cond (eqb d 45) (neg_ℤ (pos (number_of ds))) (pos (number_of (d ∷ ds)))

-- Digits with no zero in front but for 0 itself, and before them one sign or none; 0 has none.
abbrev pub SignFirst : List ℕ → Type 0
SignFirst [] = ⊥
SignFirst (d ∷ ds) = (d ≡ 45) × (Digits ds × (Plain ds × (0 < number_of ds)))

abbrev pub SignedText : List ℕ → Type 0
SignedText text = (Digits text × Plain text) ⊎ SignFirst text

abbrev pub SignedSpelt : Type 0
SignedSpelt = (d : ℤ) → SignedText (signed d)

-- A signed text spells its number; distinct numbers have distinct texts; and no other such text spells the number.
abbrev pub SignedValue : Type 0
SignedValue = (d : ℤ) → whole_of (signed d) ≡ d

abbrev pub SignedTells : Type 0
SignedTells = (d e : ℤ) → signed d ≡ signed e → d ≡ e

abbrev pub SpeltSigned : Type 0
SpeltSigned = (text : List ℕ) → SignedText text → signed (whole_of text) ≡ text

-- ---- Lines

-- The six numbers of an account line.
pub record AccountShown : Type 0 where
  pub block : ℕ
  pub slots : ℕ
  pub credit : ℕ
  pub bytes : ℕ
  pub difference : ℤ
  pub lost : ℕ

abbrev pub line_shown : AccountShown → List ℕ
line_shown x = account_line x.block x.slots x.credit x.bytes x.difference x.lost

-- Of two texts that begin with account lines, equal ones have the same six numbers there and go on alike.
abbrev pub AccountTells : Type 0
AccountTells = (x y : AccountShown) (r q : List ℕ) → line_shown x ++ r ≡ line_shown y ++ q → (x ≡ y) × (r ≡ q)

-- A report: the lines of its accounts, or one line alone.
pub data Report : Type 0 where
  accounts : List AccountShown → Report
  full : Report
  broken : ℕ → Report
  long : Report

abbrev pub accounts_text : List AccountShown → List ℕ
accounts_text [] = []
accounts_text (x ∷ xs) = line_shown x ++ accounts_text xs

abbrev pub report_text : Report → List ℕ
report_text (accounts xs) = accounts_text xs
report_text full = full_line
report_text (broken offset) = broken_line offset
report_text long = long_line

-- A report can be read back: no two have the same bytes.
abbrev pub ReportTells : Type 0
ReportTells = (a b : Report) → report_text a ≡ report_text b → a ≡ b
