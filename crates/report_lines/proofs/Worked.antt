-- The report of the worked example and the line `full`: each number's text is the one that spells it. Assumes nothing.
use mathlib.Core.Path.{◌≡◌, refl}
use mathlib.Core.Logic.{inl}
use mathlib.Core.Bool.{Bool, true, ◌&&◌}
use mathlib.Core.List.{List, [], ◌∷◌}
use Prim.Native.Nat.{ℕ, ◌<◌}
use borrow.Author.Tests.{leb-true, ltb-true}
use lib.Dec.{leb, ltb, lit<}
use Rattle.base.proofs.Tests.{and_left, and_right}
use Rattle.lines.specs.Text.{decimal, Digits, number_on, number_of, columns, line_of}
use Rattle.lines.proofs.Texts.{decimal_one}
use Rattle.lines.proofs.Reading.{plain_decimal}
use Rattle.report_lines.specs.Text.{account_line, full_line}
use Rattle.report_lines.specs.Worked.{WorkedReport, FullBytes}

abbrev are_digits : List ℕ → Bool
are_digits [] = true
are_digits (d ∷ ds) = (leb 48 d && ltb d 58) && are_digits ds

digits_by : (ds : List ℕ) → are_digits ds ≡ true → Digits ds
digits_by [] e = tt
digits_by (d ∷ ds) e =
    let h = and_left (leb 48 d && ltb d 58) (are_digits ds) e in (
      (leb-true 48 d (and_left (leb 48 d) (ltb d 58) h), ltb-true d 58 (and_right (leb 48 d) (ltb d 58) h)),
      digits_by ds (and_right (leb 48 d && ltb d 58) (are_digits ds) e),
    )

spells : (d : ℕ) (ds : List ℕ) → 48 < d → are_digits (d ∷ ds) ≡ true → decimal (number_of (d ∷ ds)) ≡ d ∷ ds
spells d ds h e = plain_decimal (d ∷ ds) (digits_by (d ∷ ds) e) (inl h)

text_11 : decimal 11 ≡ 49 ∷ 49 ∷ []
unfolding number_on
text_11 = spells 49 (49 ∷ []) (lit< tt) refl

text_2 : decimal 2 ≡ 50 ∷ []
unfolding number_on
text_2 = spells 50 ([]) (lit< tt) refl

text_13107200 : decimal 13107200 ≡ 49 ∷ 51 ∷ 49 ∷ 48 ∷ 55 ∷ 50 ∷ 48 ∷ 48 ∷ []
unfolding number_on
text_13107200 = spells 49 (51 ∷ 49 ∷ 48 ∷ 55 ∷ 50 ∷ 48 ∷ 48 ∷ []) (lit< tt) refl

text_160 : decimal 160 ≡ 49 ∷ 54 ∷ 48 ∷ []
unfolding number_on
text_160 = spells 49 (54 ∷ 48 ∷ []) (lit< tt) refl

text_2621440 : decimal 2621440 ≡ 50 ∷ 54 ∷ 50 ∷ 49 ∷ 52 ∷ 52 ∷ 48 ∷ []
unfolding number_on
text_2621440 = spells 50 (54 ∷ 50 ∷ 49 ∷ 52 ∷ 52 ∷ 48 ∷ []) (lit< tt) refl

text_12 : decimal 12 ≡ 49 ∷ 50 ∷ []
unfolding number_on
text_12 = spells 49 (50 ∷ []) (lit< tt) refl

text_19660800 : decimal 19660800 ≡ 49 ∷ 57 ∷ 54 ∷ 54 ∷ 48 ∷ 56 ∷ 48 ∷ 48 ∷ []
unfolding number_on
text_19660800 = spells 49 (57 ∷ 54 ∷ 54 ∷ 48 ∷ 56 ∷ 48 ∷ 48 ∷ []) (lit< tt) refl

text_300 : decimal 300 ≡ 51 ∷ 48 ∷ 48 ∷ []
unfolding number_on
text_300 = spells 51 (48 ∷ 48 ∷ []) (lit< tt) refl

text_0 : decimal 0 ≡ 48 ∷ []
text_0 = decimal_one 0 (lit< tt)

pub worked_report : WorkedReport
unfolding account_line columns
worked_report = rw (text_11, text_2, text_13107200, text_160, text_2621440, text_12, text_19660800, text_300, text_0)

pub full_bytes_lem : FullBytes
unfolding full_line line_of columns
full_bytes_lem = refl
