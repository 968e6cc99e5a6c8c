-- An account line column by column: its length, and writing it. Assumes nothing.
use mathlib.Core.Path.{◌≡◌}
use mathlib.Core.List.{List, [], ◌∷◌}
use Prim.Native.Nat.{ℕ, ◌+◌}
use native.Mathlib.Omega.{arith}
use lib.IntN.{ℤ}
use lib.ListN.{length, length-append}
use Rattle.lines.specs.Text.{decimal, columns, Written}
use Rattle.lines.proofs.Texts.{then}
use Rattle.report_lines.specs.Text.{signed, account_line}

module _ (block slots credit bytes : ℕ) (difference : ℤ) (lost : ℕ) where
  pub account_length : length (account_line block slots credit bytes difference lost)
      ≡ length (decimal block) + length (columns (slots ∷ credit ∷ bytes ∷ [])) + 1 + length (signed difference) + length (columns (lost ∷ [])) + 1
  unfolding account_line
  account_length = simp (length-append) (omega arith)

  pub account_all : {l0 l1 l2 l3 l4 l5 l6 : List ℕ} {at a b c d e r : ℕ} → Written l0 at (decimal block) a l1
      → Written l1 a (columns (slots ∷ credit ∷ bytes ∷ [])) b l2
      → Written l2 b (32 ∷ []) c l3
      → Written l3 c (signed difference) d l4
      → Written l4 d (columns (lost ∷ [])) e l5
      → Written l5 e (10 ∷ []) r l6
      → Written l0 at (account_line block slots credit bytes difference lost) r l6
  unfolding account_line
  account_all w0 w1 w2 w3 w4 w5 =
      then (decimal block) _ w0
      (then (columns (slots ∷ credit ∷ bytes ∷ [])) _ w1
      (then (32 ∷ []) _ w2
      (then (signed difference) _ w3
      (then (columns (lost ∷ [])) (10 ∷ []) w4 w5))))
