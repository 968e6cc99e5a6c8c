-- An account line has at most 116 bytes, and at most 101 with counts that occur. Assumes nothing.
use mathlib.Core.List.{[], ◌∷◌}
use Prim.Native.Nat.{ℕ, suc, ◌+◌, ◌^◌, ◌≤◌, ◌<◌}
use native.Mathlib.Omega.{arith}
use lib.IntN.{ℤ, pos, negsuc, nat_abs}
use lib.ListN.{length}
use Rattle.lines.specs.Text.{columns}
use Rattle.lines.proofs.Texts.{decimal_length, line_length}
use Rattle.lines.proofs.Fitting.{columns_fit}
use Rattle.report_lines.specs.Text.{signed, full_line}
use Rattle.report_lines.specs.Laws.{AccountFits, CountedFits, FullFits}
use Rattle.report_lines.proofs.Texts.{account_length}

-- a sign and the digits of the size
signed_length : (w : ℕ) (d : ℤ) → nat_abs d < 10 ^ suc w → length (signed d) ≤ w + 2
signed_length w (pos n) h = omega (arith, decimal_length w n h)
signed_length w (negsuc n) h = omega (arith, decimal_length w (suc n) h)

pub account_fits_lem : AccountFits
account_fits_lem block slots credit bytes difference lost h0 h1 h2 h3 h4 h5 =
    omega (
      arith,
      account_length block slots credit bytes difference lost,
      decimal_length 9 block (omega arith),
      columns_fit (19 ∷ 19 ∷ 19 ∷ []) (slots ∷ credit ∷ bytes ∷ []) (omega arith, (omega arith, (omega arith, tt))),
      signed_length 18 difference (omega arith),
      columns_fit (19 ∷ []) (lost ∷ []) (omega arith, tt),
    )

pub counted_fits : CountedFits
counted_fits block slots credit bytes difference lost h0 h1 h2 h3 h4 h5 =
    omega (
      arith,
      account_length block slots credit bytes difference lost,
      decimal_length 9 block (omega arith),
      columns_fit (12 ∷ 18 ∷ 13 ∷ []) (slots ∷ credit ∷ bytes ∷ []) (omega arith, (omega arith, (omega arith, tt))),
      signed_length 18 difference (omega arith),
      columns_fit (18 ∷ []) (lost ∷ []) (omega arith, tt),
    )

pub full_fits : FullFits
unfolding full_line columns
full_fits = omega (arith, line_length (102 ∷ 117 ∷ 108 ∷ 108 ∷ []) [])
