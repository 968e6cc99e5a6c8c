-- Every line has at most 64 bytes. Assumes nothing.
use mathlib.Core.Path.{◌≡◌, refl}
use mathlib.Core.List.{List, [], ◌∷◌}
use Prim.Native.Nat.{ℕ, suc, ◌+◌, ◌^◌, ◌≤◌, ◌<◌}
use native.Mathlib.Omega.{arith}
use lib.Dec.{lit≤}
use lib.ListN.{length, length-append}
use Rattle.lines.specs.Text.{decimal, columns, line_of}
use Rattle.lines.specs.Listing.{open_word, close_word, name_word, in_word, out_word, refused_word, end_word, broken_word, long_word, open_line, close_line}
use Rattle.lines.specs.Listing.{name_line}
use Rattle.lines.specs.Listing.{in_line, out_line, refused_line, end_line, broken_line, long_line}
use Rattle.lines.specs.Laws.{OpenFits, CloseFits, NameFits, InFits, OutFits, RefusedFits, EndFits, BrokenFits, LongFits}
use Rattle.lines.proofs.Texts.{decimal_length, line_length}

-- each number has at most as many digits as its limit says, which counts those after the first
abbrev pub Below : List ℕ → List ℕ → Type 0
Below [] [] = Unit {0}
Below [] (n ∷ ns) = ⊥
Below (w ∷ ws) [] = ⊥
Below (w ∷ ws) (n ∷ ns) = (n < 10 ^ suc w) × Below ws ns

-- the space, the first digit, and those after it
abbrev pub room : List ℕ → ℕ
room [] = 0
room (w ∷ ws) = 2 + w + room ws

pub columns_fit : (ws ns : List ℕ) → Below ws ns → length (columns ns) ≤ room ws
unfolding columns
columns_fit [] [] b = lit≤ tt
columns_fit [] (n ∷ ns) b = absurd b
columns_fit (w ∷ ws) [] b = absurd b
columns_fit (w ∷ ws) (n ∷ ns) b = omega (arith, length-append (decimal n) (columns ns), decimal_length w n b.0, columns_fit ws ns b.1)

fits : (word ws ns : List ℕ) → Below ws ns → length word + room ws + 1 ≤ 64 → length (line_of word ns) ≤ 64
fits word ws ns b h = omega (arith, line_length word ns, columns_fit ws ns b)

-- ---- each kind of line, as its word and its numbers: what it is, and its room

pub open_is : (block code : ℕ) → open_line block code ≡ line_of open_word (block ∷ code ∷ [])
unfolding open_line
open_is block code = refl

pub open_short : (block code : ℕ) → block < 2 ^ 32 → code < 2 ^ 8 → length (line_of open_word (block ∷ code ∷ [])) ≤ 64
open_short block code h0 h1 = fits open_word (9 ∷ 2 ∷ []) (block ∷ code ∷ []) (omega arith, (omega arith, tt)) (lit≤ tt)

pub open_fits : OpenFits
unfolding open_line
open_fits = open_short

pub close_is : (block code : ℕ) → close_line block code ≡ line_of close_word (block ∷ code ∷ [])
unfolding close_line
close_is block code = refl

pub close_short : (block code : ℕ) → block < 2 ^ 32 → code < 2 ^ 8 → length (line_of close_word (block ∷ code ∷ [])) ≤ 64
close_short block code h0 h1 = fits close_word (9 ∷ 2 ∷ []) (block ∷ code ∷ []) (omega arith, (omega arith, tt)) (lit≤ tt)

pub close_fits : CloseFits
unfolding close_line
close_fits = close_short

pub name_is : (old new code : ℕ) → name_line old new code ≡ line_of name_word (old ∷ new ∷ code ∷ [])
unfolding name_line
name_is old new code = refl

pub name_short : (old new code : ℕ) → old < 2 ^ 32 → new < 2 ^ 32 → code < 2 ^ 8 → length (line_of name_word (old ∷ new ∷ code ∷ [])) ≤ 64
name_short old new code h0 h1 h2 = fits name_word (9 ∷ 9 ∷ 2 ∷ []) (old ∷ new ∷ code ∷ []) (omega arith, (omega arith, (omega arith, tt))) (lit≤ tt)

pub name_fits : NameFits
unfolding name_line
name_fits = name_short

pub in_is : (number code : ℕ) → in_line number code ≡ line_of in_word (number ∷ code ∷ [])
unfolding in_line
in_is number code = refl

pub in_short : (number code : ℕ) → number < 2 ^ 32 → code < 2 ^ 8 → length (line_of in_word (number ∷ code ∷ [])) ≤ 64
in_short number code h0 h1 = fits in_word (9 ∷ 2 ∷ []) (number ∷ code ∷ []) (omega arith, (omega arith, tt)) (lit≤ tt)

pub in_fits : InFits
unfolding in_line
in_fits = in_short

pub out_is : (block number len clock : ℕ) → out_line block number len clock ≡ line_of out_word (block ∷ number ∷ len ∷ clock ∷ [])
unfolding out_line
out_is block number len clock = refl

pub out_short : (block number len clock : ℕ) → block < 2 ^ 32 → number < 2 ^ 32 → len < 2 ^ 16 → clock < 2 ^ 64
    → length (line_of out_word (block ∷ number ∷ len ∷ clock ∷ [])) ≤ 64
out_short block number len clock h0 h1 h2 h3 =
    fits out_word (9 ∷ 9 ∷ 4 ∷ 19 ∷ []) (block ∷ number ∷ len ∷ clock ∷ []) (omega arith, (omega arith, (omega arith, (omega arith, tt)))) (lit≤ tt)

pub out_fits : OutFits
unfolding out_line
out_fits = out_short

pub refused_is : (code : ℕ) → refused_line code ≡ line_of refused_word (code ∷ [])
unfolding refused_line
refused_is code = refl

pub refused_short : (code : ℕ) → code < 2 ^ 8 → length (line_of refused_word (code ∷ [])) ≤ 64
refused_short code h0 = fits refused_word (2 ∷ []) (code ∷ []) (omega arith, tt) (lit≤ tt)

pub refused_fits : RefusedFits
unfolding refused_line
refused_fits = refused_short

pub end_is : (clock bytes waiting : ℕ) → end_line clock bytes waiting ≡ line_of end_word (clock ∷ bytes ∷ waiting ∷ [])
unfolding end_line
end_is clock bytes waiting = refl

pub end_short : (clock bytes waiting : ℕ) → clock < 2 ^ 64 → bytes < 2 ^ 64 → waiting < 2 ^ 32 → length (line_of end_word (clock ∷ bytes ∷ waiting ∷ [])) ≤ 64
end_short clock bytes waiting h0 h1 h2 =
    fits end_word (19 ∷ 19 ∷ 9 ∷ []) (clock ∷ bytes ∷ waiting ∷ []) (omega arith, (omega arith, (omega arith, tt))) (lit≤ tt)

pub end_fits : EndFits
unfolding end_line
end_fits = end_short

pub broken_is : (offset : ℕ) → broken_line offset ≡ line_of broken_word (offset ∷ [])
unfolding broken_line
broken_is offset = refl

pub broken_short : (offset : ℕ) → offset < 2 ^ 64 → length (line_of broken_word (offset ∷ [])) ≤ 64
broken_short offset h0 = fits broken_word (19 ∷ []) (offset ∷ []) (omega arith, tt) (lit≤ tt)

pub broken_fits : BrokenFits
unfolding broken_line
broken_fits = broken_short

pub long_is : long_line ≡ line_of long_word []
unfolding long_line
long_is = refl

pub long_short : length (line_of long_word []) ≤ 64
long_short = fits long_word [] [] tt (lit≤ tt)

pub long_fits : LongFits
unfolding long_line
long_fits = long_short

pub ruleset each_line = (
  open_is,
  open_short,
  close_is,
  close_short,
  name_is,
  name_short,
  in_is,
  in_short,
  out_is,
  out_short,
  refused_is,
  refused_short,
  end_is,
  end_short,
  broken_is,
  broken_short,
  long_is,
  long_short,
)
