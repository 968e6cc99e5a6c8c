-- The code before all others: the computed test finds it, and a value that passes is known to be good.
use mathlib.Core.Path.{◌≡◌, refl, sym, ap}
use mathlib.Core.Bool.{Bool, true, false, not, cond}
use mathlib.Core.List.{List}
use Prim.Native.Nat.{ℕ}
use native.Mathlib.Omega.{arith}
use lib.ListN.{length}
use Rattle.base.proofs.Decides.{decided_alike}
use Rattle.rules.specs.Board.{table_length}
use Rattle.rules.specs.Calls.{wrong_tables}
use Rattle.board.specs.declared.Board as struct
use Rattle.board.specs.Reading.{Sized, is_sound}
use Rattle.board.specs.Leaving.{Known}
use Rattle.board.proofs.Sound.{is_sound_decides}
use Rattle.board.proofs.Tables.{right_tables}
use Rattle.spoilt.specs.Test.{tables_whole, sound_test}
use Rattle.spoilt.specs.Early.{early_code}
use Rattle.spoilt.proofs.Decided.{sound_decides}

abbrev first : Bool → Bool → ℕ
first t u = cond t 3 (cond u 0 2)

-- the computed test is the one of the promise
pub test_is : (b : struct.Board) (ids lens : List ℕ) → Sized b → length ids ≡ table_length → length lens ≡ table_length
    → sound_test b ids lens ≡ is_sound b ids lens
test_is b ids lens z i l = decided_alike (sound_decides b ids lens z i l) (is_sound_decides b ids lens)

-- what is found by it
pub early_short : (b : struct.Board) (ids lens : List ℕ) → tables_whole ids lens ≡ false → 3 ≡ early_code b ids lens
unfolding early_code
early_short b ids lens e = rw e

pub early_by : (b : struct.Board) (ids lens : List ℕ) → Sized b → tables_whole ids lens ≡ true → (t : Bool) → sound_test b ids lens ≡ t
    → cond t 0 2 ≡ early_code b ids lens
unfolding early_code
early_by b ids lens z w t e = rw (w, sym (test_is b ids lens z sizes.0 sizes.1), e)
  where
    sizes : (length ids ≡ table_length) × (length lens ≡ table_length)
    sizes = right_tables (length ids) (length lens) (ap not w)

-- a code of 0 is found only of a value that is known to be good
pub known_by : (b : struct.Board) (ids lens : List ℕ) → early_code b ids lens ≡ 0 → Known b ids lens
unfolding early_code
known_by b ids lens n = go (wrong_tables (length ids) (length lens)) refl (is_sound b ids lens) refl n
  where
    go : (t : Bool) → wrong_tables (length ids) (length lens) ≡ t → (u : Bool) → is_sound b ids lens ≡ u → first t u ≡ 0 → Known b ids lens
    go true e u f k = absurd (omega arith)
    go false e false f k = absurd (omega arith)
    go false e true f k = record { sound = (is_sound_decides b ids lens).yes f; ids_all = sizes.0; lens_all = sizes.1 }
      where
        sizes : (length ids ≡ table_length) × (length lens ≡ table_length)
        sizes = right_tables (length ids) (length lens) e

-- and neither 3 nor 2 is found of such a value
pub sound_known : (b : struct.Board) (ids lens : List ℕ) → Known b ids lens → is_sound b ids lens ≡ true
sound_known b ids lens k = (is_sound_decides b ids lens).no k.sound

pub early_none : (b : struct.Board) (ids lens : List ℕ) → Known b ids lens → early_code b ids lens ≡ 0
unfolding early_code
early_none b ids lens k = rw (k.ids_all, k.lens_all, sound_known b ids lens k)
