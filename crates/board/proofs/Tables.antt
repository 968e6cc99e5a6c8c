-- The tables' lengths: a table has not 2,048 entries, or both have.
use mathlib.Core.Path.{◌≡◌, refl}
use mathlib.Core.Bool.{Bool, true, false, not, ◌&&◌, true≢false}
use mathlib.Core.Logic.{◌≢◌}
use Prim.Native.Nat.{ℕ}
use lib.Dec.{eqb}
use borrow.Author.Tests.{eq-eqb, ne_eqb}
use Rattle.base.proofs.Numbers.{eqb_true}
use Rattle.base.proofs.Tests.{and_left, and_right}
use Rattle.rules.specs.Board.{table_length}
use Rattle.rules.specs.Calls.{wrong_tables}

pub ids_wrong : (ids lens : ℕ) → ids ≢ 2048 → wrong_tables ids lens ≡ true
ids_wrong ids lens h = rw (ne_eqb ids 2048 h)

pub lens_wrong : (ids lens : ℕ) → lens ≢ 2048 → wrong_tables ids lens ≡ true
lens_wrong ids lens h = rw (ne_eqb lens 2048 h) (go (eqb ids 2048))
  where
    go : (t : Bool) → not (t && false) ≡ true
    go true = refl
    go false = refl

pub none_wrong : (ids lens : ℕ) → ids ≡ 2048 → lens ≡ 2048 → wrong_tables ids lens ≡ false
none_wrong ids lens e f = rw (eq-eqb ids 2048 e, eq-eqb lens 2048 f)

pub right_tables : (n m : ℕ) → wrong_tables n m ≡ false → (n ≡ table_length) × (m ≡ table_length)
right_tables n m e = (
  eqb_true n table_length (and_left (eqb n table_length) (eqb m table_length) (passed _ e)),
  eqb_true m table_length (and_right (eqb n table_length) (eqb m table_length) (passed _ e)),
)
  where
    passed : (t : Bool) → not t ≡ false → t ≡ true
    passed true f = refl
    passed false f = absurd (true≢false f)
