-- Making: what a done and a refused making leave.
use mathlib.Core.Path.{◌≡◌, refl, ◌∙◌}
use mathlib.Core.Bool.{true≢false, Bool, true, false, not, ◌&&◌}
use mathlib.Core.Logic.{◌≢◌}
use mathlib.Core.List.{List}
use Prim.Native.Nat.{ℕ}
use native.Mathlib.Omega.{arith}
use lib.Dec.{eqb, leb}
use lib.ListN.{length, replicate, length-replicate}
use Rattle.rules.specs.Board.{fresh}
use Rattle.base.proofs.Numbers.{true_le, eqb_true}
use Rattle.rules.specs.Calls.{make_by, wrong_tables, make}
use Rattle.board.specs.Reading.{encode, view, Sound}
use Rattle.board.proofs.Fresh.{Starts, starts}
use Rattle.board.proofs.Sound.{fit_view}
use Rattle.board.specs.Leaving.{Reply, Returned, written}
use Rattle.calls.specs.Promises.{made}

both : (s t : Bool) → not (s && t) ≡ false → (s ≡ true) × (t ≡ true)
both true true e = (refl, refl)
both true false e = absurd (true≢false e)
both false t e = absurd (true≢false e)

abbrev by_tests : List ℕ → List ℕ → ℕ → Bool → Bool → Returned Reply
by_tests ids lens L t u = written (encode (fresh 0)) ids lens (make_by t u L)

-- what is returned is where a run of the rules starts
abbrev pub StartsBy : Returned Reply → ℕ → Type 0
StartsBy r L = Starts r.reply.board r.ids r.lens L

pub made_starts : (ids lens : List ℕ) (L : ℕ) → (made ids lens L).reply.code ≡ 0 → StartsBy (made ids lens L) L
unfolding made make
made_starts ids lens L = go (wrong_tables (length ids) (length lens)) (not (leb 64 L && leb L 2048)) refl refl
  where
    go : (t u : Bool) → wrong_tables (length ids) (length lens) ≡ t → not (leb 64 L && leb L 2048) ≡ u → (by_tests ids lens L t u).reply.code ≡ 0
        → StartsBy (by_tests ids lens L t u) L
    go true u e f z = absurd (omega arith)
    go false true e f z = absurd (omega arith)
    go false false e f z =
        let w = both (eqb (length ids) 2048) (eqb (length lens) 2048) e in
        let v = both (leb 64 L) (leb L 2048) f in
        starts L (replicate (length ids) 0) (replicate (length lens) 0) (true_le 64 L v.0) (true_le L 2048 v.1)
        (length-replicate {A = ℕ} (length ids) 0 ∙ eqb_true (length ids) 2048 w.0)
        (length-replicate {A = ℕ} (length lens) 0 ∙ eqb_true (length lens) 2048 w.1)

-- ---- A REFUSED MAKING gives a board that is spoilt, with whatever tables

zero_spoilt : (ids lens : List ℕ) → Sound (encode (fresh 0)) ids lens → ⊥
unfolding view encode fresh
zero_spoilt ids lens s = omega (arith, (fit_view (encode (fresh 0)) ids lens s).tidy.shape.least)

pub refused_spoilt : (ids lens : List ℕ) (L : ℕ) → (made ids lens L).reply.code ≢ 0 → (ids' lens' : List ℕ) → Sound (made ids lens L).reply.board ids' lens'
    → ⊥
unfolding made make
refused_spoilt ids lens L = go (wrong_tables (length ids) (length lens)) (not (leb 64 L && leb L 2048))
  where
    go : (t u : Bool) → (by_tests ids lens L t u).reply.code ≢ 0 → (ids' lens' : List ℕ) → Sound (by_tests ids lens L t u).reply.board ids' lens' → ⊥
    go true u z ids' lens' = zero_spoilt ids' lens'
    go false true z ids' lens' = zero_spoilt ids' lens'
    go false false z ids' lens' = absurd (z refl)
