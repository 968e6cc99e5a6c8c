-- What the tests of the checks decide, in words of open blocks, lanes, shares and holds.
use mathlib.Core.Path.{◌≡◌, refl, sym, ap, ◌∙◌}
use mathlib.Core.Bool.{Bool, true, false, not, true≢false, false≢true}
use mathlib.Core.Logic.{◌≢◌}
use mathlib.Core.Option.{none}
use mathlib.Core.List.{List, [], ◌∷◌}
use Prim.Native.Nat.{ℕ, zero, suc, ◌+◌, ◌≤◌, ◌<◌}
use native.Mathlib.Omega.{arith}
use lib.Dec.{ltb, eqb}
use lib.ListN.{length, get_or}
use Rattle.base.specs.Tests.{Decides}
use Rattle.base.proofs.Decides.{d_iff, d_leb}
use Rattle.base.proofs.Numbers.{leb_yes, true_le, eqb_no}
use Rattle.base.proofs.Tests.{least_none, least_false}
use Rattle.rules.specs.Board.{Record, Place, free_place, Board, at, waits, some_wait, used_share, free_share, Has}
use Rattle.rules.specs.Choice.{where_is, none_has, some_has, least_ready}
use Rattle.rules.specs.Blocks.{free_at, all_taken, over_free, quiet}
use Rattle.rules.proofs.Cases.{or_left, or_right, not_zero, where_has, where_none}
use Rattle.rules.proofs.Tidy.{Tidy}
use Rattle.rules.proofs.Waiting.{some_quiet}

-- ---- the block that has a number

-- the search ends below 64 exactly where an open block has the number
pub found_decides : (b : Board) (n : ℕ) → Decides (some_has b n) ((p : ℕ) × Has b p n)
found_decides b n = record { yes = λ e. (where_is b n, where_has b n (true_le (suc (where_is b n)) 64 e)); no = λ w. go (some_has b n) refl w }
  where
    go : (t : Bool) → some_has b n ≡ t → (p : ℕ) × Has b p n → t ≡ true
    go true e w = refl
    go false e (p, h) = absurd (where_none b n e p h)

pub unknown_decides : (b : Board) (n : ℕ) → Decides (none_has b n) ((p : ℕ) → Has b p n → ⊥)
unknown_decides b n = record {
  yes = λ e p h. true≢false (sym e ∙ ap not ((found_decides b n).no (p, h)));
  no = λ f. go (some_has b n) refl f;
}
  where
    go : (t : Bool) → some_has b n ≡ t → ((p : ℕ) → Has b p n → ⊥) → not t ≡ true
    go true e f = let w = (found_decides b n).yes e in absurd (f w.0 w.1)
    go false e f = refl

-- ---- places and shares

pub taken_decides : (b : Board) → Decides (all_taken b) ((p : ℕ) → p < 64 → 1 ≤ (at b p).share)
unfolding free_at
taken_decides b = record {
  yes = λ e p h. not_zero (at b p).share (least_false test 64 p (omega (arith, true_le 64 (free_at b) e)));
  no = λ f. leb_yes 64 (free_at b) (omega (arith, least_none test 64 (λ p h. taken p (f p h))));
}
  where
    test : ℕ → Bool
    test p = eqb (at b p).share 0

    taken : (p : ℕ) → 1 ≤ (at b p).share → test p ≡ false
    taken p h = eqb_no (at b p).share 0 (λ e. omega arith)

pub free_decides : (b : Board) (s : ℕ) → used_share b ≤ 65536 → Decides (over_free b s) (65536 < used_share b + s)
free_decides b s h = d_iff (d_leb (suc (free_share b)) s) (λ l. omega arith) (λ l. omega arith)

-- ---- waiting

pub waits_decides : (l : List Record) → Decides (ltb 0 (length l)) (l ≢ [])
waits_decides [] = record { yes = λ e. absurd (false≢true e); no = λ n. absurd (n refl) }
waits_decides (r ∷ rs) = record { yes = λ e f. absurd (omega (arith, ap length f)); no = λ n. leb_yes 1 (length (r ∷ rs)) (omega arith) }

-- no block waits where no slot is open and none is in an order
pub none_wait : (b : Board) → Tidy b → b.slot ≡ none → least_ready b.places ≡ none → (p : ℕ) → (at b p).lane ≡ []
unfolding quiet some_wait
none_wait b g e f p = go b.places (some_quiet b g ∙ quiet!) p
  where
    quiet! : not (quiet b) ≡ false
    quiet! = rw (e, f)

    empty : (l : List Record) → ltb 0 (length l) ≡ false → l ≡ []
    empty [] n = refl
    empty (r ∷ rs) n = absurd (true≢false (sym ((waits_decides (r ∷ rs)).no (λ z. omega (arith, ap length z))) ∙ n))

    go : (l : List Place) → some_wait l ≡ false → (p : ℕ) → (get_or l p free_place).lane ≡ []
    go [] n p = refl
    go (x ∷ xs) n zero = empty x.lane (or_left (waits x) (some_wait xs) n)
    go (x ∷ xs) n (suc p) = go xs (or_right (waits x) (some_wait xs) n) p
