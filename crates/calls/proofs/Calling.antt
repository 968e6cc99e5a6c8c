-- A call on any value: what comes before the rules' own codes, and that a value that passes is known to be good.
use mathlib.Core.Path.{◌≡◌, refl, sym, ap, ◌∙◌}
use mathlib.Core.Bool.{Bool, true, false, cond, ◌&&◌}
use mathlib.Core.List.{List}
use Prim.Native.Nat.{ℕ}
use lib.ListN.{length}
use Rattle.base.proofs.Numbers.{eqb_no}
use Rattle.rules.specs.Spoilt.{unspoilt}
use Rattle.rules.specs.Calls.{Single, serve!, step, Call, one, burst!, Outcome, wrong_tables, refused_by, by_tables, done!, call}
use Rattle.board.specs.declared.Board as struct
use Rattle.board.specs.Reading.{view, is_spelt, is_sound}
use Rattle.board.proofs.Sound.{spelt_decides}
use Rattle.numbers.specs.declared.refusal.Refusal.{Refusal}
use Rattle.numbers.specs.Codes.{refusal_code}
use Rattle.numbers.proofs.Refusals.{refusal_not_done}
use Rattle.std.specs.Prelude.{Result, Err}
use Rattle.calls.specs.declared.Sent.{Sent}
use Rattle.calls.specs.Contract.{Served, served_in, served_by, good_serve, BurstOutcome, burst_now, good_burst, board_or, called_serve, bursted_by}
use Rattle.calls.specs.Contract.{called_burst}
use Rattle.board.specs.Leaving.{returned, replied, ids_after, lens_after, written, Known, ruled}
use Rattle.calls.specs.Promises.{lent, called}
use Rattle.spoilt.specs.Early.{early_code}

abbrev first : Bool → Bool → ℕ
first t u = cond t 3 (cond u 0 2)

module _ (b : struct.Board) (ids lens : List ℕ) (c : Call) where
  -- a code that is not 0 refuses the call
  call_early : (early_code b ids lens ≡ 0 → ⊥) → call (lent b ids lens) c ≡ refused_by (lent b ids lens) c (early_code b ids lens)
  unfolding early_code call is_sound
  call_early n = go (wrong_tables (length ids) (length lens)) refl (is_spelt b ids lens) refl (unspoilt (view b ids lens)) refl n
    where
      go : (t : Bool) → wrong_tables (length ids) (length lens) ≡ t → (u : Bool) → is_spelt b ids lens ≡ u → (v : Bool) → unspoilt (view b ids lens) ≡ v
          → (first t (u && v) ≡ 0 → ⊥)
          → by_tables (lent b ids lens) c (wrong_tables (length ids) (length lens)) ≡ refused_by (lent b ids lens) c (first t (u && v))
      go true e u f v g k = rw e
      go false e false f v g k = rw (e, f)
      go false e true f false g k = rw (e, f, g)
      go false e true f true g k = absurd (k refl)

  -- a value that is known to be good is given neither, and the rules say the rest
  call_known : Known b ids lens → call (lent b ids lens) c ≡ done! (view b ids lens) c
  unfolding call
  call_known k = rw (k.ids_all, k.lens_all, (spelt_decides b ids lens).no k.sound.spells, k.sound.keeps)

-- ---- as each call meets the two: it is refused before all else, or the value is known to be good

module _ (b : struct.Board) (ids lens : List ℕ) (r : Refusal) (e : refusal_code r ≡ early_code b ids lens) where
  early : (c : Call) → call (lent b ids lens) c ≡ refused_by (lent b ids lens) c (refusal_code r)
  early c = call_early b ids lens c (λ z. refusal_not_done r (e ∙ z)) ∙ ap (refused_by (lent b ids lens) c) (sym e)

  -- k is the code that the call answers with
  pub early_reply : (x : Single) (k : ℕ) → k ≡ refusal_code r → returned (replied k b) ids lens ≡ called b ids lens x
  unfolding called
  early_reply x k is = rw (is, early (one x)) (refused_reply (refusal_code r) (refusal_not_done r))
    where
      refused_reply : (k : ℕ) → (k ≡ 0 → ⊥) → returned (replied k b) ids lens ≡ written b ids lens (refused_by (lent b ids lens) (one x) k)
      refused_reply k m = rw (eqb_no k 0 m)

  pub early_serve : (o : Result Sent Refusal) → o ≡ Err r → returned (served_in o b) ids lens ≡ called_serve b ids lens
  unfolding called_serve
  early_serve o is = rw (is, early (one serve!))

  pub early_burst : (bytes : ℕ) (list : List ℕ)
      → returned (burst_now (record { count = 0; bytes = record { 0 = 0 }; code = refusal_code r; board = b }) list) ids lens
      ≡ called_burst b ids lens bytes list
  unfolding called_burst
  early_burst bytes list = rw (early (burst! bytes list))

module _ (b : struct.Board) (ids lens : List ℕ) (k : Known b ids lens) where
  pub called_known : (x : Single) → ruled b ids lens x ≡ called b ids lens x
  unfolding called ruled
  called_known x = ap (written b ids lens) (sym (call_known b ids lens (one x) k))

  -- n is the board that a step leaves, and next the board with what the step changed
  pub called_left : (x : Single) (code : ℕ) (n next : struct.Board) (ids' lens' : List ℕ) → n ≡ next
      → returned (replied code next) ids' lens' ≡ ruled b ids lens x → returned (replied code n) ids' lens' ≡ called b ids lens x
  called_left x code n next ids' lens' e w = ap (λ (c : struct.Board). returned (replied code c) ids' lens') e ∙ w ∙ called_known x

  pub serve_called : (r : Served) → r ≡ good_serve b ids lens → returned r ids lens ≡ called_serve b ids lens
  unfolding called_serve good_serve step
  serve_called r e =
      rw e (ap (λ (o : Outcome). returned (served_by b o.answer (board_or (view b ids lens) o.board)) (ids_after o.entries ids)
      (lens_after o.entries lens))
      (sym (call_known b ids lens (one serve!) k)))

  pub burst_called : (bytes : ℕ) (list : List ℕ) (r : BurstOutcome) → r ≡ good_burst b ids lens bytes list
      → returned r ids lens ≡ called_burst b ids lens bytes list
  unfolding called_burst good_burst
  burst_called bytes list r e =
      rw e (ap (λ (o : Outcome). returned (bursted_by b o.answer o.board o.list) (ids_after o.entries ids) (lens_after o.entries lens))
      (sym (call_known b ids lens (burst! bytes list) k)))
