-- The code of a call, test by test, and what is known of a state that is not refused. Assumes nothing.
use mathlib.Core.Path.{◌≡◌, refl, sym, ap, ◌∙◌}
use mathlib.Core.Bool.{Bool, true, false, cond, not, ◌&&◌, ◌||◌, true≢false}
use mathlib.Core.Logic.{◌≢◌}
use mathlib.Core.List.{List}
use Prim.Native.Nat.{ℕ, ◌^◌, ◌≤◌}
use native.Mathlib.Omega.{arith}
use lib.ListN.{length}
use Rattle.board.specs.Reading.{is_sound}
use Rattle.rules.specs.Calls.{wrong_tables}
use Rattle.board.proofs.Tables.{right_tables, none_wrong}
use Rattle.spoilt.specs.Early.{early_code}
use Rattle.spoilt.proofs.Before.{sound_known}
use Rattle.log_bytes.specs.Format.{past_l}
use Rattle.log_bytes.proofs.Wholes.{part_is}
use Rattle.fragments.specs.Kept.{is_fit}
use Rattle.fragments.proofs.Kept.{fit_is, fit_only}
use Rattle.counting.specs.Counting.{counts_fit_now}
use Rattle.counting.proofs.Fitting.{counts_fit_decides}
use Rattle.report_fields.specs.Fields.{KnownLedger}
use Rattle.report_play.specs.declared.State.{State}
use Rattle.report_play.specs.Playing.{ledger_of, offset_of}
use Rattle.reporting.specs.Feeding.{unfit, feed_code, ended_state, CanGoOn}

module _ (s : State) (ids lens : List ℕ) (a : length ids ≡ 2048) (d : length lens ≡ 2048) where
  abbrev fits : Bool
  fits = is_fit s.reader.at s.reader.kept s.reader.came s.reader.stage

  -- after L: the board, and the counts beside it
  abbrev unsound : Bool
  unsound = not (is_sound s.board ids lens)

  abbrev uncounted : Bool
  uncounted = not (counts_fit_now s.board s.counts)

  tables_right : feed_code s ids lens ≡ cond s.over 0 (cond (unfit s ids lens) 2 0)
  unfolding feed_code
  tables_right = ap (λ (t : Bool). cond t 3 (cond s.over 0 (cond (unfit s ids lens) 2 0))) (none_wrong (length ids) (length lens) a d)

  pub code_over : s.over ≡ true → 0 ≡ feed_code s ids lens
  code_over e = sym (tables_right ∙ ap (λ (t : Bool). cond t 0 (cond (unfit s ids lens) 2 0)) e)

  early_is : early_code s.board ids lens ≡ cond (is_sound s.board ids lens) 0 2
  unfolding early_code
  early_is = ap (λ (t : Bool). cond t 3 (cond (is_sound s.board ids lens) 0 2)) (none_wrong (length ids) (length lens) a d)

  module _ (going : s.over ≡ false) where
    going_code : feed_code s ids lens ≡ cond (unfit s ids lens) 2 0
    going_code = tables_right ∙ ap (λ (t : Bool). cond t 0 (cond (unfit s ids lens) 2 0)) going

    pub code_kept : fits ≡ false → 2 ≡ feed_code s ids lens
    code_kept e = sym (going_code ∙ ap (λ (t : Bool). cond (not t || (past_l s.reader.stage && (unsound || uncounted))) 2 0) e)

    module _ (e : fits ≡ true) where
      fit_code : feed_code s ids lens ≡ cond (past_l s.reader.stage && (unsound || uncounted)) 2 0
      fit_code = going_code ∙ ap (λ (t : Bool). cond (not t || (past_l s.reader.stage && (unsound || uncounted))) 2 0) e

      pub code_before : past_l s.reader.stage ≡ false → 0 ≡ feed_code s ids lens
      code_before p = sym (fit_code ∙ ap (λ (t : Bool). cond (t && (unsound || uncounted)) 2 0) p)

      module _ (p : past_l s.reader.stage ≡ true) where
        past_code : feed_code s ids lens ≡ cond (unsound || uncounted) 2 0
        past_code = fit_code ∙ ap (λ (t : Bool). cond (t && (unsound || uncounted)) 2 0) p

        pub code_early : early_code s.board ids lens ≢ 0 → early_code s.board ids lens ≡ feed_code s ids lens
        code_early ne = early_is ∙ go (is_sound s.board ids lens) refl
          where
            go : (t : Bool) → is_sound s.board ids lens ≡ t → ◌≡◌ {A = ℕ} (cond t 0 2) (feed_code s ids lens)
            go true q = absurd (ne (early_is ∙ ap (λ (t : Bool). cond t 0 2) q))
            go false q = sym (past_code ∙ ap (λ (t : Bool). cond (not t || uncounted) 2 0) q)

        module _ (sound : is_sound s.board ids lens ≡ true) where
          sound_code : feed_code s ids lens ≡ cond uncounted 2 0
          sound_code = past_code ∙ ap (λ (t : Bool). cond (not t || uncounted) 2 0) sound

          pub code_counts : counts_fit_now s.board s.counts ≡ false → 2 ≡ feed_code s ids lens
          code_counts q = sym (sound_code ∙ ap (λ (t : Bool). cond (not t) 2 0) q)

          pub code_ready : counts_fit_now s.board s.counts ≡ true → 0 ≡ feed_code s ids lens
          code_ready q = sym (sound_code ∙ ap (λ (t : Bool). cond (not t) 2 0) q)

-- a state from which a report goes on is not refused
pub can_code : (s : State) (ids lens : List ℕ) → CanGoOn s ids lens → feed_code s ids lens ≡ 0
can_code s ids lens k = go (past_l s.reader.stage) refl
  where
    e : is_fit s.reader.at s.reader.kept s.reader.came s.reader.stage ≡ true
    e = fit_is s.reader.at s.reader.kept s.reader.came s.reader.stage k.fit k.low

    go : (t : Bool) → past_l s.reader.stage ≡ t → feed_code s ids lens ≡ 0
    go true p =
        let l = k.good p in
        sym (code_ready s ids lens k.ids_all k.lens_all k.going e p (sound_known s.board ids lens l.good)
        ((counts_fit_decides s.board ids lens s.counts l.good l.sized).no l.fits))
    go false p = sym (code_before s ids lens k.ids_all k.lens_all k.going e p)

-- nor is one where the report is over
pub over_code : (s : State) (ids lens : List ℕ) → length ids ≡ 2048 → length lens ≡ 2048 → feed_code (ended_state s) ids lens ≡ 0
over_code s ids lens a d = sym (code_over (ended_state s) ids lens a d refl)

-- ---- and what is known of one that is not refused

module _ (s : State) (ids lens : List ℕ) (a : length ids ≡ 2048) (d : length lens ≡ 2048)
    (f : is_fit s.reader.at s.reader.kept s.reader.came s.reader.stage ≡ true) where
  can_go : (past_l s.reader.stage ≡ true → KnownLedger (ledger_of s ids lens)) → s.over ≡ false → CanGoOn s ids lens
  can_go l e =
      let fit! = fit_only s.reader.at s.reader.kept s.reader.came s.reader.stage f in
      record { going = e; fit = fit!.0; low = fit!.1; ids_all = a; lens_all = d; good = l }

  pub can_before : past_l s.reader.stage ≡ false → s.over ≡ false → CanGoOn s ids lens
  can_before p = can_go (λ q. absurd (true≢false (sym q ∙ p)))

  pub can_past : KnownLedger (ledger_of s ids lens) → s.over ≡ false → CanGoOn s ids lens
  can_past k = can_go (λ q. k)

-- a state that is not refused, and not over, is at an offset of no byte past the end of every log
pub code_low : (s : State) (ids lens : List ℕ) → feed_code s ids lens ≡ 0 → s.over ≡ false → offset_of s ≤ 2 ^ 48
unfolding feed_code
code_low s ids lens z e = go (wrong_tables (length ids) (length lens)) refl z
  where
    low : is_fit s.reader.at s.reader.kept s.reader.came s.reader.stage ≡ true → offset_of s ≤ 2 ^ 48
    low f =
        let fit! = fit_only s.reader.at s.reader.kept s.reader.came s.reader.stage f in
        omega (arith, fit!.1, (part_is s.reader.at s.reader.kept s.reader.came s.reader.stage s.reader.came fit!.0).low)

    by_fit : (t : Bool) → is_fit s.reader.at s.reader.kept s.reader.came s.reader.stage ≡ t → feed_code s ids lens ≡ 0 → length ids ≡ 2048 → length lens ≡ 2048
        → offset_of s ≤ 2 ^ 48
    by_fit true f q a d = low f
    by_fit false f q a d = absurd (omega (arith, code_kept s ids lens a d e f, q))

    go : (t : Bool) → wrong_tables (length ids) (length lens) ≡ t → ◌≡◌ {A = ℕ} (cond t 3 (cond s.over 0 (cond (unfit s ids lens) 2 0))) 0
        → offset_of s ≤ 2 ^ 48
    go true q w = absurd (omega arith)
    go false q w =
        let tables = right_tables (length ids) (length lens) q in
        by_fit (is_fit s.reader.at s.reader.kept s.reader.came s.reader.stage) refl z tables.0 tables.1
