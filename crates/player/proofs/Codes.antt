-- The code of a call, and what is known of a state that is not refused. Assumes nothing.
use mathlib.Core.Path.{◌≡◌, refl, sym, ap, ◌∙◌}
use mathlib.Core.Bool.{Bool, true, false, cond, not, ◌&&◌, ◌||◌, true≢false}
use mathlib.Core.List.{List}
use Prim.Native.Nat.{ℕ, ◌/◌, ◌≤◌}
use borrow.Author.Tests.{le-ltb}
use lib.Dec.{ltb}
use lib.ListN.{length}
use Rattle.board.specs.Reading.{is_sound}
use Rattle.board.specs.Leaving.{Known}
use Rattle.board.proofs.Tables.{none_wrong}
use Rattle.spoilt.proofs.Before.{sound_known}
use Rattle.log_bytes.specs.Format.{past_l}
use Rattle.fragments.specs.Kept.{is_fit}
use Rattle.fragments.proofs.Kept.{fit_is, fit_only}
use Rattle.player.specs.declared.State.{State}
use Rattle.player.specs.Feeding.{unfit, feed_code, ended_state, CanGoOn}

-- where the tables have their length
pub right_code : (s : State) (ids lens : List ℕ) → length ids ≡ 2048 → length lens ≡ 2048
    → feed_code s ids lens ≡ cond s.over 0 (cond (unfit s ids lens) 2 0)
unfolding feed_code
right_code s ids lens a d = ap (λ (t : Bool). cond t 3 (cond s.over 0 (cond (unfit s ids lens) 2 0))) (none_wrong (length ids) (length lens) a d)

-- a state in which the listing is over is not refused
pub over_code : (s : State) (ids lens : List ℕ) → length ids ≡ 2048 → length lens ≡ 2048 → feed_code (ended_state s) ids lens ≡ 0
over_code s ids lens a d = right_code (ended_state s) ids lens a d

-- nor is one from which it goes on
pub can_code : (s : State) (ids lens : List ℕ) → CanGoOn s ids lens → feed_code s ids lens ≡ 0
can_code s ids lens k =
    right_code s ids lens k.ids_all k.lens_all ∙ ap (λ (t : Bool). cond t 0 (cond (unfit s ids lens) 2 0)) k.going
    ∙ go (is_fit s.reader.at s.reader.kept s.reader.came s.reader.stage) (past_l s.reader.stage)
    (fit_is s.reader.at s.reader.kept s.reader.came s.reader.stage k.fit k.low) refl
  where
    go : (f t : Bool) → f ≡ true → past_l s.reader.stage ≡ t
        → ◌≡◌ {A = ℕ} (cond (not f || (t && (ltb (s.reader.at / 3) (s.sent.0 / 65536) || not (is_sound s.board ids lens)))) 2 0) 0
    go true true h p = rw (le-ltb _ _ (k.few p), sound_known _ _ _ (k.good p))
    go true false h p = refl
    go false t h p = absurd (true≢false (sym h))

module _ (s : State) (ids lens : List ℕ) (a : length ids ≡ 2048) (d : length lens ≡ 2048) where
  -- what is known of a state that is not refused
  module _ (f : is_fit s.reader.at s.reader.kept s.reader.came s.reader.stage ≡ true) (r : length s.reader.kept ≡ 13) where
    pub can_before : past_l s.reader.stage ≡ false → s.over ≡ false → CanGoOn s ids lens
    can_before p e =
        let fit! = fit_only s.reader.at s.reader.kept s.reader.came s.reader.stage f in
        record {
          going = e;
          fit = fit!.0;
          low = fit!.1;
          room = r;
          ids_all = a;
          lens_all = d;
          few = λ q. absurd (true≢false (sym q ∙ p));
          good = λ q. absurd (true≢false (sym q ∙ p));
        }

    pub can_past : s.sent.0 / 65536 ≤ s.reader.at / 3 → Known s.board ids lens → s.over ≡ false → CanGoOn s ids lens
    can_past m k e =
        let fit! = fit_only s.reader.at s.reader.kept s.reader.came s.reader.stage f in
        record { going = e; fit = fit!.0; low = fit!.1; room = r; ids_all = a; lens_all = d; few = λ q. m; good = λ q. k }
