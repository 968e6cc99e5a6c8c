-- A feeder in C is the player's state, and what C is told of a piece is the piece. Assumes nothing.
use mathlib.Core.Path.{◌≡◌, refl, sym, subst}
use mathlib.Core.Bool.{Bool, true, false, not}
use mathlib.Core.List.{List}
use Prim.Native.Nat.{ℕ}
use lib.Dec.{eqb}
use Rattle.std.specs.Prelude.{Result, Ok, Err}
use Rattle.numbers.specs.declared.refusal.Refusal.{Refusal}
use Rattle.numbers.specs.Codes.{outcome_code}
use Rattle.numbers.proofs.Refusals.{refusal_not_done}
use Rattle.operands.specs.declared.Fed.{Fed}
use Rattle.log_bytes.specs.declared.Stage.{Stage}
use Rattle.log_bytes.specs.declared.Stage.TheVariants.{BeforeL, AfterL}
use Rattle.log_bytes.specs.Format.{past_l}
use Rattle.player.specs.declared.State.{State}
use Rattle.player.specs.Feeding.{Piece, piece_in, FeedOf, CloseOf}
use Rattle.c_calls.specs.declared.Feeder.{Feeder}
use Rattle.c_calls.specs.Feeding.{stage_of, mark_of, state_of, feeder_of, fed_in, piece_of}
use Rattle.c_calls.specs.Feeding.{FeederFed, FeederFinished, ZeroBegins, StoredBack}

pub zero_begins : ZeroBegins
unfolding state_of
zero_begins = refl

stage_back : (stage : Stage) → stage_of (mark_of (past_l stage)) ≡ stage
stage_back BeforeL = refl
stage_back AfterL = refl

mark_back : (b : Bool) → not (eqb (mark_of b) 0) ≡ b
mark_back true = refl
mark_back false = refl

pub stored_back : StoredBack
unfolding state_of feeder_of
stored_back s = λ j. record {
  reader = record { stage = stage_back s.reader.stage j; at = s.reader.at; came = s.reader.came; kept = s.reader.kept };
  over = mark_back s.over j;
  sent = s.sent;
  board = s.board;
}

-- what is done is stored
stored : (t : Fed) (s : State) → piece_in (Ok t) s ≡ piece_of 0 t (feeder_of s)
stored t s = λ j. record { code = 0; taken = t.taken; used = t.used; state = sym (stored_back s) j }

module _ (f : Feeder) (ids lens fragment out ids' lens' out' : List ℕ) (s : State) where
  pub fed_refused : (e : Refusal) → FeedOf (state_of f) ids lens fragment out (piece_in (Err e) s) ids' lens' out' → (o : Result Fed Refusal) → o ≡ Err e
      → FeederFed f ids lens fragment out (outcome_code o) (fed_in o) f ids' lens' out'
  fed_refused e p o is =
      rw is (record {
        fed = subst (λ (x : Piece). FeedOf (state_of f) ids lens fragment out x ids' lens' out') (p.refused (refusal_not_done e)).0 p;
        same = λ ne. refl;
      })

  pub fed_done : (t : Fed) → FeedOf (state_of f) ids lens fragment out (piece_in (Ok t) s) ids' lens' out'
      → FeederFed f ids lens fragment out 0 t (feeder_of s) ids' lens' out'
  fed_done t p = record {
    fed = subst (λ (x : Piece). FeedOf (state_of f) ids lens fragment out x ids' lens' out') (stored t s) p;
    same = λ ne. absurd (ne refl);
  }

module _ (f : Feeder) (ids lens out out' : List ℕ) (s : State) where
  pub finish_refused : (e : Refusal) → CloseOf (state_of f) ids lens out (piece_in (Err e) s) out' → (o : Result Fed Refusal) → o ≡ Err e
      → FeederFinished f ids lens out (outcome_code o) (fed_in o) f out'
  finish_refused e p o is =
      rw is (record {
        finished = subst (λ (x : Piece). CloseOf (state_of f) ids lens out x out') (p.refused (refusal_not_done e)).0 p;
        same = λ ne. refl;
      })

  pub finish_done : (t : Fed) → CloseOf (state_of f) ids lens out (piece_in (Ok t) s) out'
      → FeederFinished f ids lens out 0 t (feeder_of s) out'
  finish_done t p = record {
    finished = subst (λ (x : Piece). CloseOf (state_of f) ids lens out x out') (stored t s) p;
    same = λ ne. absurd (ne refl);
  }
