-- A FEEDER IN C, as the player's state, and what the calls with a fragment promise of it
use Rattle.std.specs.Prelude.{◌≡◌, Bool, cond, not, ◌≢◌, List, ℕ, Result, eqb, replicate}
use Rattle.std.specs.Result.{result_unwrap_or}
use Rattle.numbers.specs.declared.refusal.Refusal.{Refusal}
use Rattle.operands.specs.declared.Fed.{Fed}
use Rattle.rules.specs.Board.{fresh}
use Rattle.board.specs.Reading.{encode}
use Rattle.log_bytes.specs.declared.Stage.{Stage}
use Rattle.log_bytes.specs.declared.Stage.TheVariants.{BeforeL, AfterL}
use Rattle.log_bytes.specs.Format.{past_l}
use Rattle.player.specs.declared.State.{State}
use Rattle.player.specs.Feeding.{Piece, before_first, FeedOf, CloseOf}
use Rattle.c_calls.specs.declared.Feeder.{Feeder}

-- A mark is 0 for no; every other number is yes.
abbrev pub stage_of : (mark : ℕ) → Stage
stage_of mark = cond (eqb mark 0) BeforeL AfterL

abbrev pub mark_of : Bool → ℕ
mark_of is = cond is 1 0

-- every value of a feeder is a state of the player
unfoldable pub state_of : Feeder → State
state_of f =
    record {
      reader = record { stage = stage_of f.made; at = f.at; came = f.came; kept = f.kept };
      over = not (eqb f.over 0);
      sent = record { 0 = f.sent };
      board = f.board;
    }

unfoldable pub feeder_of : State → Feeder
feeder_of s =
    record {
      board = s.board;
      at = s.reader.at;
      sent = s.sent.0;
      came = s.reader.came;
      kept = s.reader.kept;
      made = mark_of (past_l s.reader.stage);
      over = mark_of s.over;
    }

-- all zeros; the board with L 0 is all zeros too
abbrev pub zero_feeder : Feeder
zero_feeder =
    record { board = encode (fresh 0); at = 0; sent = 0; came = 0; kept = replicate 13 0; made = 0; over = 0 }

-- what C is told of what came of a call; after a refusal all of it is 0
abbrev pub fed_in : Result Fed Refusal → Fed
fed_in r = result_unwrap_or r (record { taken = 0; used = 0 })

-- the player's piece, from what C is told
abbrev pub piece_of : (code : ℕ) → Fed → Feeder → Piece
piece_of code t f = record { code = code; taken = t.taken; used = t.used; state = state_of f }

-- THE PROMISE of a call with a fragment: what the player promises of the state that the feeder is
pub record FeederFed (f : Feeder) (ids lens fragment out : List ℕ) (code : ℕ) (t : Fed) (f' : Feeder)
    (ids' lens' out' : List ℕ) : Type 0 where
  pub fed : FeedOf (state_of f) ids lens fragment out (piece_of code t f') ids' lens' out'
  pub same : code ≢ 0 → f' ≡ f

-- THE PROMISE of a call at the log's end
pub record FeederFinished (f : Feeder) (ids lens out : List ℕ) (code : ℕ) (t : Fed) (f' : Feeder) (out' : List ℕ)
    : Type 0 where
  pub finished : CloseOf (state_of f) ids lens out (piece_of code t f') out'
  pub same : code ≢ 0 → f' ≡ f

-- A feeder of all zeros is where a log begins.
abbrev pub ZeroBegins : Type 0
ZeroBegins = state_of zero_feeder ≡ before_first

-- What is stored in a feeder is read back as it was.
abbrev pub StoredBack : Type 0
StoredBack = (s : State) → state_of (feeder_of s) ≡ s
