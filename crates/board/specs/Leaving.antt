-- WHAT A CALL LEAVES IN MEMORY: its reply and both tables, from what the rules say of it (crate rules,
-- specs/Calls.antt).
use Rattle.std.specs.Prelude.{◌≡◌, cond, List, ℕ, eqb, length, set, replicate}
use Rattle.std.proofs.Math.Option.{Option, none, some}
use Rattle.rules.specs.Board
use Rattle.rules.specs.Board.{table_length}
use Rattle.rules.specs.Calls.{Single, one, Answer, gives, takes, sends, bursts, code_of, Entries, kept, cleared}
use Rattle.rules.specs.Calls.{one_set}
use Rattle.rules.specs.Calls.{Outcome, done! }
use Rattle.board.specs.declared.Board as struct
use Rattle.board.specs.Reading.{encode, view, Sound}

-- what a call gives back to its caller: its reply, and both tables
pub record Returned (A : Type 0) : Type 0 where
  pub reply : A
  pub ids : List ℕ
  pub lens : List ℕ

abbrev pub returned : {A : Type 0} → A → (ids lens : List ℕ) → Returned A
returned reply ids lens = record { reply = reply; ids = ids; lens = lens }

-- Every promise equates what is returned with a function of what was given; so no second answer fits it.
abbrev pub NoSecondAnswer : Type 0 → Type 0
NoSecondAnswer A =
    (promised : Returned A) (r s : A) (ids lens ids' lens' : List ℕ)
    → returned r ids lens ≡ promised → returned s ids' lens' ≡ promised → (r ≡ s) × (ids ≡ ids') × (lens ≡ lens')

-- what a single call replies: its code, and the board
pub record Reply : Type 0 where
  pub code : ℕ
  pub board : struct.Board

abbrev pub replied : (code : ℕ) → struct.Board → Reply
replied code b = record { code = code; board = b }

-- ---- What the rules say, written in memory

-- Taking a record sets one entry in each table, and a making clears both.
abbrev pub ids_after : Entries → (ids : List ℕ) → List ℕ
ids_after kept ids = ids
ids_after cleared ids = replicate (length ids) 0
ids_after (one_set e r) ids = set ids e r.number

abbrev pub lens_after : Entries → (lens : List ℕ) → List ℕ
lens_after kept lens = lens
lens_after cleared lens = replicate (length lens) 0
lens_after (one_set e r) lens = set lens e r.bytes

-- the board that is returned, as a value; b where there is none
abbrev pub spelt : struct.Board → Option Board.Board → struct.Board
spelt b none = b
spelt b (some m) = encode m

-- A refusal gives the value back that was lent.
abbrev pub board_after : struct.Board → Answer → Option Board.Board → struct.Board
board_after b (gives code) next = cond (eqb code 0) (spelt b next) b
board_after b (takes a) next = spelt b next
board_after b (sends s) next = spelt b next
board_after b (bursts r) next = spelt b next

abbrev pub written : struct.Board → (ids lens : List ℕ) → Outcome → Returned Reply
written b ids lens o =
    returned (replied (code_of o.answer) (board_after b o.answer o.board)) (ids_after o.entries ids)
    (lens_after o.entries lens)

-- ---- A call on a board that is known to be good

-- what is known of a board and its tables within a run
pub record Known (b : struct.Board) (ids lens : List ℕ) : Type 0 where
  pub sound : Sound b ids lens
  pub ids_all : length ids ≡ table_length
  pub lens_all : length lens ≡ table_length

-- open, rename, close and record: what the rules make of the board that is read
unfoldable pub ruled : struct.Board → (ids lens : List ℕ) → Single → Returned Reply
ruled b ids lens x = written b ids lens (done! (view b ids lens) (one x))
