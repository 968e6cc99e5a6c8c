-- THE CALLS (document 01, 'Codes the box gives'): what a call is lent, what it answers, and what it leaves.
-- Checks go down the table: 3, then 2, then the call's own codes.
use Rattle.std.specs.Prelude.{Bool, true, false, not, ◌&&◌, List, [], ◌++◌, ℕ, leb, eqb, length, drop}
use Rattle.std.proofs.Math.Option.{Option, none, some}
use Rattle.rules.specs.Board.{table_length, Record, Board, at, fresh}
use Rattle.rules.specs.Choice.{Out, refused, done, taken, sent, Turn, take_record, serve}
use Rattle.rules.specs.Blocks.{Opening, open_block, rename_block, close_block}
use Rattle.rules.specs.Burst.{burst}
use Rattle.rules.specs.Spoilt.{spoilt}

-- ---- The calls

-- the single calls that may follow a making
pub data Single : Type 0 where
  open! : Opening → Single
  rename! : (old new : ℕ) → Single
  close! : (block : ℕ) → Single
  record! : (block : ℕ) → Record → Single
  serve! : Single

unfoldable pub step : Board → Single → Turn
step b (open! o) = open_block b o
step b (rename! old new) = rename_block b old new
step b (close! n) = close_block b n
step b (record! n r) = take_record b n r
step b serve! = serve b

-- a single call, or a burst with a number of bytes and a lent list
pub data Call : Type 0 where
  one : Single → Call
  burst! : (bytes : ℕ) (list : List ℕ) → Call

-- ---- What the caller is told

-- A serve that is done also answers block, record, length and the slot's clock.
pub record Sent : Type 0 where
  pub block : ℕ
  pub number : ℕ
  pub bytes : ℕ
  pub clock : ℕ

-- the answer to a record that was taken
pub record Took : Type 0 where
  pub code : ℕ

-- a burst's count of records, the bytes they total, and the code that stopped it
pub record Bursted : Type 0 where
  pub count : ℕ
  pub total : ℕ
  pub code : ℕ

-- A refusal returns its code and no other number.
pub data Answer : Type 0 where
  gives : (code : ℕ) → Answer
  takes : Took → Answer
  sends : Sent → Answer
  bursts : Bursted → Answer

-- The block that is named is the one at the place, by the number that it has now.
abbrev pub told : Board → Out → Answer
told b (refused code) = gives code
told b done = gives 0
told b (taken a) = takes (record { code = 0 })
told b (sent s) =
    let r = s.front in
    sends (record { block = (at b s.place).number; number = r.number; bytes = r.bytes; clock = s.clock })

abbrev pub code_of : Answer → ℕ
code_of (gives code) = code
code_of (takes a) = a.code
code_of (sends s) = 0
code_of (bursts r) = r.code

-- ---- What a call is lent, and what it leaves

-- how many entries the two lent tables have, and the board that the lent value spells, or none where it spells none
pub record Lent : Type 0 where
  pub numbers : ℕ
  pub lengths : ℕ
  pub board : Option Board

-- Taking a record changes one entry in each table. Making a board clears both. No other call changes one.
pub data Entries : Type 0 where
  kept : Entries
  cleared : Entries
  one_set : (entry : ℕ) → Record → Entries

-- a call's lent list is empty but for a burst's
pub record Outcome : Type 0 where
  pub answer : Answer
  pub board : Option Board
  pub entries : Entries
  pub list : List ℕ

abbrev pub list_of : Call → List ℕ
list_of (one x) = []
list_of (burst! bytes list) = list

-- a lent table hasn't 2,048 entries
abbrev pub wrong_tables : (numbers lengths : ℕ) → Bool
wrong_tables numbers lengths = not (eqb numbers table_length && eqb lengths table_length)

-- the entry that a taken record is written to
abbrev pub writes : Single → Out → Entries
writes (open! x) o = kept
writes (rename! old new) o = kept
writes (close! n) o = kept
writes (record! n r) (refused code) = kept
writes (record! n r) done = kept
writes (record! n r) (taken a) = one_set a.entry r
writes (record! n r) (sent s) = kept
writes serve! o = kept

-- a call on a board that is not spoilt
-- Of a burst's list only the first entries, as many as the count, are written.
abbrev pub done! : Board → Call → Outcome
done! b (one x) =
    record {
      answer = told b (step b x).out;
      board = some (step b x).next;
      entries = writes x (step b x).out;
      list = [];
    }
done! b (burst! bytes list) =
    record {
      answer =
          bursts (record {
            count = (burst b bytes (length list)).count;
            total = (burst b bytes (length list)).total;
            code = (burst b bytes (length list)).code;
          });
      board = some (burst b bytes (length list)).next;
      entries = kept;
      list = (burst b bytes (length list)).numbers ++ drop (length (burst b bytes (length list)).numbers) list;
    }

abbrev pub refused_by : Lent → Call → (code : ℕ) → Outcome
refused_by lent c code = record { answer = gives code; board = lent.board; entries = kept; list = list_of c }

abbrev pub unless_spoilt : Lent → Call → (spoilt : Bool) → Board → Outcome
unless_spoilt lent c true b = refused_by lent c 2
unless_spoilt lent c false b = done! b c

abbrev pub by_board : Lent → Call → Option Board → Outcome
by_board lent c none = refused_by lent c 2
by_board lent c (some b) = unless_spoilt lent c (spoilt b) b

abbrev pub by_tables : Lent → Call → (wrong : Bool) → Outcome
by_tables lent c true = refused_by lent c 3
by_tables lent c false = by_board lent c lent.board

-- any call but a making
unfoldable pub call : Lent → Call → Outcome
call lent c = by_tables lent c (wrong_tables lent.numbers lent.lengths)

-- ---- Making a board: codes 3, 4. A refused making gives the spoilt board of all zeros; a done one clears both tables.

abbrev pub refused_making : (code : ℕ) → Outcome
refused_making code = record { answer = gives code; board = some (fresh 0); entries = kept; list = [] }

abbrev pub make_by : (wrong outside : Bool) (L : ℕ) → Outcome
make_by true outside L = refused_making 3
make_by false true L = refused_making 4
make_by false false L = record { answer = gives 0; board = some (fresh L); entries = cleared; list = [] }

unfoldable pub make : (numbers lengths L : ℕ) → Outcome
make numbers lengths L = make_by (wrong_tables numbers lengths) (not (leb 64 L && leb L 2048)) L
