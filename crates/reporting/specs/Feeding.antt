-- THE REPORT FROM FRAGMENTS: what a call writes, joined with what is left after it, is what was left before it.
use Rattle.std.specs.Prelude.{◌≡◌, Bool, true, false, cond, not, ◌&&◌, ◌||◌, ◌≢◌, ◌⊎◌, List, [], ◌++◌, ℕ, ◌+◌, ◌^◌, ◌≤◌}
use Rattle.std.specs.Prelude.{◌<◌, length, Result, Ok, Err}
use Rattle.numbers.specs.declared.refusal.Refusal.{Refusal}
use Rattle.numbers.specs.Codes.{refusal_code}
use Rattle.operands.specs.declared.Fed.{Fed}
use Rattle.rules.specs.Board.{fresh}
use Rattle.rules.specs.Calls.{wrong_tables}
use Rattle.board.specs.Reading.{encode, is_sound}
use Rattle.log_bytes.specs.declared.Next.TheVariants.{Unfinished}
use Rattle.log_bytes.specs.Format.{past_l, next_in}
use Rattle.fragments.specs.Kept.{kept_bytes, is_fit}
use Rattle.fragments.specs.Readers.{before_log}
use Rattle.fragments.specs.Feeding.{Told, Closed, Telling}
use Rattle.report_rules.specs.Report.{Reporting, unmade, report_from, report_of}
use Rattle.counting.specs.Counting.{zero_counts, counts_fit_now}
use Rattle.report_fields.specs.Fields.{reads, KnownLedger}
use Rattle.report_play.specs.declared.State.{State}
use Rattle.report_play.specs.Playing.{ledger_of, offset_of}

-- before the first fragment: L has not been read, there is no board yet, and nothing is counted or shown
abbrev pub before_first : State
before_first =
    record {
      reader = before_log;
      over = false;
      shown = 0;
      board = encode (fresh 0);
      counts = zero_counts;
    }

-- ---- What stands in memory between two calls

pub record Held : Type 0 where
  pub state : State
  pub ids : List ℕ
  pub lens : List ℕ

abbrev pub held : State → (ids lens : List ℕ) → Held
held s ids lens = record { state = s; ids = ids; lens = lens }

-- as the report's definition reads it; before L there is no board
abbrev pub reporting : Held → Reporting
reporting h = cond (past_l h.state.reader.stage) (reads (ledger_of h.state h.ids h.lens)) unmade

-- what of the report is still to be written, if these bytes follow and the log then ends
unfoldable pub rest_of : Held → (later : List ℕ) → List ℕ
rest_of h later =
    let s = h.state in
    cond s.over [] (report_from (reporting h) s.shown s.reader.at
    (kept_bytes s.reader.kept s.reader.came ++ later) s.reader.stage)

abbrev pub is_over : Held → Bool
is_over h = h.state.over

-- ---- What is tested

-- What is kept is no part of a field, or its offset is past 2^48; and after L the board is spoilt, or the counts cannot
-- be those of a run to it: no call leaves such a state.
abbrev pub unfit : State → (ids lens : List ℕ) → Bool
unfit s ids lens =
    not (is_fit s.reader.at s.reader.kept s.reader.came s.reader.stage)
    || (past_l s.reader.stage && (not (is_sound s.board ids lens) || not (counts_fit_now s.board s.counts)))

-- A table of another length is 3. Where the report is not over, an unfit state is 2.
unfoldable pub feed_code : State → (ids lens : List ℕ) → ℕ
feed_code s ids lens =
    cond (wrong_tables (length ids) (length lens)) 3 (cond s.over 0 (cond (unfit s ids lens) 2 0))

-- what is known of a state from which a report goes on
pub record CanGoOn (s : State) (ids lens : List ℕ) : Type 0 where
  pub going : s.over ≡ false
  pub fit : next_in s.reader.at s.reader.kept s.reader.came s.reader.stage ≡ Unfinished s.reader.came
  pub low : s.reader.at ≤ 2 ^ 48
  pub ids_all : length ids ≡ 2048
  pub lens_all : length lens ≡ 2048
  pub good : past_l s.reader.stage ≡ true → KnownLedger (ledger_of s ids lens)

-- ---- What a call does

-- A piece of a report: the code of a refusal, or 0; how many bytes of the fragment were taken, and how many were
-- written; and the state to go on from.
pub record Piece : Type 0 where
  pub code : ℕ
  pub taken : ℕ
  pub used : ℕ
  pub state : State

abbrev pub piece : Fed → State → Piece
piece fed s = record { code = 0; taken = fed.taken; used = fed.used; state = s }

abbrev pub piece_in : Result Fed Refusal → State → Piece
piece_in (Ok fed) s = piece fed s
piece_in (Err refusal) s = record { code = refusal_code refusal; taken = 0; used = 0; state = s }

-- Nothing is written, and this is the state to go on from.
abbrev pub stayed : (code taken : ℕ) → State → Piece
stayed code taken s = record { code = code; taken = taken; used = 0; state = s }

-- The report is over.
abbrev pub ended_state : State → State
ended_state s =
    record {
      reader = s.reader;
      over = true;
      shown = s.shown;
      board = s.board;
      counts = s.counts;
    }

abbrev pub ended_piece : (taken used : ℕ) → State → Piece
ended_piece taken used s = record { code = 0; taken = taken; used = used; state = ended_state s }

-- what a call with a fragment does that is not refused
pub record FeedDone (s : State) (ids lens fragment out : List ℕ) (r : Piece) (ids' lens' out' : List ℕ) : Type 0 where
  pub done : r.code ≡ 0
  pub told : Told rest_of (held s ids lens) fragment out r.taken r.used (held r.state ids' lens') out'
  -- the next call is not refused
  pub goes_on : feed_code r.state ids' lens' ≡ 0
  -- a report is written at its end alone
  pub quiet : r.state.over ≡ false → r.used ≡ 0
  -- With room for a line all is taken, unless L was not read before; of a fragment that has bytes some are taken then.
  pub all : 128 ≤ length out → (r.taken ≡ length fragment) ⊎ (past_l s.reader.stage ≡ false)
  pub moves : 128 ≤ length out → 0 < length fragment → 0 < r.taken
  -- the offset moves on by what is taken
  pub onward : r.state.over ≡ false → offset_of r.state ≡ offset_of s + r.taken

-- THE PROMISE of a call with a fragment, for every state, table, fragment and buffer
pub record FeedOf (s : State) (ids lens fragment out : List ℕ) (r : Piece) (ids' lens' out' : List ℕ) : Type 0 where
  pub code : r.code ≡ feed_code s ids lens
  pub refused : r.code ≢ 0 → (r ≡ stayed r.code 0 s) × ((ids' ≡ ids) × ((lens' ≡ lens) × (out' ≡ out)))
  pub done : r.code ≡ 0 → FeedDone s ids lens fragment out r ids' lens' out'

-- what a call at the log's end does that is not refused; with room for a line at least one place is shown, or the
-- report is over
pub record CloseDone (s : State) (ids lens out : List ℕ) (r : Piece) (out' : List ℕ) : Type 0 where
  pub done : r.code ≡ 0
  pub none : r.taken ≡ 0
  pub closed : Closed rest_of (held s ids lens) out r.used (held r.state ids lens) out'
  pub goes_on : feed_code r.state ids lens ≡ 0
  pub moves : 128 ≤ length out
      → (r.state.over ≡ true) ⊎ ((s.shown < r.state.shown) × (r.state.shown ≤ 64))

-- THE PROMISE of a call at the log's end, for every state, table and buffer
pub record CloseOf (s : State) (ids lens out : List ℕ) (r : Piece) (out' : List ℕ) : Type 0 where
  pub code : r.code ≡ feed_code s ids lens
  pub refused : r.code ≢ 0 → (r ≡ stayed r.code 0 s) × (out' ≡ out)
  pub done : r.code ≡ 0 → CloseDone s ids lens out r out'

-- ---- The whole report

-- However the log is cut, what the calls write, joined, is its report.
abbrev pub FeedsReport : Type 0
FeedsReport = (log ids lens written : List ℕ)
    → Telling rest_of is_over (held before_first ids lens) log written → written ≡ report_of log
