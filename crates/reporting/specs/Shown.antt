-- WORKING DEFINITIONS: the report's lines on the board's arrays and the counts beside them, and what showing them does.
-- Theorems tie them to the report's definition.
use Rattle.std.specs.Prelude.{◌≡◌, Bool, true, false, cond, ◌&&◌, ◌⊎◌, List, [], ◌++◌, ℕ, zero, suc, ◌-◌, ◌≤◌, ◌<◌, ltb}
use Rattle.std.specs.Prelude.{length, get_or, take, drop}
use Rattle.board.specs.declared.Board.{Board}
use Rattle.log_bytes.specs.declared.End.{End}
use Rattle.log_bytes.specs.declared.End.TheVariants.{Whole as whole, Broken as broken, Long as long}
use Rattle.log_bytes.specs.Format.{past_l}
use Rattle.report_lines.specs.Text.{account_line}
use Rattle.accounts.specs.Accounts.{Account}
use Rattle.report_rules.specs.Report.{difference}
use Rattle.counting.specs.Counting.{Tallies, tallies_of, account_now}
use Rattle.report_play.specs.declared.State.{State}
use Rattle.reporting.specs.Feeding.{Piece, ended_state}

-- the line of a block with this share, number and account; none where no block has the place
abbrev pub line_by : (share number : ℕ) → Account → List ℕ
line_by share number a =
    cond (ltb 0 share) (account_line number a.slots a.credit a.bytes (difference a) a.lost) []

abbrev pub line_at : Board → Tallies → (p : ℕ) → List ℕ
line_at b t p = line_by (get_or b.shares p 0) (get_or b.numbers p 0) (account_now t p)

-- the lines of so many places, from p on
unfoldable pub lines_in : Board → Tallies → (p n : ℕ) → List ℕ
lines_in b t p zero = []
lines_in b t p (suc n) = line_at b t p ++ lines_in b t (suc p) n

abbrev pub lines_from_in : Board → Tallies → (p : ℕ) → List ℕ
lines_from_in b t p = lines_in b t p (64 - p)

-- whether the counting has stopped; before L nothing is counted
abbrev pub has_stopped : State → Bool
has_stopped s = past_l s.reader.stage && s.counts.full

-- whether a report is one line: the counting has stopped, or the log does not end whole
abbrev pub is_alone : (full : Bool) → End → Bool
is_alone full whole = full
is_alone full (broken offset) = true
is_alone full long = true

-- the same state with other places shown
abbrev pub showing : State → (shown : ℕ) → State
showing s shown =
    record {
      reader = s.reader;
      over = false;
      shown = shown;
      board = s.board;
      counts = s.counts;
    }

-- The lines from a place on are written as far as there is room, and at least that of one place.
pub record PlacesShown (s : State) (out : List ℕ) (x : Piece) (out' : List ℕ) : Type 0 where
  pub done : x.code ≡ 0
  pub none : x.taken ≡ 0
  pub fits : x.used ≤ length out
  pub joined : take x.used out'
      ++ cond x.state.over [] (lines_from_in s.board (tallies_of s.counts) x.state.shown)
      ≡ lines_from_in s.board (tallies_of s.counts) s.shown
  pub rest : drop x.used out' ≡ drop x.used out
  pub stays : (x.state ≡ ended_state s)
      ⊎ ((x.state ≡ showing s x.state.shown) × ((s.shown < x.state.shown) × (x.state.shown ≤ 64)))
