-- A FRAGMENT PLAYED, from a state on: whatever comes later, the report of what is left is the same, or it is one line.
use Rattle.std.specs.Prelude.{◌≡◌, Bool, true, false, cond, List, [], ◌++◌, ℕ, ◌+◌, ◌^◌, ◌≤◌, length, Result, Ok, Err}
use Rattle.log_bytes.specs.declared.End.{End}
use Rattle.log_bytes.specs.declared.End.TheVariants.{Whole as whole, Broken as broken, Long as long}
use Rattle.log_bytes.specs.declared.Next.TheVariants.{Unfinished}
use Rattle.log_bytes.specs.Format.{past_l, next_in}
use Rattle.lines.specs.Listing.{broken_line, long_line}
use Rattle.fragments.specs.Kept.{kept_bytes}
use Rattle.report_lines.specs.Text.{full_line}
use Rattle.report_rules.specs.Report.{report_from}
use Rattle.report_fields.specs.Fields.{Ledger, ledger_now, reads, KnownLedger}
use Rattle.report_play.specs.declared.State.{State}
use Rattle.report_play.specs.declared.Ended.{Ended}

-- the board of a state with both tables, and the counts beside it
abbrev pub ledger_of : State → (ids lens : List ℕ) → Ledger
ledger_of s ids lens = ledger_now s.board s.counts ids lens

-- the offset of the byte that comes next
abbrev pub offset_of : State → ℕ
offset_of s = s.reader.at + s.reader.came

-- what is left of the report after L, if these bytes follow and the log then ends
abbrev pub left_of : State → (ids lens later : List ℕ) → List ℕ
left_of s ids lens later =
    report_from (reads (ledger_of s ids lens)) s.shown s.reader.at
    (kept_bytes s.reader.kept s.reader.came ++ later) s.reader.stage

-- the one line of a report that shows no place; that of a whole log shows them, unless the counting has stopped
abbrev pub end_line : End → List ℕ
end_line whole = []
end_line (broken offset) = broken_line offset
end_line long = long_line

unfoldable pub one_line : (full : Bool) → End → List ℕ
one_line full e = cond full full_line (end_line e)

-- what is known of a state from which fields after L are played
pub record CanPlay (s : State) (ids lens : List ℕ) : Type 0 where
  pub past : past_l s.reader.stage ≡ true
  pub fit : next_in s.reader.at s.reader.kept s.reader.came s.reader.stage ≡ Unfinished s.reader.came
  pub low : s.reader.at ≤ 2 ^ 48
  pub good : KnownLedger (ledger_of s ids lens)

-- a fragment that is played: whether the log is broken or long in it, how it ends then, and whether the counting had
-- stopped there; and the state behind it
pub record Played : Type 0 where
  pub ends : Bool
  pub end : End
  pub full : Bool
  pub state : State

abbrev pub played_in : Result (Unit {0}) Ended → State → Played
played_in (Ok u) s = record { ends = false; end = whole; full = s.counts.full; state = s }
played_in (Err e) s = record { ends = true; end = e.end; full = e.full; state = s }

-- What was left of the report is left of the state behind the fragment. Or it is one line, whatever comes later.
pub record PlayedOn (s : State) (ids lens fragment : List ℕ) (r : Played) (ids' lens' : List ℕ) : Type 0 where
  pub goes : r.ends ≡ false
      → CanPlay r.state ids' lens'
      × ((r.state.over ≡ false)
      × ((offset_of r.state ≡ offset_of s + length fragment)
      × ((later : List ℕ) → left_of r.state ids' lens' later ≡ left_of s ids lens (fragment ++ later))))
  pub stops : r.ends ≡ true → (later : List ℕ) → one_line r.full r.end ≡ left_of s ids lens (fragment ++ later)
