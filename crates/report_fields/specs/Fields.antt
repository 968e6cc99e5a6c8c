-- ONE FIELD COUNTED: a board in memory, its tables and the counts beside it, before a field and after it.
use Rattle.std.specs.Prelude.{◌≡◌, Bool, List, ℕ}
use Rattle.accounts.specs.Accounts.{CountsFit}
use Rattle.log_bytes.specs.declared.Event.{Event}
use Rattle.report_rules.specs.Report.{Reporting, field_counted}
use Rattle.board.specs.declared.Board as struct
use Rattle.board.specs.Reading.{view}
use Rattle.board.specs.Memory.{Holding, holding}
use Rattle.board.specs.Leaving.{Known}
use Rattle.counting.specs.declared.Counts as struct-counts
use Rattle.counting.specs.Counting.{Tallies, tallies_of, TalliesSized, counts_now}

-- what stands between two fields: the board with both tables, the four lists of counts, and whether the counting has
-- stopped
pub record Ledger : Type 0 where
  pub holds : Holding
  pub tallies : Tallies
  pub full : Bool

abbrev pub ledger : struct.Board → (ids lens : List ℕ) → Tallies → (full : Bool) → Ledger
ledger b ids lens t full = record { holds = holding b ids lens; tallies = t; full = full }

-- a board, the counts beside it and both tables
abbrev pub ledger_now : struct.Board → struct-counts.Counts → (ids lens : List ℕ) → Ledger
ledger_now b c ids lens = ledger b ids lens (tallies_of c) c.full

-- as the report's definition reads it
abbrev pub reads : Ledger → Reporting
reads l =
    let h = l.holds in
    record { board = view h.board h.ids h.lens; counts = counts_now l.tallies l.full }

-- The value is not spoilt, its tables are whole, and the counts can be those of a run to it.
pub record KnownLedger (l : Ledger) : Type 0 where
  pub good : Known l.holds.board l.holds.ids l.holds.lens
  pub fits : CountsFit (reads l).board (reads l).counts
  pub sized : TalliesSized l.tallies

-- A field is done and counted: what stands after it is good again, and reads as the report's definition says.
pub record FieldCounted (l : Ledger) (e : Event) (n : Ledger) : Type 0 where
  pub good : KnownLedger n
  pub next : reads n ≡ field_counted (reads l) e
