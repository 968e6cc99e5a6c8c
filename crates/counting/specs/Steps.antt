-- WORKING DEFINITIONS: what a send and a close change of the four lists, and what the steps ask. Theorems tie them to
-- the rules' counts.
use Rattle.std.specs.Prelude.{Bool, cond, ◌&&◌, List, ℕ, ◌+◌, ◌^◌, ◌≤◌, ◌<◌, ltb, get_or, set}
use Rattle.base.specs.Sums.{one_if}
use Rattle.accounts.specs.Promises.{Small}
use Rattle.board.specs.declared.Board.{Board}
use Rattle.counting.specs.Counting.{Tallies, tallies_now, account_now}

-- ---- A SEND

-- its slot began with it, and would take the credit given at its place above 2^62 parts
abbrev pub over_in : (place : ℕ) (began : Bool) (credit : ℕ) → Tallies → Bool
over_in place began credit t = began && ltb (2 ^ 62) (get_or t.credits place 0 + credit)

-- n more at a place
abbrev pub more_at : (l : List ℕ) (place n : ℕ) → List ℕ
more_at l place n = set l place (get_or l place 0 + n)

abbrev pub send_added : (place : ℕ) (began : Bool) (bytes lost credit : ℕ) → Tallies → Tallies
send_added place began bytes lost credit t =
    tallies_now (more_at t.slots place (one_if began)) (more_at t.credits place (cond began credit 0))
    (more_at t.bytes place bytes) (more_at t.lost place lost)

-- whether the counting stops, and the lists after it
pub record Tallied : Type 0 where
  pub stops : Bool
  pub tallies : Tallies

abbrev pub tallied : (stops : Bool) → Tallies → Tallied
tallied stops t = record { stops = stops; tallies = t }

-- Where the counting stops nothing is added.
unfoldable pub sent_in : (place : ℕ) (began : Bool) (bytes lost credit : ℕ) → Tallies → Tallied
sent_in place began bytes lost credit t =
    let stops = over_in place began credit t in
    tallied stops (cond stops t (send_added place began bytes lost credit t))

-- what keeps the sums from wrapping
pub record CanCount (place bytes lost credit : ℕ) (t : Tallies) : Type 0 where
  pub inside : place < 64
  pub before : Small (account_now t place)
  pub most_bytes : bytes ≤ 2 ^ 62
  pub most_lost : lost ≤ 2 ^ 62
  pub most_credit : credit ≤ 2 ^ 62

-- ---- A CLOSE

-- the counts of a place are 0 again
unfoldable pub vanished_in : (place : ℕ) → Tallies → Tallies
vanished_in place t =
    tallies_now (set t.slots place 0) (set t.credits place 0) (set t.bytes place 0) (set t.lost place 0)

-- ---- COUNTS THAT WERE HANDED IN

-- what a place has in hand is far below 2^62 parts, and so at every place of a board
pub record SmallHand (left deficit : ℕ) : Type 0 where
  pub most_left : left < 2 ^ 32
  pub most_deficit : deficit < 2 ^ 32

abbrev pub SmallHands : Board → Type 0
SmallHands b = (p : ℕ) → SmallHand b.left.0 (get_or b.deficits p 0)
