-- THE COUNTS IN MEMORY: an account for each of the 64 places and a flag, how they are read as the rules' counts (crate
-- accounts), and the test of counts that were handed in.
use Rattle.std.specs.Prelude.{◌≡◌, Bool, false, cond, ◌||◌, List, map, ℕ, ◌+◌, ltb, eqb, length, get_or, replicate}
use Rattle.base.specs.Tests.{Decides, all_below}
use Rattle.accounts.specs.Accounts
use Rattle.accounts.specs.Accounts.{Account, fits_with, CountsFit}
use Rattle.board.specs.declared.Board.{Board}
use Rattle.board.specs.Reading.{view}
use Rattle.board.specs.Leaving.{Known}
use Rattle.counting.specs.declared.Counts as struct
use Rattle.counting.specs.declared.Account as struct-account

-- the accounts as four lists, one for each of their fields
pub record Tallies : Type 0 where
  pub slots : List ℕ
  pub credits : List ℕ
  pub bytes : List ℕ
  pub lost : List ℕ

abbrev pub tallies_now : (slots credits bytes lost : List ℕ) → Tallies
tallies_now slots credits bytes lost = record { slots = slots; credits = credits; bytes = bytes; lost = lost }

abbrev pub tallies_of : struct.Counts → Tallies
tallies_of c =
    tallies_now (map (λ a. a.slots) c.accounts) (map (λ a. a.credit.0) c.accounts) (map (λ a. a.bytes.0) c.accounts)
    (map (λ a. a.lost.0) c.accounts)

-- what the type of the accounts says of every value
pub record TalliesSized (t : Tallies) : Type 0 where
  pub slots : length t.slots ≡ 64
  pub credits : length t.credits ≡ 64
  pub bytes : length t.bytes ≡ 64
  pub lost : length t.lost ≡ 64

-- ---- READING

abbrev pub account_with : (slots credit bytes lost : ℕ) → Account
account_with slots credit bytes lost = record { slots = slots; credit = credit; bytes = bytes; lost = lost }

-- one account in memory
abbrev pub account_of : struct-account.Account → Account
account_of a = account_with a.slots a.credit.0 a.bytes.0 a.lost.0

-- the account of place p; beyond the places all is 0
abbrev pub account_now : Tallies → (p : ℕ) → Account
account_now t p = account_with (get_or t.slots p 0) (get_or t.credits p 0) (get_or t.bytes p 0) (get_or t.lost p 0)

abbrev pub counts_now : Tallies → (full : Bool) → Accounts.Counts
counts_now t full = record { accounts = λ p. account_now t p; full = full }

abbrev pub read_counts : struct.Counts → Accounts.Counts
read_counts c = counts_now (tallies_of c) c.full

-- the counts before anything was counted
abbrev pub zero_account : struct-account.Account
zero_account =
    record {
      slots = 0;
      credit = record { 0 = 0 };
      bytes = record { 0 = 0 };
      lost = record { 0 = 0 };
    }

abbrev pub zero_counts : struct.Counts
zero_counts = record { accounts = replicate 64 zero_account; full = false }

-- ---- COUNTS THAT WERE HANDED IN

-- what a place has in hand: its deficit, and what is left of the slot where it has the open one
abbrev pub hand_now : (p slot left deficit : ℕ) → ℕ
hand_now p slot left deficit = deficit + cond (eqb slot (p + 1)) left 0

abbrev pub fits_now : Board → Tallies → (p : ℕ) → Bool
fits_now b t p =
    let hand = hand_now p b.slot b.left.0 (get_or b.deficits p 0) in
    fits_with (ltb 0 (get_or b.shares p 0)) hand (account_now t p)

-- the counting has stopped, or the account of each place fits
unfoldable pub counts_fit_now : Board → struct.Counts → Bool
counts_fit_now b c = c.full || all_below 64 (λ p. fits_now b (tallies_of c) p)

-- On a board that is known to be good it decides what it is called after.
abbrev pub CountsFitDecides : Type 0
CountsFitDecides = (b : Board) (ids lens : List ℕ) (c : struct.Counts) → Known b ids lens → TalliesSized (tallies_of c)
    → Decides (counts_fit_now b c) (CountsFit (view b ids lens) (read_counts c))
