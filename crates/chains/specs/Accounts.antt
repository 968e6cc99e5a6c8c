-- WHAT EACH GROWER BOUGHT AND GOT, OVER A CHAIN'S OWN ANSWERS (document 02, Item 1): the account of a block in words of
-- the calls that were made, the answers that they gave and the values that they left.
use Rattle.std.specs.Prelude.{◌≡◌, Bool, false, cond, ◌≢◌, List, [], ◌∷◌, map, ℕ, suc, ◌+◌, ◌*◌, ◌-◌, ◌^◌, ◌≤◌, eqb}
use Rattle.std.specs.Prelude.{get_or}
use Rattle.std.proofs.Math.Option.{Option}
use Rattle.base.specs.Sums.{one_if, sum}
use Rattle.units.specs.Credit.{charged, credit_of}
use Rattle.rules.specs.Board.{bytes_charged, Has}
use Rattle.rules.specs.Choice.{where_is}
use Rattle.rules.specs.Blocks.{Opening}
use Rattle.rules.specs.Calls.{Single, one, Answer, gives, takes, sends, bursts}
use Rattle.rules.specs.Runs.{number_after, Story}
use Rattle.accounts.specs.Accounts.{Account, no_account, due, got}
use Rattle.board.specs.Memory.{Holding}
use Rattle.chains.specs.Chains.{Chain, goes}
use Rattle.chains.specs.Demands.{reads, Life, slots_in}

-- ---- What is read from a value

-- the place of the open block that has n
abbrev pub place_in : Holding → (n : ℕ) → ℕ
place_in s n = where_is (reads s) n

-- the credit of one slot of the block at place p
abbrev pub credit_in : Holding → (p : ℕ) → ℕ
credit_in s p = credit_of s.board.largest (get_or s.board.shares p 0)

-- what the block at place p has in hand: its deficit, or what is left of the slot, while the slot is its own
abbrev pub in_hand_in : Holding → (p : ℕ) → ℕ
in_hand_in s p = cond (eqb s.board.slot (suc p)) s.board.left.0 (get_or s.board.deficits p 0)

-- no slot is open; the lane of place p is empty
abbrev pub no_slot : Holding → Bool
no_slot s = eqb s.board.slot 0

abbrev pub none_in : Holding → (p : ℕ) → Bool
none_in s p = eqb (get_or s.board.counts p 0) 0

-- ---- What one send of the block at place p adds to its account: s is the value that the call was given, m the one
-- that it left, and the bytes are those of its answer

-- where no slot was open before it, its slot began with it, and its credit was given
abbrev pub credit_by : (s : Holding) (p : ℕ) → ℕ
credit_by s p = cond (no_slot s) (credit_in s p) 0

-- where the lane is empty after it, what was left is lost: what the block had in hand before it, with the credit of the
-- slot that began, less the charge
abbrev pub lost_by : (s m : Holding) (p bytes : ℕ) → ℕ
lost_by s m p bytes = cond (none_in m p) (in_hand_in s p + credit_by s p - charged bytes * 65536) 0

unfoldable pub sent_from : (s m : Holding) (p bytes : ℕ) → Account → Account
sent_from s m p bytes a =
    record {
      slots = a.slots + one_if (no_slot s);
      credit = a.credit + credit_by s p;
      bytes = a.bytes + charged bytes;
      lost = a.lost + lost_by s m p bytes;
    }

-- ---- The account of a block along a row of single calls

-- what a call adds to the account of the block that has n: only an answer that names it does
abbrev pub with_answer : (n : ℕ) (s m : Holding) → Answer → Account → Account
with_answer n s m (gives code) a = a
with_answer n s m (takes r) a = a
with_answer n s m (sends r) a = cond (eqb n r.block) (sent_from s m (place_in s n) r.bytes a) a
with_answer n s m (bursts r) a = a

-- the account of the block that has n first, by the number that it has at each call. A burst's answer names no block,
-- so a chain with bursts is read in its row.
unfoldable pub account_along : {s e : Holding} {said : List Answer} (n : ℕ) (xs : List Single)
    → Chain s (map one xs) said e → Account → Account
account_along n [] chain a = a
account_along {s = s} n (x ∷ xs) (goes {m = m} {a = said} did rest) a =
    account_along (number_after n x said) xs rest (with_answer n s m said a)

-- Counts start at opening.
abbrev pub life_account : {L : ℕ} {given : Opening} {st : Story} {last : Option ℕ} {e : Holding}
    → Life L given st last e → Account
life_account {given = given} l = account_along given.number l.xs l.row.singles no_account

-- ---- For every block, credit given = got + lost + deficit; while its slot is open, what is left of the slot stands in
-- the place of the deficit. Both are read from the last value.

pub record BalancesIn (e : Holding) (n : ℕ) (a : Account) : Type 0 where
  pub has : Has (reads e) (place_in e n) n
  pub out_of_slot : e.board.slot ≢ suc (place_in e n)
      → a.credit ≡ got a + a.lost + get_or e.board.deficits (place_in e n) 0
  pub in_slot : e.board.slot ≡ suc (place_in e n) → a.credit ≡ got a + a.lost + e.board.left.0

abbrev pub ChainAccountsBalance : Type 0
ChainAccountsBalance = (L : ℕ) (given : Opening) (st : Story) (last : Option ℕ) (e : Holding)
    → (l : Life L given st last e) → st.closed ≡ false → BalancesIn e st.number (life_account l)

-- So no block got more than its due.
abbrev pub ChainNeverAboveDue : Type 0
ChainNeverAboveDue = (L : ℕ) (given : Opening) (st : Story) (last : Option ℕ) (e : Holding)
    → (l : Life L given st last e) → st.closed ≡ false → got (life_account l) ≤ due (life_account l)

-- Due is the credit of its slots, by the share that was bought at the opening.
abbrev pub ChainCreditOfSlots : Type 0
ChainCreditOfSlots = (L : ℕ) (given : Opening) (st : Story) (last : Option ℕ) (e : Holding)
    → (l : Life L given st last e) → st.closed ≡ false
    → (life_account l).credit ≡ (life_account l).slots * credit_of L given.share

-- The bytes are those of the records that its story tells as sent.
abbrev pub ChainBytesSent : Type 0
ChainBytesSent = (L : ℕ) (given : Opening) (st : Story) (last : Option ℕ) (e : Holding)
    → (l : Life L given st last e) → st.closed ≡ false → (life_account l).bytes ≡ sum bytes_charged st.sent

-- The slots are those that the answers tell: a send begins one if its clock is not that of the send before it.
abbrev pub ChainSlotsTold : Type 0
ChainSlotsTold = (L : ℕ) (given : Opening) (st : Story) (last : Option ℕ) (e : Holding)
    → (l : Life L given st last e) → st.closed ≡ false
    → (life_account l).slots ≡ slots_in 0 (2 ^ 62) given.number l.first l.xs l.said
