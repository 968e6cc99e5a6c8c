-- WHAT IS PROVED of the counts, over every run (document 02, Item 1).
use Rattle.std.specs.Prelude.{◌≡◌, true, false, cond, ◌≢◌, List, [], ◌∷◌, ◌++◌, ℕ, ◌+◌, ◌*◌, ◌^◌, ◌≤◌, ◌<◌, eqb}
use Rattle.std.proofs.Math.Option.{some}
use Rattle.base.specs.Sums.{sum}
use Rattle.units.specs.Credit.{credit_of}
use Rattle.rules.specs.Board.{bytes_charged, Board, at, is_open, Has, fresh}
use Rattle.rules.specs.Choice.{Sending, Out, refused, done, taken, sent, Turn, left_of}
use Rattle.rules.specs.Blocks.{Opening}
use Rattle.rules.specs.Calls.{Single, open!, step, code_of}
use Rattle.rules.specs.Runs.{play, answer, number_after, share_of, begins, story}
use Rattle.rules.specs.Promises.{InRange}
use Rattle.accounts.specs.Accounts.{Account, no_account, got, credit_at, added, Counts, no_counts, counted, count_row}

-- the counts after a run of these calls
abbrev pub counts_of : (L : ℕ) → List Single → Counts
counts_of L xs = count_row (fresh L) xs no_counts

-- ---- For every block, credit given = got + lost + deficit; while its slot is open, what is left of the slot stands in
-- the place of the deficit.

pub record Balances (b : Board) (p : ℕ) (a : Account) : Type 0 where
  pub out_of_slot : b.slot ≢ some p → a.credit ≡ got a + a.lost + (at b p).deficit
  pub in_slot : b.slot ≡ some p → a.credit ≡ got a + a.lost + left_of (at b p).stand

abbrev pub AccountsBalance : Type 0
AccountsBalance = (L : ℕ) → InRange L → (xs : List Single) → (counts_of L xs).full ≡ false
    → (p n : ℕ) → Has (play (fresh L) xs) p n → Balances (play (fresh L) xs) p ((counts_of L xs).accounts p)

-- So no block got more than its due.
abbrev pub NeverAboveDue : Type 0
NeverAboveDue = (L : ℕ) → InRange L → (xs : List Single) (p : ℕ)
    → got ((counts_of L xs).accounts p) ≤ ((counts_of L xs).accounts p).credit

-- Due is the credit of its slots.
abbrev pub CreditOfSlots : Type 0
CreditOfSlots = (L : ℕ) → InRange L → (xs : List Single) → (counts_of L xs).full ≡ false
    → (p n : ℕ) → Has (play (fresh L) xs) p n
    → ((counts_of L xs).accounts p).credit ≡ ((counts_of L xs).accounts p).slots * credit_at (play (fresh L) xs) p

-- A place that no block has, has no counts.
abbrev pub FreeHasNone : Type 0
FreeHasNone = (L : ℕ) → InRange L → (xs : List Single) → (counts_of L xs).full ≡ false
    → (p : ℕ) → is_open (at (play (fresh L) xs) p) ≡ false → (counts_of L xs).accounts p ≡ no_account

-- ---- A count is at most 2^62 parts, whether the counting has stopped or not; so none wraps.

pub record Small (a : Account) : Type 0 where
  pub credit : a.credit ≤ 2 ^ 62
  pub slots : a.slots ≤ a.credit
  pub got : got a ≤ a.credit
  pub lost : a.lost ≤ a.credit

abbrev pub CountsSmall : Type 0
CountsSmall = (L : ℕ) → InRange L → (xs : List Single) (p : ℕ) → Small ((counts_of L xs).accounts p)

-- A slot has 2^22 parts of credit or more, so an open block has had 2^40 slots at most.
abbrev pub SlotsFew : Type 0
SlotsFew = (L : ℕ) → InRange L → (xs : List Single) → (counts_of L xs).full ≡ false
    → (p n : ℕ) → Has (play (fresh L) xs) p n → ((counts_of L xs).accounts p).slots ≤ 2 ^ 40

-- ---- The counting stops at a slot that would take a block's credit given above 2^62 parts, and nowhere else; exactly
-- 2^62 is still counted. It stays stopped, with the counts that it had.

pub record Exceeds (b : Board) (o : Out) (c : Counts) : Type 0 where
  pub sends : Sending
  pub is : o ≡ sent sends
  pub begins : sends.began ≡ true
  pub above : 2 ^ 62 < (c.accounts sends.place).credit + credit_at b sends.place

pub record Stopping (b : Board) (t : Turn) (c : Counts) : Type 0 where
  pub stops : c.full ≡ false → Exceeds b t.out c → (counted b t c).full ≡ true
  pub nowhere_else : c.full ≡ false → (counted b t c).full ≡ true → Exceeds b t.out c
  pub keeps : (counted b t c).full ≡ true → (p : ℕ) → (counted b t c).accounts p ≡ c.accounts p
  pub stays : c.full ≡ true → (counted b t c).full ≡ true

abbrev pub StopsWhenFull : Type 0
StopsWhenFull = (b : Board) (t : Turn) (c : Counts) → Stopping b t c

-- ---- The counts of a place are those of its block since its opening, by the number that the block has at each call: a
-- rename changes the number and not the counts.

-- what a call adds to the account of the block that has n
abbrev pub with_call : (n : ℕ) → Board → Out → Account → Account
with_call n b (refused code) a = a
with_call n b done a = a
with_call n b (taken t) a = a
with_call n b (sent s) a =
    cond (eqb n (at b s.place).number) (added (credit_of b.largest (share_of b n)) s a) a

-- the account of the block that has n after the calls
unfoldable pub account_of : (n : ℕ) → Board → List Single → Account → Account
account_of n b [] a = a
account_of n b (x ∷ xs) a =
    account_of (number_after n x (answer b x)) (step b x).next xs (with_call n b (step b x).out a)

-- an opening of a run that is done, and the calls after it, which do not close the block
pub record Since (L : ℕ) (first : List Single) (o : Opening) (xs : List Single) : Type 0 where
  pub opens : code_of (answer (play (fresh L) first) (open! o)) ≡ 0
  pub still : (story (begins o.number) (step (play (fresh L) first) (open! o)).next xs).closed ≡ false

-- The block has a place, and the counts of that place are its account.
pub record OwnCounts (L : ℕ) (first : List Single) (o : Opening) (xs : List Single) : Type 0 where
  pub place : ℕ
  pub has : let b = (step (play (fresh L) first) (open! o)).next in
      Has (play b xs) place (story (begins o.number) b xs).number
  pub counts : let b = (step (play (fresh L) first) (open! o)).next in
      (counts_of L (first ++ (open! o ∷ xs))).accounts place ≡ account_of o.number b xs no_account

-- Of a block's own account nothing is bounded, and it always balances.
abbrev pub BlockBalances : Type 0
BlockBalances = (L : ℕ) → InRange L → (first : List Single) (o : Opening) (xs : List Single) → Since L first o xs
    → let b = (step (play (fresh L) first) (open! o)).next in
    (p : ℕ) → Has (play b xs) p (story (begins o.number) b xs).number
    → Balances (play b xs) p (account_of o.number b xs no_account)

-- Its bytes are those of the records that its story tells as sent.
abbrev pub BlockBytes : Type 0
BlockBytes = (L : ℕ) → InRange L → (first : List Single) (o : Opening) (xs : List Single) → Since L first o xs
    → let b = (step (play (fresh L) first) (open! o)).next in
    (account_of o.number b xs no_account).bytes ≡ sum bytes_charged (story (begins o.number) b xs).sent

-- Until the counting stops, the counts of its place are its account.
abbrev pub CountsOfBlock : Type 0
CountsOfBlock = (L : ℕ) → InRange L → (first : List Single) (o : Opening) (xs : List Single)
    → (counts_of L (first ++ (open! o ∷ xs))).full ≡ false → Since L first o xs → OwnCounts L first o xs
