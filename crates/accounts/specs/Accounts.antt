-- WHAT EACH GROWER BOUGHT AND GOT (document 02, Item 1): counts beside the board, by place, from the boards and from
-- what each send tells.
use Rattle.std.specs.Prelude.{◌≡◌, Bool, true, false, cond, ◌&&◌, ◌||◌, List, [], ◌∷◌, ℕ, ◌+◌, ◌*◌, ◌^◌, leb, ltb, eqb}
use Rattle.base.specs.Sums.{one_if}
use Rattle.units.specs.Credit.{credit_of}
use Rattle.rules.specs.Board.{bytes_charged, Board, at, is_open}
use Rattle.rules.specs.Choice.{Sending, Out, refused, done, taken, sent, Turn}
use Rattle.rules.specs.Calls.{Single, step}
use Rattle.rules.specs.Promises.{in_hand}

-- of a block since its opening: slots begun, the credit given by them, bytes sent as they are charged, and the credit
-- lost where its lane emptied; credit in parts
pub record Account : Type 0 where
  pub slots : ℕ
  pub credit : ℕ
  pub bytes : ℕ
  pub lost : ℕ

-- Counts start at opening.
abbrev pub no_account : Account
no_account = record { slots = 0; credit = 0; bytes = 0; lost = 0 }

-- Due is the credit of its slots; got is bytes x 65,536.
abbrev pub due : Account → ℕ
due a = a.credit

abbrev pub got : Account → ℕ
got a = a.bytes * 65536

-- the credit of one slot of the block at a place
abbrev pub credit_at : Board → (p : ℕ) → ℕ
credit_at b p = credit_of b.largest (at b p).share

-- A send adds what it is charged and what is lost with it; where its slot begins with it, a slot and its credit.
unfoldable pub added : (credit : ℕ) → Sending → Account → Account
added credit s a =
    record {
      slots = a.slots + one_if s.began;
      credit = a.credit + cond s.began credit 0;
      bytes = a.bytes + bytes_charged s.front;
      lost = a.lost + s.lost;
    }

-- what comes of a call adds to the account of the block that it sends from; a rename leaves the place and so its
-- account
abbrev pub with_out : Board → Out → (p : ℕ) → Account → Account
with_out b (refused code) p a = a
with_out b done p a = a
with_out b (taken t) p a = a
with_out b (sent s) p a = cond (eqb p s.place) (added (credit_at b p) s a) a

-- A place that no block has after the call has no counts: they vanish at close.
abbrev pub account_after : Board → Turn → (p : ℕ) → Account → Account
account_after b t p a = cond (is_open (at t.next p)) (with_out b t.out p a) no_account

-- the accounts of all places, and whether the counting has stopped
pub record Counts : Type 0 where
  pub accounts : (p : ℕ) → Account
  pub full : Bool

abbrev pub no_counts : Counts
no_counts = record { accounts = λ p. no_account; full = false }

-- a slot begins that would take its block's credit given above 2^62 parts
abbrev pub overfull : Board → Out → (accounts : ℕ → Account) → Bool
overfull b (refused code) accounts = false
overfull b done accounts = false
overfull b (taken t) accounts = false
overfull b (sent s) accounts = s.began && ltb (2 ^ 62) ((accounts s.place).credit + credit_at b s.place)

-- At such a slot the counting stops; the turn is what it was.
unfoldable pub counted : Board → Turn → Counts → Counts
counted b t c =
    let stops = c.full || overfull b t.out c.accounts in
    record { accounts = λ p. cond stops (c.accounts p) (account_after b t p (c.accounts p)); full = stops }

-- the counts after a row of single calls
unfoldable pub count_row : Board → List Single → Counts → Counts
count_row b [] c = c
count_row b (x ∷ xs) c = count_row (step b x).next xs (counted b (step b x) c)

-- ---- What stays true of the counts from call to call, until the counting stops

-- An account of an open block is at most 2^62 parts and balances: its credit is what it got, what was lost and what its
-- place has in hand, which is the deficit, or what is left of its slot. A free place has none.
abbrev pub fits_with : (is_open : Bool) (in_hand : ℕ) → Account → Bool
fits_with is_open in_hand a =
    cond is_open
    (leb a.credit (2 ^ 62) && (leb a.slots a.credit && eqb a.credit (got a + a.lost + in_hand)))
    (eqb a.slots 0 && (eqb a.credit 0 && (eqb a.bytes 0 && eqb a.lost 0)))

unfoldable pub account_fits : Board → (p : ℕ) → Account → Bool
account_fits b p a = fits_with (is_open (at b p)) (in_hand (at b p)) a

abbrev pub CountsFit : Board → Counts → Type 0
CountsFit b c = c.full ≡ false → (p : ℕ) → account_fits b p (c.accounts p) ≡ true
