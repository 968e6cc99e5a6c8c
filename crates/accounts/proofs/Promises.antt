-- THE THEOREMS: one for each proposition of specs/Promises.antt, in its order; by the laws of rows and of the block that has a place.
use mathlib.Core.Path.{◌≡◌, refl, sym, ap, subst, ◌∙◌}
use mathlib.Core.Bool.{true, false, true≢false}
use mathlib.Core.Logic.{◌≢◌}
use mathlib.Core.Option.{Option, none, some}
use mathlib.Core.List.{List, ◌∷◌, ◌++◌}
use Prim.Native.Nat.{ℕ, ◌+◌, ◌≤◌}
use native.Mathlib.Nat.{mul-le-mul_left}
use native.Mathlib.Omega.{arith}
use Rattle.units.specs.Credit.{charged, largest_charge, credit_of}
use Rattle.units.proofs.Credits.{credit_least}
use Rattle.base.proofs.Numbers.{eqb_yes, eqb_no, leb_yes}
use Rattle.rules.specs.Board.{Stand, out, queued, serving, Board, at, is_open, Has, fresh}
use Rattle.rules.specs.Choice.{left_of}
use Rattle.rules.specs.Blocks.{Opening, free_at}
use Rattle.rules.specs.Spoilt.{is_serving, is_at}
use Rattle.rules.specs.Calls.{Single, open!, step}
use Rattle.rules.specs.Runs.{play, begins, story}
use Rattle.rules.specs.Promises.{InRange, in_hand}
use Rattle.rules.proofs.Frame.{size_play}
use Rattle.rules.proofs.Slot.{serving_not_queued}
use Rattle.rules.proofs.Tidy.{Tidy}
use Rattle.rules.proofs.TidyCalls.{tidy_step}
use Rattle.rules.proofs.Unspoilt.{tidy_fresh, tidy_play}
use Rattle.rules.proofs.Names.{has_where}
use Rattle.accounts.specs.Accounts.{Account, no_account, got, credit_at, Counts, no_counts, counted, count_row, CountsFit}
use Rattle.accounts.specs.Promises.{counts_of, Balances, AccountsBalance, NeverAboveDue, CreditOfSlots, FreeHasNone, CountsSmall, SlotsFew}
use Rattle.accounts.specs.Promises.{StopsWhenFull}
use Rattle.accounts.specs.Promises.{account_of, Since, OwnCounts, BlockBalances, BlockBytes, CountsOfBlock}
use Rattle.accounts.proofs.Turns.{fits_even, none_free, fits_fresh}
use Rattle.accounts.proofs.Rows.{stopping, fits_row, small_row, priced_row, row_join}
use Rattle.accounts.proofs.Owners.{OwnedAlong, along, opens_along}

-- ---- boards and counts of a run

tidy : (L : ℕ) → InRange L → (xs : List Single) → Tidy (play (fresh L) xs)
tidy L r xs = tidy_play (fresh L) xs (tidy_fresh L r.low r.high)

fits : (L : ℕ) → InRange L → (xs : List Single) → CountsFit (play (fresh L) xs) (counts_of L xs)
fits L r xs = fits_row (fresh L) xs no_counts (tidy_fresh L r.low r.high) (fits_fresh L)

is_open_lem : (b : Board) (p n : ℕ) → Has b p n → is_open (at b p) ≡ true
is_open_lem b p n h = leb_yes 1 (at b p).share h.bought

-- ---- what a place has in hand is its deficit, or what is left of its slot

no_slot : (s : Stand) → is_serving s ≡ false → left_of s ≡ 0
no_slot out e = refl
no_slot (queued ready) e = refl
no_slot (serving left) e = absurd (true≢false e)

not_at : (p : ℕ) (slot : Option ℕ) → slot ≢ some p → is_at p slot ≡ false
not_at p none n = refl
not_at p (some q) n = eqb_no p q (λ e. n (ap some (sym e)))

balances : (b : Board) → Tidy b → (p : ℕ) (a : Account) → a.credit ≡ got a + a.lost + in_hand (at b p) → Balances b p a
balances b g p a h = record { out_of_slot = off; in_slot = on }
  where
    off : b.slot ≢ some p → a.credit ≡ got a + a.lost + (at b p).deficit
    off n = omega (arith, h, no_slot (at b p).stand (g.one p ∙ not_at p b.slot n))

    on : b.slot ≡ some p → a.credit ≡ got a + a.lost + left_of (at b p).stand
    on e =
        let is_s : is_serving (at b p).stand ≡ true = g.one p ∙ ap (is_at p) e ∙ eqb_yes p p refl in
        omega (arith, h, (g.shape.place_ok p).clear (serving_not_queued (at b p).stand is_s))

-- ---- THE THEOREMS

pub accounts_balance : AccountsBalance
accounts_balance L r xs f p n h =
    balances (play (fresh L) xs) (tidy L r xs) p ((counts_of L xs).accounts p)
    (fits_even (play (fresh L) xs) p ((counts_of L xs).accounts p) (is_open_lem (play (fresh L) xs) p n h) (fits L r xs f p)).even

pub counts_small : CountsSmall
counts_small L r xs =
    small_row (fresh L) xs no_counts (tidy_fresh L r.low r.high) (fits_fresh L)
    (λ p. record { credit = omega arith; slots = omega arith; got = omega arith; lost = omega arith })

pub never_above_due : NeverAboveDue
never_above_due L r xs p = (counts_small L r xs p).got

pub credit_of_slots : CreditOfSlots
credit_of_slots L r xs f p n h =
    priced_row (fresh L) xs no_counts (tidy_fresh L r.low r.high) (fits_fresh L) (λ _ q _. omega arith) f p (is_open_lem (play (fresh L) xs) p n h)

-- L is 64 or more, and a slot's credit is no less than the largest charge
slot_least : (L share : ℕ) → 64 ≤ L → 1 ≤ share → 4194304 ≤ credit_of L share
unfolding largest_charge charged
slot_least L share h i = omega (arith, credit_least L share i)

pub slots_few : SlotsFew
unfolding fresh
slots_few L r xs f p n h =
    let b = play (fresh L) xs in
    let a = (counts_of L xs).accounts p in
    let least : 4194304 ≤ credit_at b p =
    slot_least b.largest (at b p).share (subst (λ (l : ℕ). 64 ≤ l) (sym (size_play (fresh L) xs)) r.low) h.bought in
    omega (arith, mul-le-mul_left a.slots least, (counts_small L r xs p).credit, credit_of_slots L r xs f p n h)

pub free_has_none : FreeHasNone
free_has_none L r xs f p w = none_free (play (fresh L) xs) (counts_of L xs) f (fits L r xs) p w

pub stops_when_full : StopsWhenFull
stops_when_full = stopping

-- a block since its opening
module _ (L : ℕ) (r : InRange L) (first : List Single) (o : Opening) (xs : List Single) (since : Since L first o xs) where
  abbrev before : Board
  before = play (fresh L) first

  abbrev b : Board
  b = (step (play (fresh L) first) (open! o)).next

  abbrev c : Counts
  c = counted (play (fresh L) first) (step (play (fresh L) first) (open! o)) (counts_of L first)

  since_along : OwnedAlong (free_at before) (story (begins o.number) b xs) (play b xs) (account_of o.number b xs no_account) (count_row b xs c)
  since_along =
      along (free_at before) (begins o.number) b xs no_account c (tidy_step before (open! o) (tidy L r first)) since.still
      (opens_along before (tidy L r first) o since.opens (counts_of L first) (fits L r first))

  block_even : (p : ℕ) → Has (play b xs) p (story (begins o.number) b xs).number → Balances (play b xs) p (account_of o.number b xs no_account)
  block_even p h =
      balances (play b xs) g p a (subst (λ (q : ℕ). a.credit ≡ got a + a.lost + in_hand (at (play b xs) q)) same since_along.balanced)
    where
      a : Account
      a = account_of o.number b xs no_account

      g : Tidy (play b xs)
      g = tidy_play b xs (tidy_step before (open! o) (tidy L r first))

      same : free_at before ≡ p
      same = sym (has_where (play b xs) (free_at before) (story (begins o.number) b xs).number g since_along.has) ∙ has_where (play b xs) p _ g h

  block_counts : (counts_of L (first ++ (open! o ∷ xs))).full ≡ false → OwnCounts L first o xs
  unfolding count_row
  block_counts f = record {
    place = free_at before;
    has = since_along.has;
    counts = ap (λ (d : Counts). d.accounts (free_at before)) joined ∙ since_along.counts (sym (ap (λ (d : Counts). d.full) joined) ∙ f);
  }
    where
      joined : counts_of L (first ++ (open! o ∷ xs)) ≡ count_row b xs c
      joined = row_join (fresh L) first (open! o ∷ xs) no_counts

pub block_balances : BlockBalances
block_balances = block_even

pub block_bytes : BlockBytes
block_bytes L r first o xs since = (since_along L r first o xs since).bytes

pub counts_of_block : CountsOfBlock
counts_of_block L r first o xs f since = block_counts L r first o xs since f
