-- What is read from the four lists: from blank ones, after a send and after a close, which leave them as long as they were. The right sides are those of the
-- rules' laws `counted_sent` and `counted_closed` (crate accounts), so that the two meet.
use mathlib.Core.Path.{◌≡◌, refl, ap, fun_ext, ◌∙◌}
use mathlib.Core.Bool.{Bool, true, false, cond}
use mathlib.Core.Logic.{◌≢◌}
use mathlib.Core.List.{List}
use Prim.Native.Nat.{ℕ, zero, suc, ◌+◌, ◌<◌}
use native.Mathlib.Omega.{arith}
use native.Mathlib.Decide.{ℕ_discrete}
use lib.Dec.{eqb}
use lib.ListN.{length, get_or, set, replicate, length-set}
use lib.Seq.{get_or-set_same, get_or-set_other}
use Rattle.base.proofs.Numbers.{eqb_yes, eqb_no}
use Rattle.base.specs.Sums.{one_if}
use Rattle.rules.specs.Board.{bytes_charged}
use Rattle.rules.specs.Choice.{Sending}
use Rattle.accounts.specs.Accounts.{Account, no_account, added, no_counts}
use Rattle.counting.specs.Counting.{Tallies, TalliesSized, account_with, account_now, counts_now, read_counts, zero_account, zero_counts, tallies_of}
use Rattle.counting.specs.Counting.{account_of}
use Rattle.counting.proofs.Accounts.{account_at}
use Rattle.counting.specs.Steps.{over_in, more_at, send_added, sent_in, vanished_in}

-- ---- ACCOUNTS

pub same_account : {s s' c c' b b' l l' : ℕ} → s ≡ s' → c ≡ c' → b ≡ b' → l ≡ l' → account_with s c b l ≡ account_with s' c' b' l'
same_account es ec eb el = λ j. record { slots = es j; credit = ec j; bytes = eb j; lost = el j }

same_counts : (t : Tallies) (full : Bool) (f : ℕ → Account) → ((p : ℕ) → account_now t p ≡ f p) → counts_now t full ≡ record { accounts = f; full = full }
same_counts t full f h = λ j. record { accounts = fun_ext h j; full = full }

-- ---- BLANK

zeros_at : (n p : ℕ) → get_or (replicate n zero_account) p zero_account ≡ zero_account
zeros_at zero p = refl
zeros_at (suc n) zero = refl
zeros_at (suc n) (suc p) = zeros_at n p

pub zero_reads : read_counts zero_counts ≡ no_counts
zero_reads =
    same_counts (tallies_of zero_counts) false (λ p. no_account) (λ p. account_at zero_counts p ∙ ap account_of (zeros_at 64 p))

-- ---- AS LONG AS BEFORE

pub sized_sent : (place : ℕ) (began : Bool) (bytes lost credit : ℕ) (t : Tallies) → TalliesSized t
    → TalliesSized (sent_in place began bytes lost credit t).tallies
unfolding sent_in
sized_sent place began bytes lost credit t z = go (over_in place began credit t)
  where
    as_long : (l : List ℕ) (n : ℕ) → length l ≡ 64 → length (more_at l place n) ≡ 64
    as_long l n e = length-set l place (get_or l place 0 + n) ∙ e

    go : (stops : Bool) → TalliesSized (cond stops t (send_added place began bytes lost credit t))
    go true = z
    go false = record {
      slots = as_long t.slots (one_if began) z.slots;
      credits = as_long t.credits (cond began credit 0) z.credits;
      bytes = as_long t.bytes bytes z.bytes;
      lost = as_long t.lost lost z.lost;
    }

pub sized_closed : (place : ℕ) (t : Tallies) → TalliesSized t → TalliesSized (vanished_in place t)
unfolding vanished_in
sized_closed place t z = record {
  slots = length-set t.slots place _ ∙ z.slots;
  credits = length-set t.credits place _ ∙ z.credits;
  bytes = length-set t.bytes place _ ∙ z.bytes;
  lost = length-set t.lost place _ ∙ z.lost;
}

-- ---- A SEND

more_here : (l : List ℕ) (q n : ℕ) → length l ≡ 64 → q < 64 → get_or (more_at l q n) q 0 ≡ get_or l q 0 + n
more_here l q n e h = get_or-set_same l q (get_or l q 0 + n) 0 (omega (arith, e))

-- what is added at place q is read there, and nowhere else
added_reads : (s : Sending) (credit : ℕ) (t : Tallies) → TalliesSized t → s.place < 64 → (p : ℕ)
    → account_now (send_added s.place s.began (bytes_charged s.front) s.lost credit t) p
    ≡ cond (eqb p s.place) (added credit s (account_now t p)) (account_now t p)
unfolding added
added_reads s credit t z h p = go (ℕ_discrete p s.place)
  where
    q : ℕ
    q = s.place

    after : Tallies
    after = send_added q s.began (bytes_charged s.front) s.lost credit t

    whole : ℕ → Account
    whole i =
        account_with (get_or t.slots i 0 + one_if s.began) (get_or t.credits i 0 + cond s.began credit 0)
        (get_or t.bytes i 0 + bytes_charged s.front) (get_or t.lost i 0 + s.lost)

    here : account_now after q ≡ whole q
    here =
        same_account (more_here t.slots q (one_if s.began) z.slots h) (more_here t.credits q (cond s.began credit 0) z.credits h)
        (more_here t.bytes q (bytes_charged s.front) z.bytes h) (more_here t.lost q s.lost z.lost h)

    other : p ≢ q → account_now after p ≡ account_now t p
    other n =
        same_account (get_or-set_other t.slots q p _ 0 n) (get_or-set_other t.credits q p _ 0 n) (get_or-set_other t.bytes q p _ 0 n)
        (get_or-set_other t.lost q p _ 0 n)

    go : Dec (p ≡ q) → account_now after p ≡ cond (eqb p q) (whole p) (account_now t p)
    go (yes e) = rw (e, eqb_yes q q refl) here
    go (no n) = rw (eqb_no p q n) (other n)

-- Where the counting stops nothing is added.
pub sent_reads : (s : Sending) (credit : ℕ) (t : Tallies) → TalliesSized t → s.place < 64 → (p : ℕ)
    → account_now (sent_in s.place s.began (bytes_charged s.front) s.lost credit t).tallies p
    ≡ cond (over_in s.place s.began credit t) (account_now t p) (cond (eqb p s.place) (added credit s (account_now t p)) (account_now t p))
unfolding sent_in
sent_reads s credit t z h p = go (over_in s.place s.began credit t)
  where
    after : Tallies
    after = send_added s.place s.began (bytes_charged s.front) s.lost credit t

    go : (stops : Bool) → account_now (cond stops t after) p
        ≡ cond stops (account_now t p) (cond (eqb p s.place) (added credit s (account_now t p)) (account_now t p))
    go true = refl
    go false = added_reads s credit t z h p

-- the same of all places at once
pub sent_counts : (s : Sending) (credit : ℕ) (t : Tallies) (full : Bool) → TalliesSized t → s.place < 64
    → counts_now (sent_in s.place s.began (bytes_charged s.front) s.lost credit t).tallies full
    ≡ record {
      accounts =
          λ p. cond (over_in s.place s.began credit t) (account_now t p)
          (cond (eqb p s.place) (added credit s (account_now t p)) (account_now t p));
      full = full;
    }
sent_counts s credit t full z h =
    same_counts (sent_in s.place s.began (bytes_charged s.front) s.lost credit t).tallies full _ (sent_reads s credit t z h)

pub sent_stops : (place : ℕ) (began : Bool) (bytes lost credit : ℕ) (t : Tallies)
    → (sent_in place began bytes lost credit t).stops ≡ over_in place began credit t
unfolding sent_in
sent_stops place began bytes lost credit t = refl

-- ---- A CLOSE

pub closed_reads : (q : ℕ) (t : Tallies) → TalliesSized t → q < 64 → (p : ℕ) → account_now (vanished_in q t) p ≡ cond (eqb p q) no_account (account_now t p)
unfolding vanished_in
closed_reads q t z h p = go (ℕ_discrete p q)
  where
    zero_here : (l : List ℕ) → length l ≡ 64 → get_or (set l q 0) q 0 ≡ 0
    zero_here l e = get_or-set_same l q 0 0 (omega (arith, e))

    after : ℕ → Account
    after i = account_with (get_or (set t.slots q 0) i 0) (get_or (set t.credits q 0) i 0) (get_or (set t.bytes q 0) i 0) (get_or (set t.lost q 0) i 0)

    here : after q ≡ no_account
    here =
        same_account (zero_here t.slots z.slots) (zero_here t.credits z.credits) (zero_here t.bytes z.bytes) (zero_here t.lost z.lost)

    other : p ≢ q → after p ≡ account_now t p
    other n =
        same_account (get_or-set_other t.slots q p 0 0 n) (get_or-set_other t.credits q p 0 0 n) (get_or-set_other t.bytes q p 0 0 n)
        (get_or-set_other t.lost q p 0 0 n)

    go : Dec (p ≡ q) → after p ≡ cond (eqb p q) no_account (account_now t p)
    go (yes e) = rw (e, eqb_yes q q refl) here
    go (no n) = rw (eqb_no p q n) (other n)

pub closed_counts : (q : ℕ) (t : Tallies) (full : Bool) → TalliesSized t → q < 64
    → counts_now (vanished_in q t) full ≡ record { accounts = λ p. cond (eqb p q) no_account (account_now t p); full = full }
closed_counts q t full z h = same_counts (vanished_in q t) full _ (closed_reads q t z h)
