-- The accounts in memory, read through the four lists of their fields: a place's account is read at its place, and one that
-- is written is written in each list.
use mathlib.Core.Path.{◌≡◌, refl, sym, ap, subst, ◌∙◌}
use mathlib.Core.Bool.{Bool, true, false, cond, ◌&&◌}
use native.Mathlib.Omega.{arith}
use mathlib.Core.List.{map}
use Prim.Native.Nat.{ℕ, ◌+◌, ◌^◌, ◌≤◌, ◌<◌}
use mir.Val.{bool_byte}
use lib.Dec.{ltb}
use lib.ListN.{length, get_or, set, get_or-map}
use borrow.Author.Tests.{le-ltb, lt-ltb}
use Rattle.std.proofs.lemmas.List.{length-map, map-set}
use Rattle.base.specs.Sums.{one_if}
use Rattle.accounts.specs.Accounts.{Account}
use Rattle.counting.specs.declared.Account as struct
use Rattle.counting.specs.declared.Counts as struct-counts
use Rattle.counting.specs.Counting.{TalliesSized, tallies_of, account_of, account_now, zero_account}
use Rattle.counting.specs.Steps.{more_at, over_in, tallied, send_added, sent_in, CanCount}

-- where no slot began the credit stays at most 2^62
over_by : (began : Bool) (a credit given : ℕ) → a ≤ 2 ^ 62 → given ≡ cond began (a + credit) a
    → began && ltb (2 ^ 62) (a + credit) ≡ ltb (2 ^ 62) given
over_by true a credit given h e = rw e refl
over_by false a credit given h e = rw (e, le-ltb (2 ^ 62) a h) refl

given_is : (began : Bool) (a credit given : ℕ) → given ≡ cond began (a + credit) a → given ≡ a + cond began credit 0
given_is true a credit given e = e
given_is false a credit given e = omega (arith, e)

slot_is : (began : Bool) (slot : ℕ) → slot ≡ bool_byte began → slot ≡ one_if began
slot_is true slot e = e
slot_is false slot e = e

module _ (c : struct-counts.Counts) where
  -- the four lists are as long as the accounts
  pub sized_of : length c.accounts ≡ 64 → TalliesSized (tallies_of c)
  sized_of e = record {
    slots = length-map c.accounts (λ (a : struct.Account). a.slots) ∙ e;
    credits = length-map c.accounts (λ (a : struct.Account). a.credit.0) ∙ e;
    bytes = length-map c.accounts (λ (a : struct.Account). a.bytes.0) ∙ e;
    lost = length-map c.accounts (λ (a : struct.Account). a.lost.0) ∙ e;
  }

  pub account_at : (p : ℕ) → account_now (tallies_of c) p ≡ account_of (get_or c.accounts p zero_account)
  account_at p = λ j. record {
    slots = get_or-map (λ (a : struct.Account). a.slots) c.accounts p zero_account j;
    credit = get_or-map (λ (a : struct.Account). a.credit.0) c.accounts p zero_account j;
    bytes = get_or-map (λ (a : struct.Account). a.bytes.0) c.accounts p zero_account j;
    lost = get_or-map (λ (a : struct.Account). a.lost.0) c.accounts p zero_account j;
  }

  -- ---- A SEND

  module _ (place : ℕ) (began : Bool) (bytes lost credit : ℕ) (h : CanCount place bytes lost credit (tallies_of c)) where
    abbrev here : struct.Account
    here = get_or c.accounts place zero_account

    module _ (given : ℕ) (e : given ≡ cond began (here.credit.0 + credit) here.credit.0) where
      read : account_now (tallies_of c) place ≡ account_of here
      read = account_at place

      over_is : over_in place began credit (tallies_of c) ≡ ltb (2 ^ 62) given
      over_is =
          ap (λ (a : Account). began && ltb (2 ^ 62) (a.credit + credit)) read
          ∙ over_by began here.credit.0 credit given (subst (λ (a : Account). a.credit ≤ 2 ^ 62) read h.before.credit) e

      pub send_stops : 2 ^ 62 < given → sent_in place began bytes lost credit (tallies_of c) ≡ tallied true (tallies_of c)
      unfolding sent_in
      send_stops l = rw (over_is, lt-ltb (2 ^ 62) given l)

      pub send_goes : (slot : ℕ) → slot ≡ bool_byte began → given ≤ 2 ^ 62
          → sent_in place began bytes lost credit (tallies_of c)
          ≡ tallied false
          (tallies_of (record {
            accounts = set c.accounts place
                (record {
                  slots = here.slots + slot;
                  credit = record { 0 = given };
                  bytes = record { 0 = here.bytes.0 + bytes };
                  lost = record { 0 = here.lost.0 + lost };
                });
            full = c.full;
          }))
      unfolding sent_in
      send_goes slot b l = rw (over_is, le-ltb (2 ^ 62) given l) (ap (tallied false) added)
        where
          after : struct.Account
          after =
              record {
                slots = here.slots + slot;
                credit = record { 0 = given };
                bytes = record { 0 = here.bytes.0 + bytes };
                lost = record { 0 = here.lost.0 + lost };
              }

          -- a list of one field
          more_is : (f : struct.Account → ℕ) (n : ℕ) → get_or (map f c.accounts) place 0 ≡ f here → f after ≡ f here + n
              → more_at (map f c.accounts) place n ≡ map f (set c.accounts place after)
          more_is f n at e =
              ap (set (map f c.accounts) place) (ap (λ (a : ℕ). a + n) at ∙ sym e) ∙ sym (map-set f c.accounts place after)

          added : send_added place began bytes lost credit (tallies_of c)
              ≡ tallies_of (record { accounts = set c.accounts place after; full = c.full })
          added = λ j. record {
            slots = more_is (λ (a : struct.Account). a.slots) (one_if began) (ap (λ (a : Account). a.slots) read)
                (ap (λ (n : ℕ). here.slots + n) (slot_is began slot b)) j;
            credits = more_is (λ (a : struct.Account). a.credit.0) (cond began credit 0) (ap (λ (a : Account). a.credit) read)
                (given_is began here.credit.0 credit given e) j;
            bytes = more_is (λ (a : struct.Account). a.bytes.0) bytes (ap (λ (a : Account). a.bytes) read) refl j;
            lost = more_is (λ (a : struct.Account). a.lost.0) lost (ap (λ (a : Account). a.lost) read) refl j;
          }
