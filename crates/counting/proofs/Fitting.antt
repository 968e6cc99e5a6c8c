-- On a board that is known to be good, what a place has in hand is read from the arrays and is small, and the test of
-- counts that were handed in decides whether they fit the board that is read.
use mathlib.Core.Path.{◌≡◌, refl, sym, ap, ap₂, ◌∙◌}
use mathlib.Core.Bool.{Bool, true, false, cond, ◌||◌, true≢false}
use mathlib.Core.Logic.{◌⊎◌, inl, inr}
use mathlib.Core.Option.{Option, none, some}
use mathlib.Core.List.{List}
use Prim.Native.Nat.{ℕ, suc, ◌+◌, ◌*◌, ◌^◌, ◌≤◌, ◌<◌}
use native.Mathlib.Omega.{arith}
use native.Mathlib.Decide.{ℕ_discrete}
use native.Mathlib.Numerals.{add-one}
use lib.Dec.{ltb, eqb}
use lib.ListN.{length, get_or, get_or-eq_default}
use Rattle.base.specs.Tests.{Decides, all_below}
use Rattle.base.proofs.Numbers.{split, eqb_yes, eqb_no}
use Rattle.base.proofs.Tests.{all_at, all_intro}
use Rattle.base.proofs.Decides.{d_iff}
use Rattle.units.specs.Credit.{framing, charged, largest_charge}
use Rattle.rules.specs.Board
use Rattle.rules.specs.Board.{Stand, out, queued, serving, Place, free_place, at, is_open, Record}
use Rattle.rules.specs.Choice.{left_of}
use Rattle.rules.specs.Spoilt.{is_serving, is_at}
use Rattle.rules.specs.Promises.{in_hand}
use Rattle.rules.proofs.Shape.{StandOk}
use Rattle.accounts.specs.Accounts.{Account, no_account, fits_with, account_fits}
use Rattle.board.specs.declared.Board as struct
use Rattle.board.specs.Reading.{slot_link, slot_left, encode, view}
use Rattle.board.specs.Leaving.{Known}
use Rattle.board.proofs.Reading.{Fit}
use Rattle.board.proofs.Sound.{fit_view}
use Rattle.board.proofs.Fields.{share_is, deficit_is}
use Rattle.counting.specs.Counting.{Tallies, tallies_of, TalliesSized, account_now, hand_now, fits_now, counts_fit_now, CountsFitDecides}
use Rattle.counting.specs.Steps.{SmallHand, SmallHands}
use Rattle.counting.proofs.Counting.{same_account}

-- ---- WHAT IS LEFT OF A SLOT

not_serving : (s : Stand) → is_serving s ≡ false → left_of s ≡ 0
not_serving out e = refl
not_serving (queued r) e = refl
not_serving (serving n) e = absurd (true≢false e)

left_under : (L share : ℕ) (lane : List Record) (s : Stand) → StandOk L share lane s → left_of s ≤ 3 * largest_charge L * 65536
unfolding StandOk
left_under L share lane out h = omega arith
left_under L share lane (queued r) h = omega arith
left_under L share lane (serving n) h = omega (arith, h.3)

-- it is left at the place that has the slot, and at no other
left_by : (l : List Place) (slot : Option ℕ) (p : ℕ) → is_serving (get_or l p free_place).stand ≡ is_at p slot
    → left_of (get_or l p free_place).stand ≡ cond (eqb (slot_link slot) (p + 1)) (slot_left l slot) 0
left_by l none p e = rw (eqb_no 0 (p + 1) (λ z. omega (arith, z))) (not_serving (get_or l p free_place).stand e)
left_by l (some q) p e = go (ℕ_discrete p q)
  where
    go : Dec (p ≡ q) → left_of (get_or l p free_place).stand ≡ cond (eqb (suc q) (p + 1)) (left_of (get_or l q free_place).stand) 0
    go (yes i) = rw (i, eqb_yes (suc q) (q + 1) (sym (add-one q)))
    go (no i) = rw (eqb_no (suc q) (p + 1) (λ z. i (omega (arith, z)))) (not_serving (get_or l p free_place).stand (e ∙ eqb_no p q i))

-- what a place has in hand is under 2^33 parts
pub hand_under : (p slot left deficit : ℕ) → SmallHand left deficit → hand_now p slot left deficit < 2 ^ 33
hand_under p slot left deficit h = go (eqb slot (p + 1))
  where
    go : (t : Bool) → deficit + cond t left 0 < 2 ^ 33
    go true = omega (arith, h.most_left, h.most_deficit)
    go false = omega (arith, h.most_deficit)

-- no counts fit a free place
none_fit : (x : Place) (a : Account) → x ≡ free_place → a ≡ no_account → fits_with (is_open x) (in_hand x) a ≡ true
none_fit x a e g = rw (e, g) refl

module _ (b : struct.Board) (ids lens : List ℕ) (k : Known b ids lens) where
  abbrev m : Board.Board
  m = view b ids lens

  f : Fit m
  f = fit_view b ids lens k.sound

  spelt : encode m ≡ b
  spelt = k.sound.spells

  share_at : (p : ℕ) → get_or b.shares p 0 ≡ (at m p).share
  share_at p = ap (λ (c : struct.Board). get_or c.shares p 0) (sym spelt) ∙ share_is m p

  deficit_at : (p : ℕ) → get_or b.deficits p 0 ≡ (at m p).deficit
  deficit_at p = ap (λ (c : struct.Board). get_or c.deficits p 0) (sym spelt) ∙ deficit_is m p

  slot_left_lem : b.left.0 ≡ slot_left m.places m.slot
  unfolding encode
  slot_left_lem = ap (λ (c : struct.Board). c.left.0) (sym spelt)

  slot_link_lem : b.slot ≡ slot_link m.slot
  unfolding encode
  slot_link_lem = ap (λ (c : struct.Board). c.slot) (sym spelt)

  pub hand_at : (p : ℕ) → hand_now p b.slot b.left.0 (get_or b.deficits p 0) ≡ in_hand (at m p)
  hand_at p =
      ap₂ (λ (d r : ℕ). d + r) (deficit_at p)
      (ap₂ (λ (s r : ℕ). cond (eqb s (p + 1)) r 0) slot_link_lem slot_left_lem ∙ sym (left_by m.places m.slot p (f.tidy.one p)))

  -- WHAT A PLACE HAS IN HAND IS SMALL
  pub hands_small : SmallHands b
  unfolding largest_charge charged framing
  hands_small p = record { most_left = rw slot_left_lem (rest m.slot); most_deficit = rw (deficit_at p) (omega (arith, (f.tidy.shape.place_ok p).owed, most)) }
    where
      most : largest_charge m.largest ≤ 2048
      most = omega (arith, f.tidy.shape.most)

      rest : (slot : Option ℕ) → slot_left m.places slot < 2 ^ 32
      rest none = omega arith
      rest (some q) = omega (arith, left_under m.largest (at m q).share (at m q).lane (at m q).stand (f.tidy.shape.place_ok q).stand_ok, most)

  -- THE TEST DECIDES
  fits_at : (t : Tallies) (p : ℕ) → fits_now b t p ≡ account_fits m p (account_now t p)
  unfolding account_fits
  fits_at t p = ap₂ (λ (s h : ℕ). fits_with (ltb 0 s) h (account_now t p)) (share_at p) (hand_at p)

  -- beyond the places nothing is open and nothing counted
  beyond : (t : Tallies) → TalliesSized t → (p : ℕ) → 64 ≤ p → account_fits m p (account_now t p) ≡ true
  unfolding account_fits
  beyond t z p h = none_fit (at m p) (account_now t p) free counted
    where
      free : at m p ≡ free_place
      free = get_or-eq_default m.places free_place (omega (arith, f.tidy.shape.all64))

      none_at : (l : List ℕ) → length l ≡ 64 → get_or l p 0 ≡ 0
      none_at l e = get_or-eq_default l 0 (omega (arith, e))

      counted : account_now t p ≡ no_account
      counted = same_account (none_at t.slots z.slots) (none_at t.credits z.credits) (none_at t.bytes z.bytes) (none_at t.lost z.lost)

-- a flag, or a test of the first n numbers, where the later ones pass it
or_all : (full : Bool) (n : ℕ) (t : ℕ → Bool) → ((p : ℕ) → n ≤ p → t p ≡ true) → Decides (full || all_below n t) (full ≡ false → (p : ℕ) → t p ≡ true)
or_all true n t later = record { yes = λ h e. absurd (true≢false e); no = λ w. refl }
or_all false n t later = record { yes = λ h e p. go h p (split n p); no = λ w. all_intro t n (λ i l. w refl i) }
  where
    go : all_below n t ≡ true → (p : ℕ) → (n ≤ p) ⊎ (p < n) → t p ≡ true
    go h p (inl l) = later p l
    go h p (inr l) = all_at t n p h l

pub counts_fit_decides : CountsFitDecides
unfolding counts_fit_now
counts_fit_decides b ids lens c k z =
    d_iff (or_all c.full 64 (fits_now b t) (λ p h. fits_at b ids lens k t p ∙ beyond b ids lens k t z p h)) (λ w e p. sym (fits_at b ids lens k t p) ∙ w e p)
    (λ w e p. fits_at b ids lens k t p ∙ w e p)
  where
    t : Tallies
    t = tallies_of c
