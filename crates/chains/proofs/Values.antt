-- What a value's fields and arrays hold is what the board that it spells has: it is what is written of that board.
use mathlib.Core.Path.{◌≡◌, refl, sym, ap, ◌∙◌}
use mathlib.Core.Bool.{Bool, true, false, cond, true≢false}
use mathlib.Core.Logic.{◌≢◌}
use mathlib.Core.Option.{some}
use Prim.Native.Nat.{ℕ, zero, suc}
use native.Mathlib.Omega.{arith}
use lib.Dec.{eqb}
use lib.ListN.{length, get_or, get_or-map}
use Rattle.base.proofs.Numbers.{eqb_yes, eqb_no, eqb_true}
use Rattle.rules.specs.Board
use Rattle.rules.specs.Board.{Stand, out, queued, serving, Place, free_place, at}
use Rattle.rules.specs.Choice.{is_none, left_of}
use Rattle.rules.specs.Spoilt.{is_serving, is_at}
use Rattle.rules.specs.Promises.{in_hand}
use Rattle.rules.proofs.Slot.{serving_not_queued}
use Rattle.rules.proofs.Tidy.{Tidy}
use Rattle.board.specs.declared.Board as struct
use Rattle.board.specs.Reading.{encode, view, slot_by, slot_left}
use Rattle.board.proofs.Sound.{fit_view}
use Rattle.board.specs.Memory.{Holding}
use Rattle.chains.specs.Demands.{reads, KnownHolding}
use Rattle.chains.specs.Accounts.{in_hand_in}

-- ---- what is written

share_at : (b : Board.Board) (p : ℕ) → get_or (encode b).shares p 0 ≡ (at b p).share
unfolding encode
share_at b p = get_or-map (λ (x : Place). x.share) b.places p free_place

deficit_at : (b : Board.Board) (p : ℕ) → get_or (encode b).deficits p 0 ≡ (at b p).deficit
unfolding encode
deficit_at b p = get_or-map (λ (x : Place). x.deficit) b.places p free_place

count_at : (b : Board.Board) (p : ℕ) → get_or (encode b).counts p 0 ≡ length (at b p).lane
unfolding encode
count_at b p = get_or-map (λ (x : Place). length x.lane) b.places p free_place

left_at : (b : Board.Board) → (encode b).left.0 ≡ slot_left b.places b.slot
unfolding encode
left_at b = refl

-- ---- what is read

pub slot_reads : (s : Holding) → (reads s).slot ≡ slot_by s.board.slot
unfolding view
slot_reads s = refl

pub size_reads : (s : Holding) → (reads s).largest ≡ s.board.largest
unfolding view
size_reads s = refl

pub none_by : (link : ℕ) → is_none (slot_by link) ≡ eqb link 0
none_by zero = refl
none_by (suc p) = sym (eqb_no (suc p) 0 (λ e. omega arith))

away_by : (link p : ℕ) → link ≢ suc p → is_at p (slot_by link) ≡ false
away_by zero p ne = refl
away_by (suc q) p ne = eqb_no p q (λ e. ne (ap suc (sym e)))

left_idle : (x : Stand) → is_serving x ≡ false → left_of x ≡ 0
left_idle out e = refl
left_idle (queued r) e = refl
left_idle (serving n) e = absurd (true≢false e)

module _ (s : Holding) (k : KnownHolding s) where
  pub tidy_reads : Tidy (reads s)
  tidy_reads = (fit_view s.board s.ids s.lens k.sound).tidy

  pub share_is : (p : ℕ) → get_or s.board.shares p 0 ≡ (at (reads s) p).share
  share_is p = ap (λ (v : struct.Board). get_or v.shares p 0) (sym k.sound.spells) ∙ share_at (reads s) p

  pub deficit_is : (p : ℕ) → get_or s.board.deficits p 0 ≡ (at (reads s) p).deficit
  deficit_is p = ap (λ (v : struct.Board). get_or v.deficits p 0) (sym k.sound.spells) ∙ deficit_at (reads s) p

  pub count_is : (p : ℕ) → get_or s.board.counts p 0 ≡ length (at (reads s) p).lane
  count_is p = ap (λ (v : struct.Board). get_or v.counts p 0) (sym k.sound.spells) ∙ count_at (reads s) p

  pub slot_is : (p : ℕ) → s.board.slot ≡ suc p → (reads s).slot ≡ some p
  slot_is p e = slot_reads s ∙ ap slot_by e

  pub left_is : (p : ℕ) → s.board.slot ≡ suc p → s.board.left.0 ≡ left_of (at (reads s) p).stand
  left_is p e =
      ap (λ (v : struct.Board). v.left.0) (sym k.sound.spells) ∙ left_at (reads s) ∙ ap (slot_left (reads s).places) (slot_is p e)

  -- the deficit of the slot's block is 0, and no other has something left
  pub in_hand_is : (p : ℕ) → in_hand_in s p ≡ in_hand (at (reads s) p)
  in_hand_is p = go (eqb s.board.slot (suc p)) refl
    where
      go : (t : Bool) → eqb s.board.slot (suc p) ≡ t → cond t s.board.left.0 (get_or s.board.deficits p 0) ≡ in_hand (at (reads s) p)
      go true e =
          let own = eqb_true s.board.slot (suc p) e in
          let is_s = tidy_reads.one p ∙ ap (is_at p) (slot_is p own) ∙ eqb_yes p p refl in
          omega (arith, left_is p own, (tidy_reads.shape.place_ok p).clear (serving_not_queued (at (reads s) p).stand is_s))
      go false e =
          let away = away_by s.board.slot p (λ f. true≢false (sym (eqb_yes s.board.slot (suc p) f) ∙ e)) in
          omega (arith, deficit_is p, left_idle (at (reads s) p).stand (tidy_reads.one p ∙ ap (is_at p) (slot_reads s) ∙ away))
