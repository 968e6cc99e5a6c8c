-- A serve within a number of bytes and the room of a list, and the rules' serve and burst.
use mathlib.Core.Path.{◌≡◌, refl}
use mathlib.Core.Bool.{Bool, false, cond}
use mathlib.Core.Logic.{◌⊎◌, inl, inr, ◌≢◌}
use mathlib.Core.List.{List}
use Prim.Native.Nat.{ℕ, zero, suc, ◌-◌, ◌≤◌, ◌<◌}
use native.Mathlib.Omega.{arith}
use lib.Dec.{eqb, ltb}
use lib.ListN.{get_or}
use borrow.Author.Tests.{eq-eqb, ne_eqb, lt-ltb, le-ltb}
use Rattle.base.proofs.Numbers.{split}
use Rattle.units.specs.Credit.{charged, largest_charge}
use Rattle.units.proofs.Credits.{charge_small}
use Rattle.lanes.specs.Lanes.{lane_entry}
use Rattle.lanes.proofs.Lanes.{lane_inside}
use Rattle.rules.specs.Board
use Rattle.rules.specs.Board.{Record, at, bytes_charged}
use Rattle.rules.specs.Choice.{Out, refused, done, taken, Sending, sent, serve}
use Rattle.rules.specs.Burst.{stopped, sent_first, burst}
use Rattle.rules.specs.Calls.{serve!, step}
use Rattle.rules.proofs.TidyCalls.{tidy_serve}
use Rattle.rules.proofs.Frame.{seventeen_step}
use Rattle.board.specs.Reading.{encode, Holds}
use Rattle.board.proofs.Reading.{Fit}
use Rattle.slots.specs.Slots.{Choice}
use Rattle.slots.specs.Slots.{Go}
use Rattle.board.specs.Memory.{Engine, engine_of, with_engine}
use Rattle.slots.specs.Slots.{choice_of, opened}
use Rattle.serving.specs.Serving.{lost_from, enacted, Within, engine_after, ServeTells, untold, within_of, served_by, served_within}
use Rattle.board.proofs.Fields.{start_is}
use Rattle.serving.proofs.Serves.{Serves, ByAnswer, serve_by_lem}

-- no board is left unfit by a serve
pub fit_serve : (m : Board.Board) → Fit m → Fit (serve m).next
unfolding step
fit_serve m f = record { tidy = tidy_serve m f.tidy; classes = seventeen_step m serve! f.classes }

-- ---- The rules' burst by what the serve comes to

burst_refused : (m : Board.Board) (bytes room code : ℕ) → (serve m).out ≡ refused code → burst m bytes room ≡ stopped m code
unfolding burst
burst_refused m bytes zero code e = rw e
burst_refused m bytes (suc room) code e = rw e

module _ (m : Board.Board) (bytes : ℕ) (s : Sending) (e : (serve m).out ≡ sent s) where
  abbrev r : Record
  r = s.front

  burst_full : (room : ℕ) → room ≡ 0 → burst m bytes room ≡ stopped m 14
  unfolding burst
  burst_full room z = rw (z, e)

  burst_long : (room : ℕ) → room ≢ 0 → bytes < bytes_charged r → burst m bytes room ≡ stopped m 13
  unfolding burst
  burst_long zero ne h = absurd (ne refl)
  burst_long (suc room) ne h = rw (e, lt-ltb bytes (bytes_charged r) h)

  burst_goes : (room : ℕ) → room ≢ 0 → bytes_charged r ≤ bytes → burst m bytes room ≡ sent_first r (burst (serve m).next (bytes - bytes_charged r) (room - 1))
  unfolding burst
  burst_goes zero ne h = absurd (ne refl)
  burst_goes (suc room) ne h = let less : suc room - 1 ≡ room = omega arith in rw (e, le-ltb bytes (bytes_charged r) h, less)

-- ---- It stops, with a code, and leaves all as it was

pub record Stops (m : Board.Board) (bytes room : ℕ) (w : Within) : Type 0 where
  pub code : w.step.code ≢ 0
  pub same : w ≡ within_of w.step.code untold (engine_of (encode m))
  pub burst_is : burst m bytes room ≡ stopped m w.step.code
  -- the serve is refused, or the list or the bytes stop the burst
  pub why : ((serve m).out ≡ refused w.step.code) ⊎ ((room ≡ 0) ⊎ ((r : Record) × (bytes < bytes_charged r) × (bytes_charged r < 65536)))

-- ---- Or a record is sent

pub record SendsOne (m : Board.Board) (ids lens : List ℕ) (bytes room : ℕ) (w : Within) : Type 0 where
  pub code : w.step.code ≡ 0
  pub sends : Sending
  pub out : (serve m).out ≡ sent sends
  pub place_is : w.step.place ≡ sends.place
  pub entry_is : w.step.entry ≡ sends.entry
  pub clock_is : w.step.slot_clock ≡ sends.clock
  pub began_is : w.step.began ≡ sends.began
  pub lost_is : w.step.lost.0 ≡ sends.lost
  pub next : with_engine (encode m) (engine_after w) ≡ encode (serve m).next
  pub holds : Holds (serve m).next ids lens
  pub some : room ≢ 0
  pub fits : bytes_charged sends.front ≤ bytes
  pub inside : w.step.place < 64
  pub entry : w.step.entry < 2048
  pub charge_is : w.step.bytes.0 ≡ bytes_charged sends.front
  pub number_is : get_or ids w.step.entry 0 ≡ sends.front.number
  pub bytes_is : get_or lens w.step.entry 0 ≡ sends.front.bytes
  pub burst_is : burst m bytes room ≡ sent_first sends.front (burst (serve m).next (bytes - bytes_charged sends.front) (room - 1))

-- a record that is sent is no longer than L
small_charge : (n L : ℕ) → n ≤ L → L ≤ 2048 → charged n < 65536
unfolding charged largest_charge
small_charge n L h l = omega (arith, charge_small L l)

module _ (m : Board.Board) (fit : Fit m) (ids lens : List ℕ) (holds : Holds m ids lens) (bytes room : ℕ) where
  abbrev made : Choice → Within
  made c = served_by (encode m).shares lens (encode m).largest bytes room (engine_of (encode m)) c

  go_on : (s : Sending) → (serve m).out ≡ sent s → Serves m ids lens s (serve m).next
      → let c = Go s.place s.clock in Stops m bytes room (made c) ⊎ SendsOne m ids lens bytes room (made c)
  unfolding bytes_charged
  go_on s e w = rw (start_is m p, w.bytes) (by_room (split 1 room))
    where
      p : ℕ
      p = s.place

      r : Record
      r = s.front

      t : ℕ
      t = s.clock

      c : ℕ
      c = charged r.bytes

      small : charged r.bytes < 65536
      small = small_charge r.bytes m.largest w.short fit.tidy.shape.most

      entry : ℕ
      entry = lane_entry p (at m p).start 0

      lost : ℕ
      lost = lost_from lens p (opened (encode m).shares (encode m).largest p t (engine_of (encode m)))

      E : Engine
      E = enacted (encode m).shares lens (encode m).largest p t (engine_of (encode m))

      told : ServeTells
      told = record { place = p; entry = entry; bytes = c; clock = t; began = eqb (encode m).slot 0; lost = lost }

      result : Bool → Bool → Within
      result full long =
          cond full (within_of 14 untold (engine_of (encode m)))
          (cond long (within_of 13 untold (engine_of (encode m))) (within_of 0 told E))

      by_bytes : 1 ≤ room → (bytes < c) ⊎ (c ≤ bytes)
          → Stops m bytes room (result false (ltb bytes c)) ⊎ SendsOne m ids lens bytes room (result false (ltb bytes c))
      by_bytes some (inl h) =
          rw (lt-ltb bytes c h)
          (inl (record { code = λ z. omega arith; same = refl; burst_is = burst_long m bytes s e room (λ z. omega arith) h; why = inr (inr (r, h, small)) }))
      by_bytes some (inr h) = rw (le-ltb bytes c h) (inr (record {
        code = refl;
        sends = s;
        out = e;
        place_is = refl;
        entry_is = w.entry;
        clock_is = refl;
        began_is = w.began;
        lost_is = w.lost;
        next = w.enacts;
        holds = w.holds;
        some = λ z. omega arith;
        fits = h;
        inside = w.inside;
        entry = entry_small;
        charge_is = refl;
        number_is = w.number;
        bytes_is = w.bytes;
        burst_is = burst_goes m bytes s e room (λ z. omega arith) h;
      }))
        where
          entry_small : lane_entry p (at m p).start 0 < 2048
          entry_small = lane_inside p (at m p).start 0 w.inside

      by_room : (1 ≤ room) ⊎ (room < 1)
          → Stops m bytes room (result (eqb room 0) (ltb bytes c)) ⊎ SendsOne m ids lens bytes room (result (eqb room 0) (ltb bytes c))
      by_room (inl h) = rw (ne_eqb room 0 (λ z. omega arith)) (by_bytes h (turn (split c bytes)))
        where
          turn : (c ≤ bytes) ⊎ (bytes < c) → (bytes < c) ⊎ (c ≤ bytes)
          turn (inl x) = inr x
          turn (inr x) = inl x
      by_room (inr h) =
          let z : room ≡ 0 = omega arith in
          rw (eq-eqb room 0 z) (inl (record { code = λ y. omega arith; same = refl; burst_is = burst_full m bytes s e room z; why = inr (inl z) }))

  -- A SERVE WITHIN, by the rules
  pub within_by : Stops m bytes room (served_within (encode m).shares lens (encode m).largest bytes room (engine_of (encode m)))
      ⊎ SendsOne m ids lens bytes room (served_within (encode m).shares lens (encode m).largest bytes room (engine_of (encode m)))
  unfolding served_within ByAnswer
  within_by = go (serve m).out refl (serve_by_lem m fit ids lens holds)
    where
      go : (o : Out) → (serve m).out ≡ o → ByAnswer m ids lens o (serve m).next
          → Stops m bytes room (made (choice_of (engine_of (encode m)))) ⊎ SendsOne m ids lens bytes room (made (choice_of (engine_of (encode m))))
      go (refused code) e w = rw w.stops (inl (record { code = w.refusal; same = refl; burst_is = burst_refused m bytes room code e; why = inl e }))
      go done e w = elim w [ ]
      go (taken _) e w = elim w [ ]
      go (sent s) e w = rw w.chooses (go_on s e w)
