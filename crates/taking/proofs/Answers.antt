-- A RECORD COMES: codes and steps of the code are the rules' turn, with the tables; on a value that is known to be good
-- what the code asks holds, and what it leaves is the promise.
use mathlib.Core.Path.{◌≡◌, refl, ap, subst}
use mathlib.Core.Bool.{cond, ◌||◌}
use mathlib.Core.List.{List}
use Prim.Native.Nat.{ℕ, ◌<◌}
use native.Mathlib.Omega.{arith}
use lib.Dec.{eqb, leb}
use lib.ListN.{length, get_or, set}
use Rattle.lanes.specs.Lanes.{lane_depth, lane_entry}
use Rattle.rules.specs.Board
use Rattle.rules.specs.Board.{Record, at, entry}
use Rattle.rules.specs.Choice.{Taken, Out, refused, taken, Turn, refuse, where_is, number_outside, length_outside, lane_full, took_at, take_record}
use Rattle.rules.specs.Calls.{record!, step, one, done! }
use Rattle.rules.proofs.Cases.{where_has}
use Rattle.board.specs.declared.Board as struct
use Rattle.board.specs.Reading.{encode, view}
use Rattle.board.specs.Leaving.{Reply, Returned, returned, replied, written, Known, ruled}
use Rattle.board.proofs.Reading.{Fit}
use Rattle.board.proofs.Sound.{fit_view}
use Rattle.board.proofs.Fields.{count_is, start_is}
use Rattle.board.proofs.Bounds.{bought, within, linked}
use Rattle.board.proofs.Agrees.{turned, agrees, by_spelling}
use Rattle.finding.proofs.Finding.{known_by}
use Rattle.board.specs.Memory.{Taking, taking_of, with_taking, seen_of}
use Rattle.taking.specs.Taking.{taken_at, RecordNeeds, Recording, recording, no_taken, recorded_at, recorded_in}
use Rattle.taking.proofs.Taking.{take_is}

-- what comes of taking a record, in the rules' words
abbrev pub out_of : Recording → Out
out_of x = cond (eqb x.code 0) (taken x.tells) (refused x.code)

module _ (m : Board.Board) (f : Fit m) (ids lens : List ℕ) (n id len : ℕ) where
  abbrev r : Record
  r = record { number = id; bytes = len }

  abbrev recorded : Recording → Returned Reply
  recorded x = returned (replied x.code (with_taking (encode m) x.taking)) x.ids x.lens

  abbrev p : ℕ
  p = where_is m n

  abbrev left : Taking
  left = taking_of (encode m)

  -- the entry behind the last record of place i
  abbrev behind : ℕ → ℕ
  behind i = lane_entry i (get_or (encode m).starts i 0) (get_or (encode m).counts i 0)

  abbrev by_record : Turn → Returned Reply
  by_record = turned (encode m) ids lens m (record! n r)

  entry_is : (i : ℕ) → behind i ≡ entry i (at m i) (length (at m i).lane)
  unfolding entry
  entry_is i = rw (start_is m i, count_is m i)

  -- it is taken at p
  abbrev took : Recording
  took =
      let tells : Taken = record { place = p; entry = behind p; before = get_or (encode m).counts p 0 } in
      let next = taken_at (encode m).shares (encode m).clock p left in
      recording 0 tells next (set ids (behind p) id) (set lens (behind p) len)

  abbrev here : Recording
  here = recorded_in (seen_of (encode m)) (encode m).largest (encode m).clock n id len left ids lens

  -- by its checks: what is read of a refusal and of a taking
  record_by : {R : Type 0} (shown : Recording → R) (came : Turn → R)
      → shown (recording 4 no_taken left ids lens) ≡ came (refuse m 4)
      → shown (recording 6 no_taken left ids lens) ≡ came (refuse m 6)
      → shown (recording 9 no_taken left ids lens) ≡ came (refuse m 9)
      → (p < 64 → shown took ≡ came (took_at m p r))
      → shown here ≡ came (take_record m n r)
  unfolding recorded_in take_record encode
  record_by shown came s4 s6 s9 goes =
      let comes = recorded_at (seen_of (encode m)) (encode m).clock id len left ids lens in
      agrees shown came m _ (number_outside n || length_outside m len) 4 _ _ _ refl s4 λ e4.
      known_by m f.tidy shown came n comes (recording 6 no_taken left ids lens) _ s6 λ h.
      agrees shown came m _ (lane_full (at m p)) 9 _ _ _ (ap (leb lane_depth) (count_is m p)) s9 λ e9.
      goes h

  took_is : p < 64 → recorded took ≡ by_record (took_at m p r)
  took_is h = λ j.
      returned (replied 0 (take_is m f.tidy p r h (where_has m n h).bought j))
      (set ids (entry_is p j) id) (set lens (entry_is p j) len)

  pub record_is : recorded here ≡ written (encode m) ids lens (done! m (one (record! n r)))
  unfolding step
  record_is = record_by recorded by_record refl refl refl took_is

  -- what it tells is what the rules tell
  pub record_tells : out_of here ≡ (step m (record! n r)).out
  unfolding step
  record_tells = record_by out_of (λ (u : Turn). u.out) refl refl refl λ h.
      λ j. taken (record { place = p; entry = entry_is p j; before = count_is m p j })

module _ (m : Board.Board) (f : Fit m) where
  written_record_needs : (ids lens : List ℕ) → length ids ≡ 2048 → length lens ≡ 2048
      → RecordNeeds (seen_of (encode m)) (encode m).tails (encode m).clock ids lens
  unfolding encode
  written_record_needs ids lens a d =
      record { low = bought m f; high = within m f; time = omega (arith, f.tidy.time); last = linked m f; ids_all = a; lens_all = d }

-- ---- On a value that is known to be good
module _ (b : struct.Board) (ids lens : List ℕ) (k : Known b ids lens) where
  abbrev m : Board.Board
  m = view b ids lens

  f : Fit (view b ids lens)
  f = fit_view b ids lens k.sound

  pub record_needs : RecordNeeds (seen_of b) b.tails b.clock ids lens
  record_needs =
      subst (λ (c : struct.Board). RecordNeeds (seen_of c) c.tails c.clock ids lens) k.sound.spells
      (written_record_needs m f ids lens k.ids_all k.lens_all)

  pub record_known : (n id len : ℕ) (x : Recording) → x ≡ recorded_in (seen_of b) b.largest b.clock n id len (taking_of b) ids lens
      → returned (replied x.code (with_taking b x.taking)) x.ids x.lens ≡ ruled b ids lens (record! n (record { number = id; bytes = len }))
  record_known n id len x e =
      rw e (by_spelling b ids lens k (record! n (record { number = id; bytes = len }))
      (λ c. let x = recorded_in (seen_of c) c.largest c.clock n id len (taking_of c) ids lens in
      returned (replied x.code (with_taking c x.taking)) x.ids x.lens) (record_is m f ids lens n id len))

  -- and what it tells is what the rules tell
  pub record_told : (n id len : ℕ) (x : Recording)
      → x ≡ recorded_in (seen_of b) b.largest b.clock n id len (taking_of b) ids lens
      → out_of x ≡ (step m (record! n (record { number = id; bytes = len }))).out
  record_told n id len x e = rw e (subst told k.sound.spells (record_tells m f ids lens n id len))
    where
      told : struct.Board → Type 0
      told c =
          out_of (recorded_in (seen_of c) c.largest c.clock n id len (taking_of c) ids lens)
          ≡ (step m (record! n (record { number = id; bytes = len }))).out
