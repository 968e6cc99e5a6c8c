-- A whole serve: what the engine chooses, asks and leaves is what the rules say.
use mathlib.Core.Path.{◌≡◌, refl, sym, ap, subst, ◌∙◌}
use mathlib.Core.Bool.{Bool, true, false, cond, not, true≢false}
use mathlib.Core.Logic.{◌⊎◌, inl, inr, ◌≢◌}
use mathlib.Core.Option.{Option, none, some}
use mathlib.Core.List.{List, [], ◌∷◌, ◌++◌}
use Prim.Native.Nat.{ℕ, zero, suc, ◌+◌, ◌*◌, ◌-◌, ◌^◌, ◌≤◌, ◌<◌, max}
use native.Mathlib.Omega.{arith}
use native.Mathlib.Numerals.{add-one}
use native.Mathlib.Decide.{ℕ_discrete}
use lib.Dec.{eqb, leb, ltb}
use lib.ListN.{length, get_or, set, drop, length-drop}
use lib.Seq.{get_or-set_same, get_or-set_other, get_or-drop}
use borrow.Author.Tests.{eq-eqb, ne_eqb, lt-ltb, le-ltb}
use Rattle.base.specs.Sums.{one_if}
use Rattle.base.proofs.Sums.{one_if_le}
use Rattle.base.proofs.Numbers.{split, leb_yes, leb_no, true_le, false_lt}
use Rattle.units.specs.Classes.{class_of}
use Rattle.units.specs.Credit.{charge_of, largest_charge}
use Rattle.units.proofs.Classes.{class_le}
use Rattle.units.proofs.Credits.{charge_small}
use Rattle.lanes.specs.Lanes.{lane_depth, lane_first, lane_entry, lane_on}
use Rattle.lanes.proofs.Rings.{ring_moved}
use Rattle.rules.specs.Board
use Rattle.rules.specs.Board.{Record, no_record, Place, free_place, block_class, at, entry, bytes_charged, front, onward}
use Rattle.rules.specs.Choice.{is_none, Out, refused, done, taken, Sending, sending, sent, Turn, left_of, left_after, lost_at, least_ready, upd, started}
use Rattle.rules.specs.Choice.{emptied}
use Rattle.rules.specs.Choice.{short, going, ended, go_on, send_from, send, begin, lowest, chosen, serve}
use Rattle.rules.specs.Spoilt.{count, in_class}
use Rattle.rules.proofs.Orders.{pl, upd_other, in_head, count_head}
use Rattle.rules.proofs.Shape.{LeastIs, least_is, Chosen, choose, all_front, release_le, queued_in, InSize}
use Rattle.rules.proofs.Slot.{serving_ok}
use Rattle.rules.proofs.Turns.{busy}
use Rattle.rules.proofs.Tidy.{Tidy, tidy_send, tidy_begin}
use Rattle.rules.proofs.Cases.{Refusal, GoesOn, Begins, Unserved, nobody, late, serve_cases}
use Rattle.board.specs.declared.Board as struct
use Rattle.board.specs.Reading.{first_link, last_link, slot_link, slot_left, encode, record_at, lane_of, Holds}
use Rattle.board.proofs.Lists.{get_d_tab, last_in}
use Rattle.board.proofs.Rings.{lane_at, lane_drop, lane_by, empty_lane}
use Rattle.board.proofs.Reading.{Fit, small}
use Rattle.board.proofs.Moves.{after_first}
use Rattle.slots.specs.Slots.{Stop, Go}
use Rattle.board.specs.Memory.{Engine, engine_of, with_engine}
use Rattle.slots.specs.Slots.{choice, choice_of, chosen_class, slot_clock, CanChoose, CanBegin, opened_slot, opened}
use Rattle.serving.specs.Serving.{sent_from, lost_from, CanSend, enacted, CanEnact, CanServe}
use Rattle.board.proofs.Fields.{share_is, start_is, count_is, deficit_is}
use Rattle.slots.proofs.Sets as sets
use Rattle.slots.proofs.Choosing.{choice_is}
use Rattle.slots.proofs.Beginning.{begin_is}
use Rattle.serving.proofs.Sending.{empty_engine, going_engine, waiting_engine, is_s, in_l, some!, going_is, empty_is, short_is}

-- ---- The front of a lane and the record behind it

front_entry : (p : ℕ) (x : Place) → lane_entry p x.start 0 ≡ entry p x 0
unfolding entry
front_entry p x = refl

next_entry : (p : ℕ) (x : Place) → lane_entry p (lane_on x.start) 0 ≡ entry p x 1
unfolding entry
next_entry p x = ring_moved (lane_first p) lane_depth x.start 0

module _ (m : Board.Board) (fit : Fit m) (ids lens : List ℕ) (holds : Holds m ids lens) (p : ℕ) where
  pub front_is : 1 ≤ length (at m p).lane → record_at ids lens (lane_entry p (at m p).start 0) ≡ front (at m p)
  front_is h =
      ap (record_at ids lens) (front_entry p (at m p))
      ∙ sym (ap (λ (xs : List Record). get_or xs 0 no_record) (holds p) ∙ lane_at ids lens p (at m p) (length (at m p).lane) 0 h)

  second_is : 1 < length (at m p).lane → record_at ids lens (lane_entry p (lane_on (at m p).start) 0) ≡ get_or (drop 1 (at m p).lane) 0 no_record
  second_is two =
      ap (record_at ids lens) (next_entry p (at m p))
      ∙ sym (get_or-drop 1 (at m p).lane 0 no_record ∙ ap (λ (xs : List Record). get_or xs 1 no_record) (holds p)
      ∙ lane_at ids lens p (at m p) (length (at m p).lane) 1 two)

-- a waiting record is no longer than L
short_front : (m : Board.Board) → Fit m → (p : ℕ) → 1 ≤ length (at m p).lane → (front (at m p)).bytes ≤ m.largest
short_front m fit p h = (all_front (InSize m.largest) no_record (at m p).lane h (fit.tidy.shape.place_ok p).items).1

-- ---- A send from the open slot, with what it reads named
sent_eq : (shares lens : List ℕ) (p : ℕ) (e : Engine) (st n s : ℕ) → get_or e.starts p 0 ≡ st → get_or e.counts p 0 ≡ n → get_or shares p 0 ≡ s
    → sent_from shares lens p e ≡ cond (eqb (n - 1) 0) (empty_engine p (class_of s) (lane_on st) (n - 1) e)
    (cond (leb (charge_of (get_or lens (lane_entry p (lane_on st) 0) 0)) (e.now.left.0 - charge_of (get_or lens (lane_entry p st 0) 0)))
    (going_engine p (lane_on st) (n - 1) (e.now.left.0 - charge_of (get_or lens (lane_entry p st 0) 0)) e)
    (waiting_engine p (class_of s) (lane_on st) (n - 1) (e.now.left.0 - charge_of (get_or lens (lane_entry p st 0) 0)) e))
unfolding sent_from
sent_eq shares lens p e st n s a b c = rw (a, b, c)

last_one : (n : ℕ) → 1 ≤ n → eqb (n - 1) 0 ≡ leb n 1
last_one n h = go (split n 1)
  where
    go : (n ≤ 1) ⊎ (1 < n) → eqb (n - 1) 0 ≡ leb n 1
    go (inl l) = eq-eqb (n - 1) 0 (omega arith) ∙ sym (leb_yes n 1 l)
    go (inr l) = ne_eqb (n - 1) 0 (λ z. omega arith) ∙ sym (leb_no n 1 l)

fits_not : (a b : ℕ) → leb a b ≡ not (ltb b a)
fits_not a b = go (split a b)
  where
    go : (a ≤ b) ⊎ (b < a) → leb a b ≡ not (ltb b a)
    go (inl l) = leb_yes a b l ∙ sym (ap not (le-ltb b a l))
    go (inr l) = leb_no a b l ∙ sym (ap not (lt-ltb b a l))

charge_is : (r : Record) → charge_of r.bytes ≡ bytes_charged r * 65536
unfolding charge_of bytes_charged
charge_is r = refl

after_is : (x : Place) → lane_on x.start ≡ onward x
unfolding onward
after_is x = refl

-- a change at one place, whose lane the tables hold
holds_set : (l : List Place) (p : ℕ) (y : Place) (ids lens : List ℕ) → p < length l
    → ((i : ℕ) → (pl l i).lane ≡ lane_of ids lens i (pl l i) (length (pl l i).lane))
    → y.lane ≡ lane_of ids lens p y (length y.lane) → (i : ℕ)
    → (pl (set l p y) i).lane ≡ lane_of ids lens i (pl (set l p y) i) (length (pl (set l p y) i).lane)
holds_set l p y ids lens h old new i = go (ℕ_discrete i p)
  where
    go : Dec (i ≡ p) → (pl (set l p y) i).lane ≡ lane_of ids lens i (pl (set l p y) i) (length (pl (set l p y) i).lane)
    go (yes e) = rw (e, get_or-set_same l p y free_place h) new
    go (no e) = rw (get_or-set_other l p i y free_place e) (old i)

module _ (m : Board.Board) (fit : Fit m) (p : ℕ) (held! : m.slot ≡ some p) (ids lens : List ℕ) (holds : Holds m ids lens) where
  abbrev x : Place
  x = at m p

  one! : 1 ≤ length (at m p).lane
  one! = some! m fit p held!

  bytes_is : get_or lens (lane_entry p (at m p).start 0) 0 ≡ (front (at m p)).bytes
  bytes_is = ap (λ (r : Record). r.bytes) (front_is m fit ids lens holds p one!)

  left_of_lem : (encode m).left.0 ≡ left_of (at m p).stand
  unfolding encode
  left_of_lem = ap (slot_left m.places) held!

  rest_is : (encode m).left.0 - charge_of (get_or lens (lane_entry p (at m p).start 0) 0) ≡ left_after (at m p)
  rest_is = rw (left_of_lem, bytes_is, charge_is (front (at m p)))

  -- what is lost of its slot
  lost_send : lost_from lens p (engine_of (encode m)) ≡ lost_at (at m p)
  unfolding lost_from
  lost_send = rw (start_is m p, count_is m p, rest_is, last_one (length (at m p).lane) one!)

  -- A SEND
  pub send_is : with_engine (encode m) (sent_from (encode m).shares lens p (engine_of (encode m))) ≡ encode (send_from m p)
  unfolding send_from
  send_is =
      ap (with_engine (encode m))
      (sent_eq (encode m).shares lens p (engine_of (encode m)) x.start (length x.lane) x.share (start_is m p) (count_is m p) (share_is m p))
      ∙ rw (rest_is, after_is x, last_one (length x.lane) one!) (go (leb (length x.lane) 1) refl (tidy_send m p held! fit.tidy))
    where
      need : ℕ
      need = bytes_charged (get_or (drop 1 x.lane) 0 no_record) * 65536

      A : Board.Board
      A = ended m p (emptied x) m.orders

      B : Board.Board
      B = ended m p (short m.clock x) (upd m.orders (block_class x) (m.orders (block_class x) ++ (p ∷ [])))

      C : Board.Board
      C = go_on m p (going x)

      two : 1 < length x.lane → (u : Bool) → Tidy (cond u B C)
          → with_engine (encode m)
          (cond (not u) (going_engine p (onward x) (length x.lane - 1) (left_after x) (engine_of (encode m)))
          (waiting_engine p (block_class x) (onward x) (length x.lane - 1) (left_after x) (engine_of (encode m)))) ≡ encode (cond u B C)
      two h true t = short_is m fit p held! h t
      two h false t = going_is m fit p held! h

      needs : 1 < length x.lane → charge_of (get_or lens (lane_entry p (onward x) 0) 0) ≡ bytes_charged (get_or (drop 1 x.lane) 0 no_record) * 65536
      needs h =
          ap (λ (n : ℕ). charge_of (get_or lens (lane_entry p n 0) 0)) (sym (after_is x))
          ∙ ap (λ (r : Record). charge_of r.bytes) (second_is m fit ids lens holds p h) ∙ charge_is (get_or (drop 1 x.lane) 0 no_record)

      go : (t : Bool) → leb (length x.lane) 1 ≡ t → Tidy (cond t A (cond (ltb (left_after x) need) B C))
          → with_engine (encode m)
          (cond t (empty_engine p (block_class x) (onward x) (length x.lane - 1) (engine_of (encode m)))
          (cond (leb (charge_of (get_or lens (lane_entry p (onward x) 0) 0)) (left_after x))
          (going_engine p (onward x) (length x.lane - 1) (left_after x) (engine_of (encode m)))
          (waiting_engine p (block_class x) (onward x) (length x.lane - 1) (left_after x) (engine_of (encode m)))))
          ≡ encode (cond t A (cond (ltb (left_after x) need) B C))
      go true f t =
          let z : length x.lane - 1 ≡ 0 = omega (arith, true_le (length x.lane) 1 f) in
          ap (λ (n : ℕ). with_engine (encode m) (empty_engine p (block_class x) (onward x) n (engine_of (encode m)))) z ∙ empty_is m fit p held! t
      go false f t =
          rw (needs (false_lt (length x.lane) 1 f), fits_not need (left_after x)) (two (false_lt (length x.lane) 1 f) (ltb (left_after x) need) t)

  -- the tables hold the lanes after it
  pub holds_send : Holds (send_from m p) ids lens
  unfolding send_from ended
  holds_send = go (leb (length x.lane) 1)
    where
      rest : (y : Place) → y.start ≡ onward x → y.lane ≡ drop 1 x.lane → y.lane ≡ lane_of ids lens p y (length y.lane)
      rest y s d =
          d ∙ ap (drop 1) (holds p) ∙ sym (lane_drop ids lens p x y (length x.lane) s)
          ∙ ap (lane_of ids lens p y) (sym (length-drop 1 x.lane) ∙ ap length (sym d))

      with! : (y : Place) → y.lane ≡ lane_of ids lens p y (length y.lane) → (i : ℕ)
          → (pl (set m.places p y) i).lane ≡ lane_of ids lens i (pl (set m.places p y) i) (length (pl (set m.places p y) i).lane)
      with! y e = holds_set m.places p y ids lens (in_l m fit p held!) holds e

      two : (u : Bool) → Holds
          (cond u (ended m p (short m.clock x) (upd m.orders (block_class x) (m.orders (block_class x) ++ (p ∷ [])))) (go_on m p (going x))) ids lens
      two true = with! (short m.clock x) (rest (short m.clock x) refl refl)
      two false = with! (going x) (rest (going x) refl refl)

      go : (t : Bool) → Holds
          (cond t (ended m p (emptied x) m.orders)
          (cond (ltb (left_after x) (bytes_charged (get_or (drop 1 x.lane) 0 no_record) * 65536))
          (ended m p (short m.clock x) (upd m.orders (block_class x) (m.orders (block_class x) ++ (p ∷ [])))) (go_on m p (going x)))) ids lens
      go true = with! (emptied x) (sym (empty_lane ids lens p (emptied x)))
      go false = two (ltb (left_after x) (bytes_charged (get_or (drop 1 x.lane) 0 no_record) * 65536))

  last_small : (k : ℕ) → last_link (m.orders k) ≤ 64
  last_small k = go (last_link (m.orders k)) refl
    where
      go : (n : ℕ) → last_link (m.orders k) ≡ n → n ≤ 64
      go zero e = omega arith
      go (suc z) e = omega (arith, small m fit.tidy k z (last_in (m.orders k) z e))

  -- what a send asks
  pub can_send : length lens ≡ 2048 → CanSend (encode m).shares lens p (engine_of (encode m))
  unfolding encode
  can_send h = record {
    inside = omega (arith, in_l m fit p held!, fit.tidy.shape.all64);
    table = h;
    some = rw (count_is m p) one!;
    low = rw (share_is m p) ok.1;
    high = rw (share_is m p) (fit.tidy.shape.place_ok p).most;
    tail = rw (share_is m p) (rw tail_of (last_small (block_class x)));
    time = time;
    fits = rw (start_is m p, bytes_is, charge_is (front x), left_of_lem) ok.2;
  }
    where
      ok : (1 ≤ length x.lane) × (1 ≤ x.share) × (bytes_charged (front x) * 65536 ≤ left_of x.stand)
          × (left_of x.stand < 3 * largest_charge m.largest * 65536)
      ok = serving_ok m.largest x.share x.lane x.stand (is_s m fit p held!) (fit.tidy.shape.place_ok p).stand_ok

      tail_of : get_or (encode m).tails (block_class x) 0 ≡ last_link (m.orders (block_class x))
      tail_of = get_d_tab 17 (λ j. last_link (m.orders j)) (block_class x) 0 (omega (arith, class_le x.share))

      time : (encode m).clock < 2 ^ 62
      time = omega (arith, fit.tidy.time, ap busy held!)

-- ---- The slot that serves is the open one, or one that begins: m' is the board with it, and p its place
module _ (m m' : Board.Board) (p t : ℕ) (ids lens : List ℕ) (fit : Fit m') (held! : m'.slot ≡ some p) (holds : Holds m' ids lens)
    (open_is : with_engine (encode m) (opened (encode m).shares (encode m).largest p t (engine_of (encode m))) ≡ encode m') where
  enact_is : with_engine (encode m) (enacted (encode m).shares lens (encode m).largest p t (engine_of (encode m))) ≡ encode (send_from m' p)
  unfolding enacted
  enact_is = ap (λ (b : struct.Board). with_engine b (sent_from b.shares lens p (engine_of b))) open_is ∙ send_is m' fit p held! ids lens holds

  lost_is : lost_from lens p (opened (encode m).shares (encode m).largest p t (engine_of (encode m))) ≡ lost_at (at m' p)
  lost_is =
      ap (λ (b : struct.Board). lost_from lens p (engine_of b)) open_is ∙ lost_send m' fit p held! ids lens holds

  can_sends : length lens ≡ 2048 → CanSend (encode m).shares lens p (opened (encode m).shares (encode m).largest p t (engine_of (encode m)))
  can_sends h = subst (λ (b : struct.Board). CanSend b.shares lens p (engine_of b)) (sym open_is) (can_send m' fit p held! ids lens holds h)

-- an open slot stays as it is
opened_as : (shares : List ℕ) (L p t : ℕ) (e : Engine) → e.now.slot ≡ suc p → e.now.clock ≡ t → opened shares L p t e ≡ e
unfolding opened opened_slot
opened_as shares L p t e s c =
    rw (eqb_slot) (λ j. record {
      starts = e.starts;
      counts = e.counts;
      queues = e.queues;
      now =
          record { clock = sym c j; active = e.now.active; pending = e.now.pending; slot = (add-one p ∙ sym s) j; left = e.now.left };
    })
  where
    eqb_slot : eqb e.now.slot 0 ≡ false
    eqb_slot = ne_eqb e.now.slot 0 (λ z. omega (arith, s))

-- a choice's fields
stop_go : (code place time : ℕ) → Stop code ≡ Go place time → ⊥
stop_go code place time e = let z : ◌≡◌ {A = ℕ} 0 1 = cc in omega arith

go_place : (p t place time : ℕ) → Go p t ≡ Go place time → p ≡ place
go_place p t place time e = cc

go_time : (p t place time : ℕ) → Go p t ≡ Go place time → t ≡ time
go_time p t place time e = cc

count_cons : (x p : ℕ) (xs : List ℕ) → count x (p ∷ xs) ≡ one_if (eqb x p) + count x xs
unfolding count
count_cons x p xs = refl

-- ---- By the answer of the rules: what the engine chooses, and what comes of it

pub record Serves (m : Board.Board) (ids lens : List ℕ) (s : Sending) (next : Board.Board) : Type 0 where
  pub chooses : choice_of (engine_of (encode m)) ≡ Go s.place s.clock
  pub can : length lens ≡ 2048 → CanEnact (encode m).shares lens (encode m).largest s.place s.clock (engine_of (encode m))
  pub enacts : with_engine (encode m) (enacted (encode m).shares lens (encode m).largest s.place s.clock (engine_of (encode m)))
      ≡ encode next
  pub holds : Holds next ids lens
  pub inside : s.place < 64
  pub number : get_or ids (lane_entry s.place (at m s.place).start 0) 0 ≡ s.front.number
  pub bytes : get_or lens (lane_entry s.place (at m s.place).start 0) 0 ≡ s.front.bytes
  pub short : s.front.bytes ≤ m.largest
  pub entry : lane_entry s.place (at m s.place).start 0 ≡ s.entry
  pub began : eqb (encode m).slot 0 ≡ s.began
  pub lost : let b = encode m in
      lost_from lens s.place (opened b.shares b.largest s.place s.clock (engine_of b)) ≡ s.lost

pub record Refuses (m : Board.Board) (code : ℕ) (next : Board.Board) : Type 0 where
  pub refusal : code ≢ 0
  pub stops : choice_of (engine_of (encode m)) ≡ Stop code
  pub stays : next ≡ m

unfoldable pub ByAnswer : Board.Board → List ℕ → List ℕ → Out → Board.Board → Type 0
ByAnswer m ids lens (refused code) next = Refuses m code next
ByAnswer m ids lens done next = ⊥
ByAnswer m ids lens (taken a) next = ⊥
ByAnswer m ids lens (sent s) next = Serves m ids lens s next

open_slot : (m : Board.Board) (p : ℕ) → m.slot ≡ some p → (encode m).slot ≡ suc p
unfolding encode
open_slot m p e = ap slot_link e

-- the slot is open
choice_open : (m : Board.Board) (p : ℕ) → m.slot ≡ some p → choice_of (engine_of (encode m)) ≡ Go p m.clock
unfolding choice encode
choice_open m p e = rw e (rw (ne_eqb (suc p) 0 (λ z. omega arith)) (ap (λ (n : ℕ). Go n m.clock) less))
  where
    less : suc p - 1 ≡ p
    less = omega arith

-- no slot is open: what is chosen, from the class and the clock
choice_free : (m : Board.Board) (k t h : ℕ) → m.slot ≡ none → eqb (encode m).active 0 ≡ false → chosen_class (encode m).active (encode m).pending ≡ k
    → slot_clock m.clock (encode m).pending k ≡ t → get_or (encode m).heads k 0 ≡ h
    → choice_of (engine_of (encode m)) ≡ cond (leb (2 ^ 62) t) (Stop 11) (Go (h - 1) t)
unfolding choice encode
choice_free m k t h e a c d f = rw (e, a, c, d, f)

choice_none : (m : Board.Board) → m.slot ≡ none → eqb (encode m).active 0 ≡ true → choice_of (engine_of (encode m)) ≡ Stop 1
unfolding choice encode
choice_none m e a = rw (e, a)

module _ (m : Board.Board) (fit : Fit m) where
  g : Tidy m
  g = fit.tidy

  abbrev K : ℕ
  K = chosen_class (encode m).active (encode m).pending

  -- no slot is open and a block waits: r is the least ready time
  module _ (free : m.slot ≡ none) (r : ℕ) (least : least_ready m.places ≡ some r) where
    li : LeastIs m.places (some r)
    li = subst (LeastIs m.places) least (least_is m.places)

    abbrev t : ℕ
    t = max m.clock r

    abbrev p : ℕ
    p = chosen m (max m.clock r)

    ch : Chosen m.places m.orders (max m.clock r) (lowest m (max m.clock r)) (chosen m (max m.clock r))
    unfolding lowest
    ch = choose m.places m.orders (max m.clock r) r g.shape.listed g.shape.rising li (omega arith)

    class_small : lowest m (max m.clock r) < 17
    class_small = omega (arith, ch.is_kind, class_le (at m (chosen m (max m.clock r))).share)

    head_is : get_or (encode m).heads (lowest m (max m.clock r)) 0 ≡ suc (chosen m (max m.clock r))
    unfolding encode
    head_is = get_d_tab 17 (λ j. first_link (m.orders j)) (lowest m (max m.clock r)) 0 class_small ∙ ap first_link ch.first

    chosen_is : chosen_class (encode m).active (encode m).pending ≡ lowest m (max m.clock r)
    chosen_is = (choice_is m g free r li).1

    time_is : slot_clock m.clock (encode m).pending (lowest m (max m.clock r)) ≡ max m.clock r
    time_is = ap (slot_clock m.clock (encode m).pending) (sym chosen_is) ∙ (choice_is m g free r li).0

    busy! : eqb (encode m).active 0 ≡ false
    busy! = sets.nobody m g free ∙ ap is_none least

    chooses : choice_of (engine_of (encode m)) ≡ cond (leb (2 ^ 62) (max m.clock r)) (Stop 11) (Go (chosen m (max m.clock r)) (max m.clock r))
    chooses = choice_free m (lowest m t) t (suc p) free busy! chosen_is time_is head_is ∙ ap (λ (n : ℕ). cond (leb (2 ^ 62) t) (Stop 11) (Go n t)) less
      where
        less : suc p - 1 ≡ p
        less = omega arith

  -- what the choice asks
  pub can_choose : CanChoose (encode m).clock (encode m).active (encode m).pending (encode m).slot (encode m).heads
  unfolding encode
  can_choose = record { time = clock_small; class = λ s a. class s a; first = λ s a. first s a }
    where
      clock_small : (encode m).clock ≤ 2 ^ 62
      clock_small = omega (arith, g.time)

      free : (s : Option ℕ) → m.slot ≡ s → (encode m).slot ≡ 0 → m.slot ≡ none
      free none e z = e
      free (some q) e z = absurd (omega (arith, z, open_slot m q e))

      busy : m.slot ≡ none → ((encode m).active ≡ 0 → ⊥) → (o : Option ℕ) → least_ready m.places ≡ o → (r : ℕ) × (least_ready m.places ≡ some r)
      busy f a none e = absurd (true≢false (sym (sets.nobody m g f ∙ ap is_none e) ∙ ne_eqb (encode m).active 0 a))
      busy f a (some r) e = (r, e)

      class : (encode m).slot ≡ 0 → ((encode m).active ≡ 0 → ⊥) → K < 17
      class s a =
          let f = free m.slot refl s in
          let w = busy f a (least_ready m.places) refl in
          rw (chosen_is f w.0 w.1) (class_small f w.0 w.1)

      first : (encode m).slot ≡ 0 → ((encode m).active ≡ 0 → ⊥) → 1 ≤ get_or (encode m).heads K 0
      first s a =
          let f = free m.slot refl s in
          let w = busy f a (least_ready m.places) refl in
          rw (chosen_is f w.0 w.1, head_is f w.0 w.1) (omega arith)

module _ (m : Board.Board) (fit : Fit m) (ids lens : List ℕ) (holds : Holds m ids lens) where
  -- A SERVE THAT GOES ON
  serves_on : (p : ℕ) → GoesOn m p → Serves m ids lens (sending false m p) (send_from m p)
  unfolding encode
  serves_on p w = record {
    chooses = choice_open m p w.slot;
    can =
        λ h. record {
          begins = λ z. absurd (omega (arith, z, open_slot m p w.slot));
          sends =
              can_sends m m p m.clock ids lens fit w.slot holds stays h;
        };
    enacts = enact_is m m p m.clock ids lens fit w.slot holds stays;
    holds = holds_send m fit p w.slot ids lens holds;
    inside = w.inside;
    number = ap (λ (r : Record). r.number) (front_is m fit ids lens holds p w.lane);
    bytes = ap (λ (r : Record). r.bytes) (front_is m fit ids lens holds p w.lane);
    short = short_front m fit p w.lane;
    entry = front_entry p (at m p);
    began = ne_eqb (encode m).slot 0 (λ z. omega (arith, z, open_slot m p w.slot));
    lost = lost_is m m p m.clock ids lens fit w.slot holds stays;
  }
    where
      stays : with_engine (encode m) (opened (encode m).shares (encode m).largest p m.clock (engine_of (encode m))) ≡ encode m
      stays =
          ap (with_engine (encode m)) (opened_as (encode m).shares (encode m).largest p m.clock (engine_of (encode m)) (open_slot m p w.slot) clock_of)
        where
          clock_of : (encode m).clock ≡ m.clock
          clock_of = refl

  -- A SERVE THAT BEGINS A SLOT
  serves_new : (r t p : ℕ) → Begins m r t p → p ≡ chosen m t → Serves m ids lens (sending true (begin m t) p) (send_from (begin m t) p)
  unfolding begin encode
  serves_new r t p w e = record {
    chooses = chooses m fit w.slot r w.least ∙ rw (← w.time, leb_no (2 ^ 62) t w.soon, ← e);
    can = λ h. record { begins = λ z. can_begin; sends = can_sends m (begin m t) p t ids lens fit_begin slot_begin holds_begin opens h };
    enacts = enact_is m (begin m t) p t ids lens fit_begin slot_begin holds_begin opens;
    holds = holds_send (begin m t) fit_begin p slot_begin ids lens holds_begin;
    inside = w.inside;
    number = ap (λ (x : Record). x.number) front_at;
    bytes = ap (λ (x : Record). x.bytes) front_at;
    short = subst (λ (x : Record). x.bytes ≤ m.largest) (sym (front_is m fit ids lens holds p w.lane) ∙ front_at) (short_front m fit p w.lane);
    entry = ap (λ (s : ℕ). lane_entry p s 0) (sym start_begin) ∙ front_entry p (at (begin m t) p);
    began = ap (λ (o : Option ℕ). eqb (slot_link o) 0) w.slot;
    lost = lost_is m (begin m t) p t ids lens fit_begin slot_begin holds_begin opens;
  }
    where
      next! : Tidy (begin m t)
      next! = rw w.time (tidy_begin m r w.slot (li m fit w.slot r w.least) (rw (← w.time) w.soon) fit.tidy)

      slot_begin : (begin m t).slot ≡ some p
      slot_begin = ap some (sym e)

      fit_begin : Fit (begin m t)
      fit_begin = record { tidy = next!; classes = record { no_order = no_order_lem; no_held = no_held_lem } }
        where
          no_order_lem : (k : ℕ) → 17 ≤ k → (begin m t).orders k ≡ []
          no_order_lem k h =
              upd_other m.orders (lowest m t) (drop 1 (m.orders (lowest m t))) k (λ q. omega (arith, q, w.choice.is_kind, class_le (at m p).share))
              ∙ fit.classes.no_order k h

          no_held_lem : (k : ℕ) → 17 ≤ k → (begin m t).held k ≡ 0
          no_held_lem k h = omega (arith, release_le m.clock t m.held k, fit.classes.no_held k h)

      in_l_lem : p < length m.places
      in_l_lem = queued_in m.places p w.choice.is_q

      y : Place
      y = started m.largest (at m p)

      places_are : (begin m t).places ≡ set m.places p (started m.largest (at m p))
      places_are = ap (λ (q : ℕ). set m.places q (started m.largest (at m q))) (sym e)

      start_begin : (at (begin m t) p).start ≡ (at m p).start
      start_begin =
          ap (λ (l : List Place). (pl l p).start) places_are
          ∙ ap (λ (x : Place). x.start) (get_or-set_same m.places p y free_place in_l_lem)

      holds_begin : Holds (begin m t) ids lens
      holds_begin =
          subst (λ (l : List Place). (i : ℕ) → (pl l i).lane ≡ lane_of ids lens i (pl l i) (length (pl l i).lane)) (sym places_are)
          (holds_set m.places p y ids lens in_l_lem holds (holds p ∙ lane_by ids lens p (at m p) y (length (at m p).lane) refl))

      front_at : record_at ids lens (lane_entry p (at m p).start 0) ≡ front (at (begin m t) p)
      front_at =
          front_is m fit ids lens holds p w.lane
          ∙ sym (ap (λ (l : List Place). front (pl l p)) places_are ∙ ap front (get_or-set_same m.places p y free_place in_l_lem))

      opens : with_engine (encode m) (opened (encode m).shares (encode m).largest p t (engine_of (encode m))) ≡ encode (begin m t)
      opens = begin_is m fit t p (omega (arith, w.time)) w.slot w.choice (sym e) next!

      can_begin : CanBegin (encode m).shares (encode m).largest p (class_of (get_or (encode m).shares p 0)) (engine_of (encode m)).queues
      can_begin = record {
        inside = w.inside;
        class = refl;
        low = rw (share_is m p) w.bought;
        high = rw (share_is m p) (fit.tidy.shape.place_ok p).most;
        least = fit.tidy.shape.least;
        most = fit.tidy.shape.most;
        behind = rw after (first_small (drop 1 (m.orders (lowest m t))) refl);
        owed = rw (deficit_is m p) (omega (arith, (fit.tidy.shape.place_ok p).owed, charge_small m.largest fit.tidy.shape.most));
      }
        where
          ps : List ℕ
          ps = drop 1 (m.orders (lowest m t))

          away : count p ps ≡ 0
          away =
              omega (arith, fit.tidy.shape.listed (lowest m t) p, one_if_le (in_class (lowest m t) (at m p)), ap (count p) w.choice.first, count_head p ps)

          after : get_or (encode m).next p 0 ≡ first_link ps
          after =
              after_first m.orders (λ j. block_class (at m j)) p (lowest m t) ps w.inside (omega (arith, w.choice.is_kind, class_le (at m p).share))
              (sym w.choice.is_kind) w.choice.first away

          first_small : (qs : List ℕ) → ps ≡ qs → first_link qs ≤ 64
          first_small [] q = omega arith
          first_small (x ∷ xs) q = omega (arith, small m fit.tidy (lowest m t) x (behind! x xs q))
            where
              behind! : (x : ℕ) (xs : List ℕ) → ps ≡ x ∷ xs → 1 ≤ count x (m.orders (lowest m t))
              behind! x xs q = rw (w.choice.first, q) (omega (arith, count_cons x p (x ∷ xs), in_head x xs))

  -- A SERVE, by the rules' answer
  pub serve_by_lem : ByAnswer m ids lens (serve m).out (serve m).next
  unfolding ByAnswer send begin
  serve_by_lem =
      serve_cases m fit.tidy (λ (u : Turn). ByAnswer m ids lens u.out u.next) (record { unserved = unserved; goes_on = goes_on; begins = begins })
    where
      unserved : (code : ℕ) → Unserved m code → Refusal code → Refuses m code m
      unserved code (nobody e l) r = record { refusal = λ z. omega arith; stops = choice_none m e (sets.nobody m fit.tidy e ∙ ap is_none l); stays = refl }
      unserved code (late q e l h) r =
          record { refusal = λ z. omega arith; stops = chooses m fit e q l ∙ rw (leb_yes (2 ^ 62) (max m.clock q) h); stays = refl }

      goes_on : (p : ℕ) → GoesOn m p → ByAnswer m ids lens (send false m p).out (send false m p).next
      goes_on p w = serves_on p w

      begins : (r t p : ℕ) → Begins m r t p → p ≡ chosen m t → ByAnswer m ids lens (send true (begin m t) p).out (send true (begin m t) p).next
      begins r t p w e = serves_new r t p w e

  -- what a serve asks
  pub can_serve : length lens ≡ 2048 → CanServe (encode m).shares lens (encode m).largest (engine_of (encode m))
  unfolding ByAnswer
  can_serve h = record { chooses = can_choose m fit; enacts = λ place time e. go (serve m).out serve_by_lem place time e }
    where
      go : (o : Out) → ByAnswer m ids lens o (serve m).next → (place time : ℕ) → choice_of (engine_of (encode m)) ≡ Go place time
          → CanEnact (encode m).shares lens (encode m).largest place time (engine_of (encode m))
      go (refused code) w place time e = absurd (stop_go code place time (sym w.stops ∙ e))
      go done w place time e = elim w [ ]
      go (taken _) w place time e = elim w [ ]
      go (sent s) w place time e =
          let f = sym w.chooses ∙ e in
          rw (← go_place s.place s.clock place time f, ← go_time s.place s.clock place time f) (w.can h)
