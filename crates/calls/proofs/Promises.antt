-- A serve and a burst on a board that is known to be good: what the code answers is what is promised, and the board after it is known to be good.
use mathlib.Core.Path.{◌≡◌, refl, sym, ap, subst, ◌∙◌}
use mathlib.Core.Bool.{Bool, true, false, cond}
use mathlib.Core.Logic.{◌⊎◌, inl, inr}
use mathlib.Core.List.{List, [], ◌∷◌, ◌++◌}
use Rattle.std.specs.Prelude.{Result, Ok, Err}
use Prim.Native.Nat.{ℕ, zero, suc, ◌+◌, ◌-◌, ◌≤◌, ◌<◌}
use native.Mathlib.Nat.{add-zero, zero-add, sub-zero}
use native.Mathlib.Numerals.{add-one}
use native.Mathlib.Omega.{arith}
use lib.Dec.{ltb}
use lib.ListN.{length, get_or, set, take, drop, length-set, take-append-drop}
use Rattle.base.proofs.Numbers.{split}
use Rattle.rules.specs.Board
use Rattle.rules.specs.Board.{Record, at, bytes_charged}
use Rattle.rules.specs.Choice.{Out, refused, done, taken, sent, serve}
use Rattle.rules.specs.Burst.{Burst, stopped, sent_first, no_room, with_room, charge_next, burst}
use Rattle.board.specs.declared.Board as struct
use Rattle.board.specs.Reading.{encode, view, Holds}
use Rattle.board.proofs.Reading.{Fit, view_encode}
use Rattle.numbers.specs.declared.refusal.Refusal.{Refusal}
use Rattle.numbers.specs.Codes.{refusal_code}
use Rattle.board.specs.Memory.{engine_of, with_engine}
use Rattle.serving.specs.declared.Served as told
use Rattle.serving.specs.Serving.{within_in}
use Rattle.board.specs.Leaving.{Known}
use Rattle.calls.specs.declared.Sent.{Sent}
use Rattle.calls.specs.Contract.{not_served, served_in, good_serve, BurstOutcome, burst_now, burst_by, good_burst}
use Rattle.board.proofs.Fields.{number_is}
use Rattle.serving.proofs.Serves.{ByAnswer, serve_by_lem}
use Rattle.serving.proofs.Within.{fit_serve, Stops, SendsOne}
use Rattle.serving.proofs.Known.{within, known_encode, spells, fit, holds, known_next, sent_in, stops_in, sent_left, stops_left}

module _ (b : struct.Board) (ids lens : List ℕ) (known : Known b ids lens) where
  abbrev m : Board.Board
  m = view b ids lens

  -- ---- A serve is one with room for a record and bytes for any

  -- n is the board that the engine leaves
  module _ (bytes : ℕ) (enough : 65536 ≤ bytes) (n : struct.Board) (n-is : n ≡ with_engine b (engine_of n)) where
    pub serve_stops : (e : Refusal) → within_in (Err e) n ≡ within b lens bytes 1 → (o : Result Sent Refusal) → o ≡ Err e
        → served_in o n ≡ good_serve b ids lens
    unfolding good_serve
    serve_stops e w-is o is =
        rw is (ap (λ (c : struct.Board). not_served c (refusal_code e)) (stops_left b ids lens known n bytes 1 (Err e) n-is s) ∙ why s.why)
      where
        s : Stops m bytes 1 (within_in (Err e) n)
        s = stops_in b ids lens known n bytes 1 e w-is

        why : ((serve m).out ≡ refused (refusal_code e)) ⊎ ((◌≡◌ {A = ℕ} 1 0) ⊎ ((r : Record) × (bytes < bytes_charged r) × (bytes_charged r < 65536)))
            → not_served b (refusal_code e) ≡ good_serve b ids lens
        why (inl q) = rw q
        why (inr (inl z)) = absurd (omega arith)
        why (inr (inr x)) = absurd (omega (arith, x.1, x.2))

    pub serve_goes : (s : told.Served) → within_in (Ok s) n ≡ within b lens bytes 1
        → record {
          code = 0;
          block = get_or n.numbers s.place 0;
          number = get_or ids s.entry 0;
          length = get_or lens s.entry 0;
          clock = s.slot_clock;
          board = n;
        } ≡ good_serve b ids lens
    unfolding good_serve
    serve_goes s w-is =
        rw g.out (λ j. record {
          code = 0;
          block = block j;
          number = g.number_is j;
          length = g.bytes_is j;
          clock = g.clock_is j;
          board = sent_left b ids lens known n bytes 1 (Ok s) n-is g j;
        })
      where
        g : SendsOne m ids lens bytes 1 (within_in (Ok s) n)
        g = sent_in b ids lens known n bytes 1 s w-is

        block : get_or n.numbers s.place 0 ≡ (at m g.sends.place).number
        block =
            ap (λ (c : struct.Board). get_or c.numbers s.place 0)
            (n-is ∙ ap (λ (c : struct.Board). with_engine c (engine_of n)) (sym (spells b ids lens known)))
            ∙ number_is m s.place
            ∙ ap (λ (p : ℕ). (at m p).number) g.place_is

  -- AFTER A SERVE the board is not spoilt, and reads as the rules' next board
  pub serve_known : Known (good_serve b ids lens).board ids lens × (view (good_serve b ids lens).board ids lens ≡ (serve m).next)
  unfolding good_serve ByAnswer
  serve_known = go (serve m).out refl (serve_by_lem m (fit b ids lens known) ids lens (holds b ids lens known))
    where
      go : (o : Out) → (serve m).out ≡ o → ByAnswer m ids lens o (serve m).next
          → Known (good_serve b ids lens).board ids lens × (view (good_serve b ids lens).board ids lens ≡ (serve m).next)
      go (refused code) e w = rw e (known, sym w.stays)
      go done e w = elim w [ ]
      go (taken _) e w = elim w [ ]
      go (sent s) e w = rw e (known_next b ids lens known w.holds, view_encode (serve m).next ids lens (fit_serve m (fit b ids lens known)) w.holds)

-- ---- A burst under way: count records are sent, and total bytes; the rest is a burst of the rules
abbrev then : ℕ → ℕ → List ℕ → Burst → BurstOutcome
then count total list r =
    burst_now (record { count = count + r.count; bytes = record { 0 = total + r.total }; code = r.code; board = encode r.next })
    (take count list ++ (r.numbers ++ drop (length r.numbers) (drop count list)))

unfoldable pub burst_from : struct.Board → List ℕ → List ℕ → ℕ → ℕ → ℕ → List ℕ → BurstOutcome
burst_from b ids lens bytes count total list = then count total list (burst (view b ids lens) (bytes - total) (length list - count))

pub burst_start : (b : struct.Board) (ids lens : List ℕ) (bytes : ℕ) (list : List ℕ) → good_burst b ids lens bytes list ≡ burst_from b ids lens bytes 0 0 list
unfolding good_burst burst_from
burst_start b ids lens bytes list = rw (sub-zero bytes, sub-zero (length list)) (first (burst (view b ids lens) bytes (length list)))
  where
    first : (r : Burst) → burst_by r list
        ≡ burst_now (record { count = 0 + r.count; bytes = record { 0 = 0 + r.total }; code = r.code; board = encode r.next })
        (take 0 list ++ (r.numbers ++ drop (length r.numbers) (drop 0 list)))
    first r =
        λ j. burst_now (record
        { count = sym (zero-add r.count) j; bytes = record { 0 = sym (zero-add r.total) j }; code = r.code; board = encode r.next })
        (r.numbers ++ drop (length r.numbers) list)

-- one entry of the list more
list_on : (list : List ℕ) (count v : ℕ) (ns : List ℕ) → count < length list
    → take count list ++ ((v ∷ ns) ++ drop (suc (length ns)) (drop count list))
    ≡ take (suc count) (set list count v) ++ (ns ++ drop (length ns) (drop (suc count) (set list count v)))
list_on [] count v ns h = absurd (omega arith)
list_on (x ∷ xs) zero v ns h = refl
list_on (x ∷ xs) (suc count) v ns h = ap (λ (r : List ℕ). x ∷ r) (list_on xs count v ns (omega arith))

-- one record more: r is sent, next is the rules' board after it and v what is written
sent_first_lem : (bytes count total : ℕ) (list : List ℕ) (r : Record) → count < length list → (next m : Board.Board) (x v : ℕ) → m ≡ next → x ≡ bytes_charged r
    → v ≡ r.number
    → then count total list (sent_first r (burst next (bytes - total - bytes_charged r) (length list - count - 1)))
    ≡ then (count + 1) (total + x) (set list count v) (burst m (bytes - (total + x)) (length (set list count v) - (count + 1)))
sent_first_lem bytes count total list r h next m x v m-is x-is v-is =
    rw (m-is, x-is, v-is, length-set list count r.number, left, room, add-one count)
    (more (burst next (bytes - total - bytes_charged r) (length list - count - 1)))
  where
    left : bytes - (total + bytes_charged r) ≡ bytes - total - bytes_charged r
    left = omega arith

    room : length list - (count + 1) ≡ length list - count - 1
    room = omega arith

    more : (rest : Burst) → then count total list (sent_first r rest) ≡ then (suc count) (total + bytes_charged r) (set list count r.number) rest
    more rest =
        λ j. burst_now (record { count = counts j; bytes = record { 0 = totals j }; code = rest.code; board = encode rest.next })
        (list_on list count r.number rest.numbers h j)
      where
        counts : count + suc rest.count ≡ suc count + rest.count
        counts = omega arith

        totals : total + (bytes_charged r + rest.total) ≡ total + bytes_charged r + rest.total
        totals = omega arith

-- n is the board that the engine leaves
module _ (b : struct.Board) (ids lens : List ℕ) (known : Known b ids lens) (bytes count total : ℕ) (list : List ℕ) (n : struct.Board)
    (n-is : n ≡ with_engine b (engine_of n)) where
  abbrev mb : Board.Board
  mb = view b ids lens

  -- it stops
  pub burst_stop : (e : Refusal) → within_in (Err e) n ≡ within b lens (bytes - total) (length list - count)
      → burst_now (record { count = count; bytes = record { 0 = total }; code = refusal_code e; board = n }) list
      ≡ burst_from b ids lens bytes count total list
  unfolding burst_from
  burst_stop e w-is =
      rw s.burst_is (λ j. burst_now
      (record { count = sym (add-zero count) j; bytes = record { 0 = sym (add-zero total) j }; code = refusal_code e; board = board j })
      (sym (take-append-drop count list) j))
    where
      s : Stops mb (bytes - total) (length list - count) (within_in (Err e) n)
      s = stops_in b ids lens known n (bytes - total) (length list - count) e w-is

      board : n ≡ encode mb
      board = stops_left b ids lens known n (bytes - total) (length list - count) (Err e) n-is s ∙ sym (spells b ids lens known)

  -- it goes on
  module _ (s : told.Served) (w-is : within_in (Ok s) n ≡ within b lens (bytes - total) (length list - count)) where
    goes : SendsOne mb ids lens (bytes - total) (length list - count) (within_in (Ok s) n)
    goes = sent_in b ids lens known n (bytes - total) (length list - count) s w-is

    next_is : n ≡ encode (serve mb).next
    next_is = sent_left b ids lens known n (bytes - total) (length list - count) (Ok s) n-is goes

    pub on_inside : s.entry < 2048
    on_inside = goes.entry

    pub on_room : count < length list
    on_room = go (split (length list) count)
      where
        go : (length list ≤ count) ⊎ (count < length list) → count < length list
        go (inl h) = absurd (goes.some (omega arith))
        go (inr h) = h

    pub on_fits : s.bytes.0 ≤ bytes - total
    on_fits = rw goes.charge_is goes.fits

    pub on_known : Known n ids lens
    on_known = subst (λ (c : struct.Board). Known c ids lens) (sym next_is) (known_next b ids lens known goes.holds)

    view_is : view n ids lens ≡ (serve mb).next
    view_is = ap (λ (c : struct.Board). view c ids lens) next_is ∙ view_encode (serve mb).next ids lens (fit_serve mb (fit b ids lens known)) goes.holds

    pub burst_on : burst_from b ids lens bytes count total list
        ≡ burst_from n ids lens bytes (count + 1) (total + s.bytes.0) (set list count (get_or ids s.entry 0))
    unfolding burst_from
    burst_on =
        ap (then count total list) goes.burst_is
        ∙ sent_first_lem bytes count total list goes.sends.front on_room (serve mb).next (view n ids lens) s.bytes.0
        (get_or ids s.entry 0) view_is goes.charge_is goes.number_is

-- so many serves leave a board whose lanes the tables hold
burst_kept : (room bytes : ℕ) (m : Board.Board) (ids lens : List ℕ) → Fit m → Holds m ids lens
    → Fit (burst m bytes room).next × Holds (burst m bytes room).next ids lens
unfolding burst ByAnswer
burst_kept zero bytes m ids lens f h = go (serve m).out
  where
    go : (o : Out) → Fit (no_room m o).next × Holds (no_room m o).next ids lens
    go (refused code) = (f, h)
    go done = (f, h)
    go (taken a) = (f, h)
    go (sent s) = (f, h)
burst_kept (suc room) bytes m ids lens f h =
    go (serve m).out (serve_by_lem m f ids lens h) (λ x. burst_kept room (bytes - charge_next (serve m).out) (serve m).next ids lens (fit_serve m f) x)
  where
    rest : Burst
    rest = burst (serve m).next (bytes - charge_next (serve m).out) room

    either : (t : Bool) (r : Record) → Fit rest.next × Holds rest.next ids lens
        → Fit (cond t (stopped m 13) (sent_first r rest)).next × Holds (cond t (stopped m 13) (sent_first r rest)).next ids lens
    either true r k = (f, h)
    either false r k = k

    go : (o : Out) → ByAnswer m ids lens o (serve m).next → (Holds (serve m).next ids lens → Fit rest.next × Holds rest.next ids lens)
        → Fit (with_room m bytes o rest).next × Holds (with_room m bytes o rest).next ids lens
    go (refused code) w k = (f, h)
    go done w k = elim w [ ]
    go (taken _) w k = elim w [ ]
    go (sent s) w k = either (ltb bytes (bytes_charged s.front)) s.front (k w.holds)

-- AFTER A BURST the board is not spoilt, and reads as the rules' next board
pub burst_known : (b : struct.Board) (ids lens : List ℕ) (bytes : ℕ) (list : List ℕ) → Known b ids lens
    → Known (good_burst b ids lens bytes list).answer.board ids lens
    × (view (good_burst b ids lens bytes list).answer.board ids lens ≡ (burst (view b ids lens) bytes (length list)).next)
unfolding good_burst
burst_known b ids lens bytes list k = (known_encode r ids lens w.0 w.1 k.ids_all k.lens_all, view_encode r ids lens w.0 w.1)
  where
    r : Board.Board
    r = (burst (view b ids lens) bytes (length list)).next

    w : Fit r × Holds r ids lens
    w = burst_kept (length list) bytes (view b ids lens) ids lens (fit b ids lens k) (holds b ids lens k)
