-- A burst is that many single serving calls.
use mathlib.Core.Path.{◌≡◌, refl, sym, ap, ap₂, subst, ◌∙◌}
use mathlib.Core.Bool.{Bool, true, false, cond}
use mathlib.Core.List.{List, ◌∷◌, ◌++◌, map}
use Prim.Native.Nat.{ℕ, zero, suc, ◌+◌, ◌-◌, ◌≤◌}
use native.Mathlib.Omega.{arith}
use lib.Dec.{ltb}
use lib.ListN.{length}
use Rattle.base.proofs.Numbers.{true_le, false_lt}
use Rattle.rules.specs.Board.{Record, bytes_charged, Board, at}
use Rattle.rules.specs.Choice.{Out, refused, done, taken, Sending, sent, serve}
use Rattle.rules.specs.Burst.{Burst, stopped, sent_first, no_room, with_room, charge_next, burst}
use Rattle.rules.specs.Calls.{step, Sent, told}
use Rattle.rules.specs.Runs.{play, bytes_of, bytes_in, record_of, records_in}
use Rattle.rules.specs.Promises.{serves, Stopped, by_call, by_list, by_bytes, IsServes}
use Rattle.rules.proofs.Refusals.{ServeOut, serve_codes}

-- it stops before its first record
stopped_is : (b : Board) (bytes room code : ℕ) → Stopped bytes room (stopped b code) → IsServes b bytes room (stopped b code)
unfolding play bytes_in records_in
stopped_is b bytes room code s =
    record { next = refl; total = refl; numbers = refl; each_sends = refl; fits_list = omega arith; fits_bytes = omega arith; stop = s }

-- what a serve that sends is told
abbrev sent_of : Board → Sending → Sent
sent_of b s = let r = s.front in record { block = (at b s.place).number; number = r.number; bytes = r.bytes; clock = s.clock }

-- one record more
first_is : (b : Board) (bytes room : ℕ) (s : Sending) (rest : Burst) → let r = s.front in
    (serve b).out ≡ sent s → bytes_charged r ≤ bytes → IsServes (serve b).next (bytes - bytes_charged r) room rest
    → IsServes b bytes (suc room) (sent_first r rest)
unfolding play bytes_in records_in step bytes_charged
first_is b bytes room s rest e h i =
    record {
      next = i.next;
      total = ap₂ (λ (u v : ℕ). u + v) (sym (ap (λ (o : Out). bytes_of (told b o)) e)) i.total;
      numbers =
          ap (λ (ns : List ℕ). s.front.number ∷ ns) i.numbers
          ∙ ap (λ (rs : List Record). map (λ (x : Record). x.number) (rs ++ records_in (serve b).next (serves rest.count)))
          (sym (ap (λ (o : Out). record_of (told b o)) e));
      each_sends =
          ap (λ (rs : List Record). length (rs ++ records_in (serve b).next (serves rest.count))) (ap (λ (o : Out). record_of (told b o)) e)
          ∙ ap suc i.each_sends;
      fits_list = omega (arith, i.fits_list);
      fits_bytes = omega (arith, i.fits_bytes);
      stop = go i.stop;
    }
  where
    go : Stopped (bytes - bytes_charged s.front) room rest → Stopped bytes (suc room) (sent_first s.front rest)
    go (by_call c) = by_call c
    go (by_list z a n c) = by_list z a (ap suc n) c
    go (by_bytes z a n l c) = by_bytes z a (omega arith) (omega arith) c

pub burst_serves : (b : Board) (bytes room : ℕ) → IsServes b bytes room (burst b bytes room)
unfolding burst step bytes_charged
burst_serves b bytes zero = go (serve b).out refl (serve_codes b)
  where
    go : (o : Out) → (serve b).out ≡ o → ServeOut o → IsServes b bytes 0 (no_room b o)
    go (refused code) e s = stopped_is b bytes 0 code (by_call (ap (told b) e))
    go done e s = absurd s
    go (taken a) e s = absurd s
    go (sent z) e s = stopped_is b bytes 0 14 (by_list (sent_of b z) (ap (told b) e) refl refl)
burst_serves b bytes (suc room) = go (serve b).out refl (serve_codes b) (burst_serves (serve b).next (bytes - charge_next (serve b).out) room)
  where
    rest : Burst
    rest = burst (serve b).next (bytes - charge_next (serve b).out) room

    fits : (s : Sending) → (serve b).out ≡ sent s → IsServes (serve b).next (bytes - charge_next (serve b).out) room rest
        → (u : Bool) → ltb bytes (bytes_charged s.front) ≡ u → IsServes b bytes (suc room) (cond u (stopped b 13) (sent_first s.front rest))
    fits s e i true l = let over = true_le (suc bytes) (bytes_charged s.front) l in
        stopped_is b bytes (suc room) 13 (by_bytes (sent_of b s) (ap (told b) e) (omega arith) (omega (arith, over)) refl)
    fits s e i false l =
        first_is b bytes room s rest e (omega (arith, false_lt (suc bytes) (bytes_charged s.front) l))
        (subst (λ (n : ℕ). IsServes (serve b).next (bytes - n) room rest) (ap charge_next e) i)

    go : (o : Out) → (serve b).out ≡ o → ServeOut o → IsServes (serve b).next (bytes - charge_next (serve b).out) room rest
        → IsServes b bytes (suc room) (with_room b bytes o rest)
    go (refused code) e s i = stopped_is b bytes (suc room) code (by_call (ap (told b) e))
    go done e s i = absurd s
    go (taken a) e s i = absurd s
    go (sent z) e s i = fits z e i (ltb bytes (bytes_charged z.front)) refl
