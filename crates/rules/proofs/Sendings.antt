-- What a send tells is what it did.
use mathlib.Core.Path.{◌≡◌, refl, sym, ap, subst, ◌∙◌}
use mathlib.Core.Bool.{Bool, true, false, cond, false≢true}
use mathlib.Core.Option.{none}
use mathlib.Core.List.{List, [], ◌∷◌, ◌++◌}
use Prim.Native.Nat.{ℕ, ◌+◌, ◌*◌, ◌-◌, ◌≤◌}
use native.Mathlib.Omega.{arith}
use lib.Dec.{leb, ltb}
use lib.ListN.{length, get_or, set, drop}
use lib.Seq.{get_or-set_same}
use Rattle.rules.specs.Board.{no_record, bytes_charged, Stand, out, queued, serving, Place, free_place, Board, at, first_entry, entry, front}
use Rattle.rules.specs.Board.{block_class}
use Rattle.rules.specs.Choice.{Sending, sending, Out, refused, done, taken, sent, upd, is_none, left_of, left_after, lost_at}
use Rattle.rules.specs.Choice.{emptied, short, going, started, ended, go_on, send_from, send, begin, chosen, serve}
use Rattle.rules.specs.Spoilt.{is_queued, is_serving}
use Rattle.rules.specs.Promises.{in_hand, SendTells}
use Rattle.rules.proofs.Shape.{queued_in}
use Rattle.rules.proofs.Slot.{serving_ok, serving_in, serving_not_queued}
use Rattle.rules.proofs.Tidy.{Tidy, tidy_begin}
use Rattle.rules.proofs.Cases.{GoesOn, Begins, least_of, serve_cases}

no_left : (s : Stand) → is_queued s ≡ true → left_of s ≡ 0
no_left out e = refl
no_left (queued r) e = refl
no_left (serving n) e = absurd (false≢true e)

-- an entry hangs on the ring's start alone
entry_by : (p : ℕ) (x y : Place) → x.start ≡ y.start → entry p x 0 ≡ entry p y 0
unfolding entry first_entry
entry_by p x y e = rw e

-- what a send leaves at its place, y after x: the front's charge is paid, and what is left is lost only as the lane empties
record Left (x y : Place) (lost : ℕ) : Type 0 where
  none : 1 ≤ length y.lane → lost ≡ 0
  parts : in_hand y + lost + bytes_charged (front x) * 65536 ≡ left_of x.stand

leaves : (b : Board) (p : ℕ) → Tidy b → is_serving (at b p).stand ≡ true → Left (at b p) (at (send_from b p) p) (lost_at (at b p))
unfolding send_from ended
leaves b p g is_s = go (leb (length (at b p).lane) 1) (ltb (left_after (at b p)) need)
  where
    x : Place
    x = at b p

    need : ℕ
    need = bytes_charged (get_or (drop 1 (at b p).lane) 0 no_record) * 65536

    paid : bytes_charged (front (at b p)) * 65536 ≤ left_of (at b p).stand
    paid = (serving_ok b.largest x.share x.lane x.stand is_s (g.shape.place_ok p).stand_ok).2

    here : (y : Place) → get_or (set b.places p y) p free_place ≡ y
    here y = get_or-set_same b.places p y free_place (serving_in b.places p is_s)

    o' : ℕ → List ℕ
    o' = upd b.orders (block_class (at b p)) (b.orders (block_class (at b p)) ++ (p ∷ []))

    after : Bool → Bool → Board
    after last lacks =
        cond last (ended b p (emptied (at b p)) b.orders)
        (cond lacks (ended b p (short b.clock (at b p)) o') (go_on b p (going (at b p))))

    go : (last lacks : Bool) → Left (at b p) (at (after last lacks) p) (cond last (left_after (at b p)) 0)
    go true lacks = rw (here (emptied (at b p))) (record { none = λ e. absurd (omega arith); parts = omega (arith, paid) })
    go false true = rw (here (short b.clock (at b p))) (record { none = λ _. refl; parts = omega (arith, paid) })
    go false false = rw (here (going (at b p))) (record { none = λ _. refl; parts = omega (arith, paid) })

-- the slot is open
tells_on : (b : Board) (p : ℕ) → Tidy b → GoesOn b p → SendTells b (send_from b p) (sending false b p)
tells_on b p g c =
    let l = leaves b p g c.serves in
    let idle = (g.shape.place_ok p).clear (serving_not_queued (at b p).stand c.serves) in
    record { front = refl; entry = refl; began = sym (ap is_none c.slot); lost = l.none; parts = omega (arith, l.parts, idle) }

-- it begins
tells_new : (b : Board) (r t p : ℕ) → Tidy b → Begins b r t p → p ≡ chosen b t → SendTells b (send_from (begin b t) p) (sending true (begin b t) p)
unfolding begin
tells_new b r t p g c e = record {
  front = ap front now;
  entry = ap (λ (x : Place). entry p x 0) now ∙ entry_by p (started b.largest (at b p)) (at b p) refl;
  began = sym (ap is_none c.slot);
  lost = l.none;
  parts = omega (arith, l.parts, ap (λ (x : Place). left_of x.stand) now, no_left (at b p).stand c.choice.is_q);
}
  where
    now : at (begin b t) p ≡ started b.largest (at b p)
    now =
        ap (λ (q : ℕ). get_or (set b.places q (started b.largest (at b q))) p free_place) (sym e)
        ∙ get_or-set_same b.places p (started b.largest (at b p)) free_place (queued_in b.places p c.choice.is_q)

    begun : Tidy (begin b t)
    begun = rw c.time (tidy_begin b r c.slot (least_of b r c.least) (rw (← c.time) c.soon) g)

    l : Left (at (begin b t) p) (at (send_from (begin b t) p) p) (lost_at (at (begin b t) p))
    l = leaves (begin b t) p begun (ap (λ (x : Place). is_serving x.stand) now)

-- by what comes of a serve
abbrev TellsBy : Board → Board → Out → Type 0
TellsBy b next (refused code) = Unit {0}
TellsBy b next done = Unit {0}
TellsBy b next (taken a) = Unit {0}
TellsBy b next (sent s) = SendTells b next s

tells_by : (b : Board) → Tidy b → TellsBy b (serve b).next (serve b).out
unfolding send
tells_by b g = serve_cases b g (λ u. TellsBy b u.next u.out) (record {
  unserved = λ code u r. tt;
  goes_on = λ p c. tells_on b p g c;
  begins = λ r t p c e. tells_new b r t p g c e;
})

pub sends_tell : (b : Board) → Tidy b → (s : Sending) → (serve b).out ≡ sent s → SendTells b (serve b).next s
sends_tell b g s e = subst (TellsBy b (serve b).next) e (tells_by b g)
