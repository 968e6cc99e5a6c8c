-- A serve keeps the invariant.
use mathlib.Core.Path.{◌≡◌, refl, sym, ap, ap₂, subst, fun_ext, ◌∙◌}
use mathlib.Core.Bool.{true, false, cond, true≢false, false≢true}
use mathlib.Core.Logic.{◌⊎◌, inl, inr, ◌≢◌}
use mathlib.Core.Option.{Option, none, some}
use mathlib.Core.List.{List}
use Prim.Native.Nat.{ℕ, ◌+◌, ◌-◌, ◌^◌, ◌≤◌, ◌<◌, max}
use native.Mathlib.Omega.{arith}
use lib.Dec.{eqb}
use lib.ListN.{length, get_or, set}
use lib.Seq.{get_or-set_same, get_or-set_other}
use Rattle.base.proofs.Numbers.{split, leb_no, eqb_yes}
use Rattle.base.specs.Tests.{least}
use Rattle.units.specs.Classes.{next_start, class_of}
use Rattle.units.proofs.Starts.{next_gt, next_is, next_start_lem, start_add, start_gap}
use Rattle.units.specs.Credit.{credit_of}
use Rattle.rules.specs.Spoilt.{is_queued, is_serving, is_at}
use Rattle.rules.specs.Board.{bytes_charged, Stand, out, queued, serving, Place, free_place, block_class, front, Board, at}
use Rattle.rules.specs.Choice.{is_none, release, started, sending, send_from, send, begin, lowest, serve}
use Rattle.rules.proofs.Line.{free, SeatOk}
use Rattle.rules.proofs.Potential.{ahead, ahead_begin, ahead_jump}
use Rattle.rules.proofs.Orders.{pl, ready}
use Rattle.rules.proofs.Shape.{Chosen, choose, LeastIs, queued_in}
use Rattle.rules.proofs.Good.{seat_of, Fine, fine_begin, fine_jump, seat_ok}
use Rattle.rules.proofs.Slot.{one_serves, serving_ok}
use Rattle.rules.proofs.Cases.{least_of, serve_turns}
use Rattle.rules.proofs.Turns.{Good, busy, slot_bytes_left, most, still, Keeps, keeps_refuse, Sends, sends, keeps_sent, keeps_send, queued_waits, Timely}
use Rattle.rules.proofs.Turns.{due_of}
use Rattle.rules.proofs.Turns.{hand, hand_by, due_queued, given_in, front_pos}

release_now : (c : ℕ) (H : ℕ → ℕ) → release c c H ≡ H
unfolding release
release_now c H = fun_ext (λ j. rw (leb_no (next_start j c) c (next_gt j c)))

-- the clock goes to the least ready time, unless it is past it
fine_to : {L c : ℕ} {l : List Place} {o : ℕ → List ℕ} {H : ℕ → ℕ} (r : ℕ) → LeastIs l (some r) → Fine L c 0 l o H
    → Fine L (max c r) 0 l o (release c (max c r) H)
unfolding LeastIs
fine_to {L} {c} {l} {o} {H} r least f = go (split r c)
  where
    go : (r ≤ c) ⊎ (c < r) → Fine L (max c r) 0 l o (release c (max c r) H)
    go (inl h) = let e : max c r ≡ c = omega arith in rw (e, release_now c H) f
    go (inr h) = fine_jump (max c r) (omega arith) (λ i q. omega (arith, least.0 i q)) f

still_free : (b : Board) (x : Place) → b.slot ≡ none → ahead (most b.largest) b.clock 0 (seat_of x) ≤ still b x
still_free b x e =
    subst (λ (s : Option ℕ). ahead (most b.largest) b.clock 0 (seat_of x) ≤ slot_bytes_left b.places s + ahead (most b.largest) b.clock (busy s)
    (seat_of x)) (sym e) (omega arith)

hand_queued : (x : Place) → is_queued x.stand ≡ true → hand x ≡ x.deficit
hand_queued x e = go x.stand e
  where
    go : (s : Stand) → is_queued s ≡ true → hand_by x.deficit s ≡ x.deficit
    go out f = absurd (false≢true f)
    go (queued r) f = refl
    go (serving n) f = absurd (false≢true f)

module _ (b : Board) (r : ℕ) (free : b.slot ≡ none) (least : LeastIs b.places (some r)) (g : Good b) where
  t : ℕ
  t = max b.clock r

  k : ℕ
  k = lowest b (max b.clock r)

  p : ℕ
  p = get_or (b.orders (lowest b (max b.clock r))) 0 0

  fine0 : Fine b.largest t 0 b.places b.orders (release b.clock t b.held)
  unfolding t
  fine0 = fine_to r least (rw free at g.fine)

  chosen : Chosen b.places b.orders t k p
  unfolding t k p lowest
  chosen = choose b.places b.orders t r g.fine.shape.listed g.fine.shape.rising least (omega arith)

  good1 : Good (begin b t)
  unfolding t k p begin
  good1 = record { fine = fine_begin k p chosen fine0; one = one }
    where
      h : p < length b.places
      h = queued_in b.places p chosen.is_q

      one : (q : ℕ) → is_serving (pl (set b.places p (started b.largest (at b p))) q).stand ≡ eqb q p
      one = one_serves b.places p (started b.largest (at b p)) h refl (λ q e. g.one q ∙ ap (is_at q) free)

  same1 : (q : ℕ) → q ≢ p → at (begin b t) q ≡ at b q
  unfolding t k p begin
  same1 q e = get_or-set_other b.places p q (started b.largest (at b p)) free_place e

  slot1 : (begin b t).slot ≡ some p
  unfolding t k p begin
  slot1 = refl

  clock1 : (begin b t).clock ≡ t
  unfolding begin
  clock1 = refl

  -- what is left of the new slot is at most 3 L - 1 bytes
  left1 : slot_bytes_left (begin b t).places (some p) ≤ most b.largest
  unfolding t k p begin slot_bytes_left most
  left1 =
      omega (
        arith,
        (serving_ok b.largest (at (begin b t) p).share (at (begin b t) p).lane (at (begin b t) p).stand (good1.one p ∙ eqb_yes p p refl)
            (good1.fine.shape.place_ok p).stand_ok).3,
      )

  paid1 : (q : ℕ) → q ≢ p → is_queued (at b q).stand ≡ true → still (begin b t) (at b q) ≤ still b (at b q)
  unfolding t k p begin
  paid1 q e i =
      omega (
        arith,
        still_free b (at b q) free,
        ahead_begin (most b.largest) (slot_bytes_left (begin b t).places (some p)) t (seat_of (at b q)) ok left1,
        ahead_jump (most b.largest) b.clock t 0 (seat_of (at b q)) (omega arith),
      )
    where
      ok : SeatOk t 1 (seat_of (at b q))
      ok = rw (same1 q e) at (seat_ok (begin b t).places (begin b t).held t 1 good1.fine.in_time q (rw (same1 q e) i))

  -- the chosen block, as its slot begins: its ready time is in the interval that t is in
  seat0 : SeatOk t 0 (seat_of (at b p))
  seat0 = seat_ok b.places (release b.clock t b.held) t 0 fine0.in_time p chosen.is_q

  timely : Timely b p t
  timely = record { in_slot = λ e. absurd (true≢false (sym (ap is_none free) ∙ e)); begins = λ _. rw due (chosen.is_due, omega (arith, seat0.fresh), sym is) }
    where
      due : due_of b p ≡ ready b.places p
      due = due_queued b.clock (at b p).share (at b p).stand chosen.is_q

      is : ready b.places p + 2 ^ block_class (at b p) ≡ next_start (block_class (at b p)) t
      is =
          next_is (block_class (at b p)) t (ready b.places p + 2 ^ block_class (at b p)) (start_add (block_class (at b p)) (ready b.places p) seat0.start)
          (omega (arith, seat0.fresh))
          (start_gap (block_class (at b p)) (ready b.places p) (next_start (block_class (at b p)) t) seat0.start (next_start_lem (block_class (at b p)) t)
          (omega (arith, chosen.is_due, next_gt (block_class (at b p)) t)))

  started1 : at (begin b t) p ≡ started b.largest (at b p)
  unfolding t k p begin
  started1 = get_or-set_same b.places p (started b.largest (at b p)) free_place (queued_in b.places p chosen.is_q)

  sends1 : Sends b (send_from (begin b t) p) p (bytes_charged (front (at (begin b t) p))) t (given_in b p)
  unfolding t
  sends1 = record {
    good = s.good;
    others = λ q e. s.others q e ∙ same1 q e;
    paid = λ q e i. omega (arith, paid1 q e i, rw (same1 q e) at (s.paid q e (rw (same1 q e) i)));
    last = s.last;
    past = omega (arith, s.past, clock1);
    onward = omega (arith, s.past, clock1, later);
    kept = s.kept ∙ ap (λ (x : Place). x.share) started1;
    again = λ w. s.again w ∙ ap₂ (λ (n c : ℕ). next_start (class_of n) c) (ap (λ (x : Place). x.share) started1) clock1;
    account = λ w. omega (arith, s.account w, ap hand started1, hand_queued (at b p) chosen.is_q, given);
  }
    where
      s : Sends (begin b t) (send_from (begin b t) p) p (bytes_charged (front (at (begin b t) p))) (begin b t).clock 0
      s = sends (begin b t) p slot1 good1

      later : b.clock ≤ t
      later = omega arith

      given : given_in b p ≡ credit_of b.largest (at b p).share
      given = ap (λ (z : Option ℕ). cond (is_none z) (credit_of b.largest (at b p).share) 0) free

  keeps_begin : Keeps b (send true (begin b t) p)
  unfolding send begin
  keeps_begin =
      keeps_sent b (send_from (begin b t) p) (sending true (begin b t) p) only (queued_waits (at b p).stand chosen.is_q)
      (front_pos (begin b t) p good1 (rw started1)) timely sends1
    where
      only : (q : ℕ) → is_serving (at b q).stand ≡ true → q ≡ p
      only q e = absurd (true≢false (sym e ∙ g.one q ∙ ap (is_at q) free))

-- SERVE
pub keeps_serve : (b : Board) → Good b → Keeps b (serve b)
unfolding t p
keeps_serve b g = serve_turns b (Keeps b)
    (λ code u. keeps_refuse b code g)
    (λ q e. keeps_send b q e g)
    (λ r m. keeps_begin b r m.slot (least_of b r m.least) g)
