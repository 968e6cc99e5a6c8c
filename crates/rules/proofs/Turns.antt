-- Every call keeps the invariant, and lowers what may go ahead of a waiting block by what it sends of others.
use mathlib.Core.Path.{◌≡◌, refl, sym, ap, subst, ◌∙◌}
use mathlib.Core.Bool.{Bool, true, false, cond, ◌&&◌, true≢false, false≢true}
use mathlib.Core.Logic.{◌⊎◌, inl, inr, ◌≢◌}
use mathlib.Core.Option.{Option, none, some}
use mathlib.Core.List.{List, [], ◌∷◌, ◌++◌}
use Prim.Native.Nat.{ℕ, suc, ◌+◌, ◌*◌, ◌-◌, ◌/◌, ◌^◌, ◌≤◌, ◌<◌}
use native.Mathlib.Nat.{le_refl}
use native.Mathlib.Omega.{arith}
use native.Mathlib.Decide.{ℕ_discrete}
use lib.Dec.{leb, ltb, eqb}
use lib.ListN.{length, get_or, set, drop}
use lib.Seq.{get_or-set_same, get_or-set_other}
use Rattle.base.proofs.Numbers.{true_le, false_lt, eqb_yes, eqb_no, eqb_true}
use Rattle.units.specs.Classes.{next_start, class_of}
use Rattle.units.proofs.Starts.{next_gt, next_mono}
use Rattle.units.specs.Credit.{credit_of, largest_charge}
use Rattle.rules.specs.Spoilt.{is_queued, is_serving, ready_num, is_at}
use Rattle.rules.specs.Board.{Record, no_record, onward, bytes_charged, Stand, out, queued, serving, Place, free_place, block_class, front, Board, at}
use Rattle.rules.specs.Choice.{upd, left_of, Out, refused, done, taken, Sending, sending, sent, Turn, is_none, emptied, short, going, more, ended, go_on}
use Rattle.rules.specs.Choice.{send_from, send}
use Rattle.rules.specs.Choice.{refuse}
use Rattle.rules.proofs.Line.{Seat}
use Rattle.rules.proofs.Potential.{ahead, ahead_tick, ahead_join}
use Rattle.rules.proofs.Orders.{pl, ready}
use Rattle.rules.proofs.Shape.{names_kept, PlaceOk, StandOk, all_front, InSize, fit_charge}
use Rattle.rules.proofs.Slot.{one_serves, serving_not_queued}
use Rattle.rules.proofs.Good.{seat_of, Fine, fine_same, fine_join, fine_tick}
use Rattle.rules.proofs.Slot

abbrev pub busy : Option ℕ → ℕ
busy none = 0
busy (some p) = 1

pub record Good (b : Board) : Type 0 where
  pub fine : Fine b.largest b.clock (busy b.slot) b.places b.orders b.held
  pub one : (p : ℕ) → is_serving (at b p).stand ≡ is_at p b.slot

abbrev pub in_line : Stand → Bool
in_line out = false
in_line (queued r) = true
in_line (serving n) = true

-- the bytes of others that the open slot may still send
unfoldable pub slot_bytes_left : List Place → Option ℕ → ℕ
slot_bytes_left l none = 0
slot_bytes_left l (some q) = left_of (pl l q).stand / 65536

unfoldable pub most : ℕ → ℕ
most L = 3 * largest_charge L - 1

-- what may still be sent of others before the front record of place p
abbrev pub still : Board → Place → ℕ
still b x = slot_bytes_left b.places b.slot + ahead (most b.largest) b.clock (busy b.slot) (seat_of x)

unfoldable pub phi : Board → ℕ → ℕ
phi b p = cond (is_queued (at b p).stand) (still b (at b p)) 0

pub phi_queued : (b : Board) (p : ℕ) → is_queued (at b p).stand ≡ true → phi b p ≡ still b (at b p)
unfolding phi
phi_queued b p e = rw e

pub phi_other : (b : Board) (p : ℕ) → is_queued (at b p).stand ≡ false → phi b p ≡ 0
unfolding phi
phi_other b p e = rw e

abbrev pub bytes_sent : Out → ℕ
bytes_sent (refused n) = 0
bytes_sent done = 0
bytes_sent (taken a) = 0
bytes_sent (sent s) = bytes_charged s.front

abbrev pub is_sent : Out → Bool
is_sent (refused n) = false
is_sent done = false
is_sent (taken a) = false
is_sent (sent s) = true

abbrev pub from_place : ℕ → Out → Bool
from_place p (refused n) = false
from_place p done = false
from_place p (taken a) = false
from_place p (sent s) = eqb p s.place

-- the bytes of others that can go before a record of class k: the promise's bound, as `most` counts a slot
abbrev pub most_ahead : (L k : ℕ) → ℕ
most_ahead L k = (2 ^ suc k - 1) * most L

-- the next time from which a waiting block may begin a slot: its ready time; for the slot's own block, the next start above the clock
abbrev pub due_time : ℕ → ℕ → Stand → ℕ
due_time c share out = 0
due_time c share (queued r) = r
due_time c share (serving n) = next_start (class_of share) c

abbrev pub due_of : Board → ℕ → ℕ
due_of b p = due_time b.clock (at b p).share (at b p).stand

-- the parts that a block has in hand: its deficit, or what is left of its slot
abbrev pub hand_by : ℕ → Stand → ℕ
hand_by n out = 0
hand_by n (queued r) = n
hand_by n (serving m) = m

abbrev pub hand : Place → ℕ
hand x = hand_by x.deficit x.stand

-- a slot of p begins
abbrev pub begun : Board → Turn → ℕ → Bool
begun b t p = is_none b.slot && from_place p t.out

abbrev pub slot_clock : Out → ℕ
slot_clock (refused n) = 0
slot_clock done = 0
slot_clock (taken a) = 0
slot_clock (sent s) = s.clock

-- the same for every block, one that doesn't wait too: it can begin no slot before this time
abbrev pub bar_by : ℕ → ℕ → Stand → ℕ
bar_by c share out = next_start (class_of share) c
bar_by c share (queued r) = r
bar_by c share (serving n) = next_start (class_of share) c

abbrev pub bar_of : Board → ℕ → ℕ
bar_of b p = bar_by b.clock (at b p).share (at b p).stand

pub record Bars (b : Board) (t : Turn) (p : ℕ) : Type 0 where
  pub rise : bar_of b p ≤ bar_of t.next p
  pub slot : begun b t p ≡ true → (bar_of b p ≤ slot_clock t.out) × (next_start (block_class (at b p)) (slot_clock t.out) ≤ bar_of t.next p)

-- what happens to a block that waits before and after
pub record WaitsOn (b : Board) (t : Turn) (p : ℕ) : Type 0 where
  pub share : (at t.next p).share ≡ (at b p).share
  pub idle : begun b t p ≡ false → due_of t.next p ≡ due_of b p
  pub slot : begun b t p ≡ true
      → (due_of b p ≤ slot_clock t.out) × (slot_clock t.out < due_of b p + 2 ^ block_class (at b p))
      × (due_of t.next p ≡ due_of b p + 2 ^ block_class (at b p))
  pub account : hand (at t.next p) + cond (from_place p t.out) (bytes_sent t.out) 0 * 65536
      ≡ hand (at b p) + cond (begun b t p) (credit_of b.largest (at b p).share) 0

pub record Keeps (b : Board) (t : Turn) : Type 0 where
  pub good : Good t.next
  -- a block that waits and is not sent from goes on waiting, and the bytes sent of others are paid
  pub stays : (p : ℕ) → in_line (at b p).stand ≡ true → from_place p t.out ≡ false
      → (in_line (at t.next p).stand ≡ true) × ((at t.next p).share ≡ (at b p).share) × (phi t.next p + bytes_sent t.out ≤ phi b p)
  -- a record that is sent has at least one byte
  pub some! : is_sent t.out ≡ true → 1 ≤ bytes_sent t.out
  pub goes : (p : ℕ) → in_line (at b p).stand ≡ true → in_line (at t.next p).stand ≡ true → WaitsOn b t p
  pub bars : (p : ℕ) → (at t.next p).share ≡ (at b p).share → Bars b t p
  -- where a record comes to the front
  pub comes : (p : ℕ) → in_line (at t.next p).stand ≡ true → (in_line (at b p).stand ≡ false) ⊎ (from_place p t.out ≡ true)
      → phi t.next p ≤ most_ahead t.next.largest (block_class (at t.next p))

and_false : (b : Bool) → b && false ≡ false
and_false true = refl
and_false false = refl

-- nothing of the block changes
pub goes_same : (b : Board) (t : Turn) (p : ℕ) → from_place p t.out ≡ false → (at t.next p).share ≡ (at b p).share → due_of t.next p ≡ due_of b p
    → hand (at t.next p) ≡ hand (at b p) → WaitsOn b t p
goes_same b t p f e d h =
    record {
      share = e;
      idle = λ _. d;
      slot = λ g. absurd (false≢true (sym never ∙ g));
      account = rw (f, and_false (is_none b.slot), h) (omega arith);
    }
  where
    never : begun b t p ≡ false
    never = rw f (and_false (is_none b.slot))

pub bars_same : (b : Board) (t : Turn) (p : ℕ) → from_place p t.out ≡ false → bar_of b p ≤ bar_of t.next p → Bars b t p
bars_same b t p f h = record { rise = h; slot = λ g. absurd (false≢true (sym never ∙ g)) }
  where
    never : begun b t p ≡ false
    never = rw f (and_false (is_none b.slot))

pub keeps_refuse : (b : Board) (n : ℕ) → Good b → Keeps b (refuse b n)
keeps_refuse b n g =
    record {
      good = g;
      stays = λ p w e. (w, refl, omega arith);
      some! = λ e. absurd (false≢true e);
      goes =
          λ p w v. goes_same b (refuse b n) p refl refl refl refl;
      bars = λ p e. bars_same b (refuse b n) p refl (le_refl (bar_of b p));
      comes = comes;
    }
  where
    comes : (p : ℕ) → in_line (at b p).stand ≡ true → (in_line (at b p).stand ≡ false) ⊎ (false ≡ true) → phi b p ≤ most_ahead b.largest (block_class (at b p))
    comes p w (inl e) = absurd (true≢false (sym w ∙ e))
    comes p w (inr e) = absurd (false≢true e)

-- SEND. The slot is open at p
pub waits_not_serving : (s : Stand) → in_line s ≡ true → is_serving s ≡ false → is_queued s ≡ true
waits_not_serving out w e = w
waits_not_serving (queued r) w e = refl
waits_not_serving (serving n) w e = absurd (true≢false e)

pub queued_waits : (s : Stand) → is_queued s ≡ true → in_line s ≡ true
queued_waits out e = e
queued_waits (queued r) e = refl
queued_waits (serving n) e = refl

serving_waits : (s : Stand) → is_serving s ≡ true → in_line s ≡ true
serving_waits out e = e
serving_waits (queued r) e = refl
serving_waits (serving n) e = refl

-- what a send from p does to the board
pub record Sends (b nb : Board) (p n t given : ℕ) : Type 0 where
  pub good : Good nb
  pub others : (q : ℕ) → q ≢ p → at nb q ≡ at b q
  pub paid : (q : ℕ) → q ≢ p → is_queued (at b q).stand ≡ true → still nb (at b q) + n ≤ still b (at b q)
  pub last : in_line (at nb p).stand ≡ true → phi nb p ≤ most_ahead nb.largest (block_class (at nb p))
  pub kept : (at nb p).share ≡ (at b p).share
  pub past : t ≤ nb.clock
  pub onward : b.clock ≤ nb.clock
  pub again : in_line (at nb p).stand ≡ true → due_of nb p ≡ next_start (block_class (at b p)) t
  pub account : in_line (at nb p).stand ≡ true → hand (at nb p) + n * 65536 ≡ hand (at b p) + given

-- the time t at which p sends is right for it: its slot is open, or it begins one within its interval
pub record Timely (b : Board) (p t : ℕ) : Type 0 where
  pub in_slot : is_none b.slot ≡ false → due_of b p ≡ next_start (block_class (at b p)) t
  pub begins : is_none b.slot ≡ true
      → (due_of b p ≤ t) × (t < due_of b p + 2 ^ block_class (at b p)) × (next_start (block_class (at b p)) t ≡ due_of b p + 2 ^ block_class (at b p))

abbrev pub given_in : Board → ℕ → ℕ
given_in b p = cond (is_none b.slot) (credit_of b.largest (at b p).share) 0

and_true : (b : Bool) → b && true ≡ b
and_true true = refl
and_true false = refl

bar_waits : (c n : ℕ) (s : Stand) → in_line s ≡ true → bar_by c n s ≡ due_time c n s
bar_waits c n out e = absurd (false≢true e)
bar_waits c n (queued r) e = refl
bar_waits c n (serving m) e = refl

bar_mono : (c c' n : ℕ) (s : Stand) → c ≤ c' → bar_by c n s ≤ bar_by c' n s
bar_mono c c' n out h = next_mono (class_of n) c c' h
bar_mono c c' n (queued r) h = le_refl r
bar_mono c c' n (serving m) h = next_mono (class_of n) c c' h

pub due_queued : (c n : ℕ) (s : Stand) → is_queued s ≡ true → due_time c n s ≡ ready_num s
due_queued c n out e = refl
due_queued c n (queued r) e = refl
due_queued c n (serving m) e = absurd (false≢true e)

ne_of : (q p : ℕ) → eqb q p ≡ false → q ≢ p
ne_of q p e f = true≢false (sym (eqb_yes q p f) ∙ e)

pub keeps_sent : (b nb : Board) (z : Sending) → let p = z.place in let n = bytes_charged z.front in
    ((q : ℕ) → is_serving (at b q).stand ≡ true → q ≡ p) → in_line (at b p).stand ≡ true
    → 1 ≤ n → Timely b p z.clock → Sends b nb p n z.clock (given_in b p) → Keeps b (record { out = sent z; next = nb })
keeps_sent b nb z only w long timely s = record { good = s.good; stays = stays; some! = λ _. long; goes = goes; bars = bars; comes = comes }
  where
    turn : Turn
    turn = record { out = sent z; next = nb }

    p : ℕ
    p = z.place

    t : ℕ
    t = z.clock

    is_q : (q : ℕ) → q ≢ p → in_line (at b q).stand ≡ true → is_queued (at b q).stand ≡ true
    is_q q ne v = waits_not_serving (at b q).stand v (idle (is_serving (at b q).stand) refl)
      where
        idle : (t : Bool) → is_serving (at b q).stand ≡ t → is_serving (at b q).stand ≡ false
        idle true f = absurd (ne (only q f))
        idle false f = f

    own : in_line (at nb p).stand ≡ true → WaitsOn b turn p
    own v = record {
      share = s.kept;
      idle = λ e. s.again v ∙ sym (timely.in_slot (sym now ∙ e));
      slot = λ e. let m = timely.begins (sym now ∙ e) in (m.0, m.1, s.again v ∙ m.2);
      account = rw (eqb_yes p p refl, and_true (is_none b.slot)) (s.account v);
    }
      where
        now : begun b turn p ≡ is_none b.slot
        now = rw (eqb_yes p p refl) (and_true (is_none b.slot))

    goes : (q : ℕ) → in_line (at b q).stand ≡ true → in_line (at nb q).stand ≡ true → WaitsOn b turn q
    goes q v v' = go (ℕ_discrete q p)
      where
        go : Dec (q ≡ p) → WaitsOn b turn q
        go (yes e) = rw e (own (rw e at v'))
        go (no e) = goes_same b turn q (eqb_no q p e) (ap (λ (x : Place). x.share) (s.others q e))
            (rw (s.others q e) (due_queued nb.clock (at b q).share (at b q).stand (is_q q e v)
            ∙ sym (due_queued b.clock (at b q).share (at b q).stand (is_q q e v))))
            (ap hand (s.others q e))

    stays : (q : ℕ) → in_line (at b q).stand ≡ true → eqb q p ≡ false
        → (in_line (at nb q).stand ≡ true) × ((at nb q).share ≡ (at b q).share) × (phi nb q + bytes_charged z.front ≤ phi b q)
    stays q v e = (rw same v, ap (λ (x : Place). x.share) same, less)
      where
        ne : q ≢ p
        ne = ne_of q p e

        same : at nb q ≡ at b q
        same = s.others q ne

        less : phi nb q + bytes_charged z.front ≤ phi b q
        less = rw (phi_queued b q (is_q q ne v), phi_queued nb q (rw same (is_q q ne v)), same) (s.paid q ne (is_q q ne v))

    after : next_start (block_class (at b p)) t ≤ bar_of nb p
    after = go (at nb p).stand refl
      where
        go : (x : Stand) → (at nb p).stand ≡ x → next_start (block_class (at b p)) t ≤ bar_of nb p
        go out e = rw (e, s.kept) (next_mono (block_class (at b p)) t nb.clock s.past)
        go (queued r) e = let v = ap in_line e in omega (arith, s.again v, bar_waits nb.clock (at nb p).share (at nb p).stand v)
        go (serving n) e = let v = ap in_line e in omega (arith, s.again v, bar_waits nb.clock (at nb p).share (at nb p).stand v)

    own_bars : Bars b turn p
    own_bars = record { rise = up (is_none b.slot) refl; slot = λ e. (omega (arith, is_due, (timely.begins (sym now ∙ e)).0), after) }
      where
        now : begun b turn p ≡ is_none b.slot
        now = rw (eqb_yes p p refl) (and_true (is_none b.slot))

        is_due : bar_of b p ≡ due_of b p
        is_due = bar_waits b.clock (at b p).share (at b p).stand w

        up : (u : Bool) → is_none b.slot ≡ u → bar_of b p ≤ bar_of nb p
        up true e = let m = timely.begins e in omega (arith, is_due, m.0, after, next_gt (block_class (at b p)) t)
        up false e = omega (arith, is_due, timely.in_slot e, after)

    bars : (q : ℕ) → (at nb q).share ≡ (at b q).share → Bars b turn q
    bars q e = go (ℕ_discrete q p)
      where
        go : Dec (q ≡ p) → Bars b turn q
        go (yes f) = rw f own_bars
        go (no f) = bars_same b turn q (eqb_no q p f) (rw (s.others q f) (bar_mono b.clock nb.clock (at b q).share (at b q).stand s.onward))

    comes : (q : ℕ) → in_line (at nb q).stand ≡ true → (in_line (at b q).stand ≡ false) ⊎ (eqb q p ≡ true)
        → phi nb q ≤ most_ahead nb.largest (block_class (at nb q))
    comes q v c = go (ℕ_discrete q p) c
      where
        go : Dec (q ≡ p) → (in_line (at b q).stand ≡ false) ⊎ (eqb q p ≡ true) → phi nb q ≤ most_ahead nb.largest (block_class (at nb q))
        go (yes e) f = rw e (s.last (rw e at v))
        go (no e) (inl f) = absurd (true≢false (sym (rw (s.others q e) at v) ∙ f))
        go (no e) (inr f) = absurd (e (eqb_true q p f))

abbrev pub lit : ℕ → ℕ → List Place → (ℕ → List ℕ) → Option ℕ → (ℕ → ℕ) → Board
lit L c l o s H = record { largest = L; clock = c; places = l; orders = o; slot = s; held = H }

serving_seat : (x : Place) → is_serving x.stand ≡ true → record { share = x.share; ord = false; ready = 0 } ≡ seat_of x
serving_seat x e = go x.stand e
  where
    go : (s : Stand) → is_serving s ≡ true
        → ◌≡◌ {A = Seat} (record { share = x.share; ord = false; ready = 0 }) (record { share = x.share; ord = is_queued s; ready = ready_num s })
    go out f = refl
    go (queued r) f = absurd (false≢true f)
    go (serving n) f = refl

hand_serving : (x : Place) → is_serving x.stand ≡ true → hand x ≡ left_of x.stand
hand_serving x e = go x.stand e
  where
    go : (s : Stand) → is_serving s ≡ true → hand_by x.deficit s ≡ left_of s
    go out f = absurd (false≢true f)
    go (queued r) f = absurd (false≢true f)
    go (serving n) f = refl

pub due_serving : (c n : ℕ) (s : Stand) → is_serving s ≡ true → due_time c n s ≡ next_start (class_of n) c
due_serving c n out e = absurd (false≢true e)
due_serving c n (queued r) e = absurd (false≢true e)
due_serving c n (serving m) e = refl

module _ (L c : ℕ) (l : List Place) (o : ℕ → List ℕ) (H : ℕ → ℕ) (p : ℕ) (g : Good (lit L c l o (some p) H)) where
  is_s : is_serving (pl l p).stand ≡ true
  is_s = Slot.is_s L c l o H p g.fine.shape g.one

  in_l : p < length l
  in_l = Slot.in_l L c l o H p g.fine.shape g.one

  facts : (1 ≤ length (pl l p).lane) × (1 ≤ (pl l p).share) × (bytes_charged (front (pl l p)) * 65536 ≤ left_of (pl l p).stand)
      × (left_of (pl l p).stand < 3 * largest_charge L * 65536)
  facts = Slot.facts L c l o H p g.fine.shape g.one

  others_set : (x : Place) (q : ℕ) → q ≢ p → pl (set l p x) q ≡ pl l q
  others_set x q e = get_or-set_other l p q x free_place e

  none_serves : (x : Place) → is_serving x.stand ≡ false → (q : ℕ) → is_serving (pl (set l p x) q).stand ≡ false
  none_serves = Slot.none_serves L c l o H p g.fine.shape g.one

  -- the slot goes on
  module _ (more : 2 ≤ length (pl l p).lane)
      (fits : bytes_charged (get_or (drop 1 (pl l p).lane) 0 no_record) * 65536 ≤ left_of (pl l p).stand - bytes_charged (front (pl l p)) * 65536) where
    going_ok : PlaceOk L (going (pl l p))
    going_ok = Slot.going_ok L c l o H p g.fine.shape g.one more fits

    sends_going : Sends (lit L c l o (some p) H) (lit L c (set l p (going (pl l p))) o (some p) H) p (bytes_charged (front (pl l p))) c 0
    unfolding slot_bytes_left
    sends_going = record {
      good =
          record {
            fine = fine_same p (going (pl l p)) in_l (serving_seat (pl l p) is_s)
                (names_kept l p (going (pl l p)) in_l refl refl g.fine.shape.names) going_ok g.fine;
            one = one;
          };
      others = others_set (going (pl l p));
      paid = λ q e i. rw (get_or-set_same l p (going (pl l p)) free_place in_l) (omega (arith, facts.2));
      last = λ w. omega (arith, phi_other (lit L c (set l p (going (pl l p))) o (some p) H) p (rw (get_or-set_same l p (going (pl l p)) free_place in_l)));
      kept = ap (λ (z : Place). z.share) mine;
      past = le_refl c;
      onward = le_refl c;
      again = λ w. rw mine;
      account = λ w. rw mine (omega (arith, facts.2, hand_serving (pl l p) is_s));
    }
      where
        mine : pl (set l p (going (pl l p))) p ≡ going (pl l p)
        mine = get_or-set_same l p (going (pl l p)) free_place in_l

        one : (q : ℕ) → is_serving (pl (set l p (going (pl l p))) q).stand ≡ eqb q p
        one = one_serves l p (going (pl l p)) in_l refl (λ q f. g.one q ∙ eqb_no q p f)

  -- the lane is empty: the slot ends
  emptied_ok : PlaceOk L (emptied (pl l p))
  emptied_ok = Slot.emptied_ok L c l o H p g.fine.shape g.one

  ch_left : bytes_charged (front (pl l p)) ≤ left_of (pl l p).stand / 65536
  ch_left = omega (arith, facts.2)

  sends_emptied : Sends (lit L c l o (some p) H) (ended (lit L c l o (some p) H) p (emptied (pl l p)) o) p (bytes_charged (front (pl l p))) c 0
  unfolding slot_bytes_left ended
  sends_emptied = record {
    good =
        record {
          fine = fine_tick (fine_same p x in_l (serving_seat (pl l p) is_s) (names_kept l p x in_l refl refl g.fine.shape.names) emptied_ok g.fine);
          one = none_serves x refl;
        };
    others = others_set x;
    paid = λ q e i. omega (arith, ch_left, ahead_tick (most L) c (seat_of (pl l q)));
    last = λ w. absurd (gone w);
    kept = ap (λ (z : Place). z.share) (get_or-set_same l p x free_place in_l);
    past = omega arith;
    onward = omega arith;
    again = λ w. absurd (gone w);
    account = λ w. absurd (gone w);
  }
    where
      x : Place
      x = emptied (pl l p)

      gone : in_line (pl (set l p x) p).stand ≡ true → ⊥
      gone w = false≢true (rw (get_or-set_same l p x free_place in_l) at w)

  -- the new front needs more than is left: the slot ends, and the block joins its order again
  module _ (more : 2 ≤ length (pl l p).lane)
      (lacks : left_of (pl l p).stand - bytes_charged (front (pl l p)) * 65536 < bytes_charged (get_or (drop 1 (pl l p).lane) 0 no_record) * 65536) where
    short_ok : PlaceOk L (short c (pl l p))
    short_ok = Slot.short_ok L c l o H p g.fine.shape g.one more lacks

    sends_short : Sends (lit L c l o (some p) H)
        (ended (lit L c l o (some p) H) p (short c (pl l p)) (upd o (block_class (pl l p)) (o (block_class (pl l p)) ++ (p ∷ [])))) p
        (bytes_charged (front (pl l p))) c 0
    unfolding slot_bytes_left ended
    sends_short = record {
      good = record {
        fine =
            fine_tick (fine_join p (onward (pl l p)) (drop 1 (pl l p).lane) x.deficit in_l (omega arith) (serving_not_queued (pl l p).stand is_s)
            facts.1 short_ok g.fine);
        one = none_serves x refl;
      };
      others = others_set x;
      paid = λ q e i. omega (arith, ch_left, ahead_tick (most L) c (seat_of (pl l q)));
      last =
          λ w. rw (phi_queued nb p (rw (get_or-set_same l p x free_place in_l)), get_or-set_same l p x free_place in_l)
          (omega (arith, ahead_tick (most L) c (seat_of x), ahead_join (most L) 0 c 1 (seat_of x) refl (omega arith) (omega arith)));
      kept = ap (λ (z : Place). z.share) (get_or-set_same l p x free_place in_l);
      past = omega arith;
      onward = omega arith;
      again = λ w. rw (get_or-set_same l p x free_place in_l);
      account = λ w. rw (get_or-set_same l p x free_place in_l) (omega (arith, facts.2, hand_serving (pl l p) is_s));
    }
      where
        x : Place
        x = short c (pl l p)

        nb : Board
        nb = ended (lit L c l o (some p) H) p x (upd o (block_class (pl l p)) (o (block_class (pl l p)) ++ (p ∷ [])))

  -- SEND, the three ways
  sends_lit : Sends (lit L c l o (some p) H) (send_from (lit L c l o (some p) H) p) p (bytes_charged (front (pl l p))) c 0
  unfolding send_from
  sends_lit = go (leb (length (pl l p).lane) 1) refl
    where
      nx : ℕ
      nx = bytes_charged (get_or (drop 1 (pl l p).lane) 0 no_record) * 65536

      rest : ℕ
      rest = left_of (pl l p).stand - bytes_charged (front (pl l p)) * 65536

      b : Board
      b = lit L c l o (some p) H

      o' : ℕ → List ℕ
      o' = upd o (block_class (pl l p)) (o (block_class (pl l p)) ++ (p ∷ []))

      two : 2 ≤ length (pl l p).lane → (t : Bool) → ltb rest nx ≡ t
          → Sends b (cond t (ended b p (short c (pl l p)) o') (go_on b p (going (pl l p)))) p (bytes_charged (front (pl l p))) c 0
      two m true e = sends_short m (true_le (suc rest) nx e)
      two m false e = sends_going m (omega (arith, false_lt (suc rest) nx e))

      go : (t : Bool) → leb (length (pl l p).lane) 1 ≡ t
          → Sends b (cond t (ended b p (emptied (pl l p)) o) (cond (ltb rest nx) (ended b p (short c (pl l p)) o') (go_on b p (going (pl l p))))) p
          (bytes_charged (front (pl l p))) c 0
      go true e = sends_emptied
      go false e = two (false_lt (length (pl l p).lane) 1 e) (ltb rest nx) refl

-- a send while the slot is open at p
pub sends : (b : Board) (p : ℕ) → b.slot ≡ some p → Good b → Sends b (send_from b p) p (bytes_charged (front (at b p))) b.clock 0
sends b p e =
    subst (λ (s : Option ℕ). Good (set_slot s) → Sends (set_slot s) (send_from (set_slot s) p) p (bytes_charged (front (at b p))) b.clock 0) (sym e)
    (sends_lit b.largest b.clock b.places b.orders b.held p)
  where
    set_slot : Option ℕ → Board
    set_slot s = lit b.largest b.clock b.places b.orders s b.held

pub lane_some : (L share : ℕ) (lane : List Record) (s : Stand) → in_line s ≡ true → StandOk L share lane s → 1 ≤ length lane
unfolding StandOk
lane_some L share lane out e h = absurd (false≢true e)
lane_some L share lane (queued r) e h = h.0
lane_some L share lane (serving n) e h = h.0

pub front_pos : (b : Board) (p : ℕ) → Good b → in_line (at b p).stand ≡ true → 1 ≤ bytes_charged (front (at b p))
front_pos b p g w =
    (fit_charge b.largest (front (at b p))
    (all_front (InSize b.largest) no_record (at b p).lane
    (lane_some b.largest (at b p).share (at b p).lane (at b p).stand w (g.fine.shape.place_ok p).stand_ok) (g.fine.shape.place_ok p).items)).0

pub keeps_send : (b : Board) (p : ℕ) → b.slot ≡ some p → Good b → Keeps b (send false b p)
unfolding send
keeps_send b p e g =
    keeps_sent b (send_from b p) (sending false b p) only is_w (front_pos b p g is_w) timely
    (subst (λ (n : ℕ). Sends b (send_from b p) p (bytes_charged (front (at b p))) b.clock n) (sym given) (sends b p e g))
  where
    is_s : is_serving (at b p).stand ≡ true
    is_s = g.one p ∙ ap (is_at p) e ∙ eqb_yes p p refl

    given : given_in b p ≡ 0
    given = ap (λ (s : Option ℕ). cond (is_none s) (credit_of b.largest (at b p).share) 0) e

    timely : Timely b p b.clock
    timely = record { in_slot = λ _. due_serving b.clock (at b p).share (at b p).stand is_s; begins = λ f. absurd (false≢true (ap is_none (sym e) ∙ f)) }

    only : (q : ℕ) → is_serving (at b q).stand ≡ true → q ≡ p
    only q f = eqb_true q p (ap (is_at q) (sym e) ∙ sym (g.one q) ∙ f)

    is_w : in_line (at b p).stand ≡ true
    is_w = serving_waits (at b p).stand is_s
