-- The seventeen held sums are the shares of the closings whose release has not come.
use mathlib.Core.Path.{◌≡◌, refl, sym, ap, subst, ◌∙◌}
use mathlib.Core.Bool.{Bool, true, false, cond, not, ◌&&◌, true≢false, false≢true}
use mathlib.Core.Logic.{◌⊎◌, inl, inr, ◌≢◌}
use mathlib.Core.Option.{Option, none, some}
use mathlib.Core.List.{List, [], ◌∷◌, ◌++◌, append-nil}
use Prim.Native.Nat.{ℕ, suc, ◌+◌, ◌*◌, ◌-◌, ◌≤◌, ◌<◌}
use native.Mathlib.Omega.{arith}
use native.Mathlib.Nat.{le_refl}
use native.Mathlib.Decide.{ℕ_discrete}
use lib.Dec.{leb, ltb, eqb}
use lib.ListN.{length, get_or, set, drop}
use Rattle.base.specs.Sums.{sum}
use Rattle.base.proofs.Numbers.{split, leb_yes, leb_no, eqb_yes, eqb_no}
use Rattle.units.specs.Classes.{next_start}
use Rattle.units.proofs.Starts.{next_gt, next_stay}
use Rattle.rules.specs.Board.{Record, no_record, bytes_charged, Place, Board, at, block_class, some_wait, fresh}
use Rattle.rules.specs.Choice.{refused, done, Turn, is_none, least_ready, release, settle, go_on, joins, more, joining, taken_in, emptied, short, going}
use Rattle.rules.specs.Choice.{left_after, ended, send_from, send, begin, chosen, upd, took_at}
use Rattle.rules.specs.Blocks.{quiet, closed}
use Rattle.rules.specs.Calls.{Single, open!, rename!, close!, record!, serve!, step, gives, told}
use Rattle.rules.specs.Runs.{play, answer, Hold, closing, still_held, holds, held_of}
use Rattle.rules.proofs.Orders.{upd_same, upd_other}
use Rattle.rules.proofs.Tidy.{tidy_begin, Tidy, tidy_send}
use Rattle.rules.proofs.TidyCalls.{tidy_step}
use Rattle.rules.proofs.Waiting.{some_quiet}
use Rattle.rules.proofs.Cases.{Refusal, refusal_not0, CanClose, CanTake, Begins, call_cases}
use Rattle.rules.proofs.Names.{has_share}
use Rattle.rules.proofs.Shape.{LeastIs, least_is}
use Rattle.rules.proofs.SlotBytes.{begin_slot}

-- ---- release, in one move or in two

release_none : (c : ℕ) (H : ℕ → ℕ) (k : ℕ) → release c c H k ≡ H k
unfolding release
release_none c H k = rw (leb_no (next_start k c) c (next_gt k c))

release_twice : (c d e : ℕ) (H : ℕ → ℕ) (k : ℕ) → c ≤ d → d ≤ e → release d e (release c d H) k ≡ release c e H k
unfolding release
release_twice c d e H k a b = go (split (next_start k c) d)
  where
    zero! : (t : Bool) → ◌≡◌ {A = ℕ} (cond t 0 0) 0
    zero! true = refl
    zero! false = refl

    go : (next_start k c ≤ d) ⊎ (d < next_start k c)
        → cond (leb (next_start k d) e) 0 (cond (leb (next_start k c) d) 0 (H k)) ≡ cond (leb (next_start k c) e) 0 (H k)
    go (inl h) = rw (leb_yes (next_start k c) d h, leb_yes (next_start k c) e (omega arith)) (zero! (leb (next_start k d) e))
    go (inr h) = rw (leb_no (next_start k c) d h, next_stay k c d a h)

-- ---- what a list of holds keeps of class k at clock d

unfoldable pub live : ℕ → ℕ → Hold → ℕ
live d k h = cond (ltb d h.until) (held_of k h) 0

-- for every clock from c on, what release leaves of H is what the holds keep
abbrev pub HeldByHolds : ℕ → (ℕ → ℕ) → List Hold → Type 0
HeldByHolds c H hs = (d : ℕ) → c ≤ d → (k : ℕ) → release c d H k ≡ sum (live d k) hs

agrees_now : (c : ℕ) (H : ℕ → ℕ) (hs : List Hold) → HeldByHolds c H hs → (k : ℕ) → H k ≡ sum (live c k) hs
agrees_now c H hs a k = sym (release_none c H k) ∙ a c (le_refl c) k

-- the clock moves on
agrees_move : (c d : ℕ) (H : ℕ → ℕ) (hs : List Hold) → c ≤ d → HeldByHolds c H hs → HeldByHolds d (release c d H) hs
agrees_move c d H hs h a e l k = release_twice c d e H k h l ∙ a e (omega arith) k

agrees_none : (c : ℕ) (H : ℕ → ℕ) → ((k : ℕ) → H k ≡ 0) → HeldByHolds c H []
unfolding release sum
agrees_none c H z d h k = go (leb (next_start k c) d)
  where
    go : (t : Bool) → cond t 0 (H k) ≡ 0
    go true = refl
    go false = z k

sum_snoc : (f : Hold → ℕ) (hs : List Hold) (h : Hold) → sum f (hs ++ (h ∷ [])) ≡ sum f hs + f h
unfolding sum
sum_snoc f [] h = omega arith
sum_snoc f (x ∷ xs) h = omega (arith, sum_snoc f xs h)

-- a closing adds its hold
module _ (c s j : ℕ) where
  abbrev new_hold : Hold
  new_hold = record { share = s; class = j; until = next_start j c }

  agrees_close : (H : ℕ → ℕ) (hs : List Hold) → HeldByHolds c H hs → HeldByHolds c (upd H j (H j + s)) (hs ++ (new_hold ∷ []))
  unfolding release live
  agrees_close H hs a d h k = go (ℕ_discrete k j) ∙ sym (sum_snoc (live d k) hs new_hold)
    where
      go : Dec (k ≡ j) → cond (leb (next_start k c) d) 0 (upd H j (H j + s) k) ≡ sum (live d k) hs + cond (ltb d (next_start j c)) (cond (eqb k j) s 0) 0
      go (yes e) = rw (e, upd_same H j (H j + s), eqb_yes j j refl) (by (split (next_start j c) d) (rw e at (a d h k)))
        where
          by : (next_start j c ≤ d) ⊎ (d < next_start j c) → cond (leb (next_start j c) d) 0 (H j) ≡ sum (live d j) hs
              → cond (leb (next_start j c) d) 0 (H j + s) ≡ sum (live d j) hs + cond (ltb d (next_start j c)) s 0
          by (inl l) q =
              rw (leb_yes (next_start j c) d l, leb_no (suc d) (next_start j c) (omega arith)) (omega (arith, rw (leb_yes (next_start j c) d l) at q))
          by (inr l) q = rw (leb_no (next_start j c) d l, leb_yes (suc d) (next_start j c) l) (omega (arith, rw (leb_no (next_start j c) d l) at q))
      go (no e) = rw (upd_other H j (H j + s) k e, eqb_no k j e) (a d h k ∙ none! (ltb d (next_start j c)))
        where
          none! : (t : Bool) → sum (live d k) hs ≡ sum (live d k) hs + cond t 0 0
          none! true = omega arith
          none! false = omega arith

-- ---- the holds that are kept when the clock and the lanes have settled

kept_live : (b : Board) → some_wait b.places ≡ true → (hs : List Hold) (d k : ℕ) → b.clock ≤ d → sum (live d k) (still_held b hs) ≡ sum (live d k) hs
unfolding still_held sum live
kept_live b w [] d k h = refl
kept_live b w (x ∷ xs) d k h = go (split x.until b.clock) (kept_live b w xs d k h)
  where
    go : (x.until ≤ b.clock) ⊎ (b.clock < x.until) → sum (live d k) (still_held b xs) ≡ sum (live d k) xs
        → sum (live d k) (cond (ltb b.clock x.until && some_wait b.places) (x ∷ still_held b xs) (still_held b xs))
        ≡ cond (ltb d x.until) (held_of k x) 0 + sum (live d k) xs
    go (inl l) r = rw (leb_no (suc b.clock) x.until (omega arith), leb_no (suc d) x.until (omega arith)) (omega arith)
    go (inr l) r = rw (leb_yes (suc b.clock) x.until l, w) (omega arith)

dropped : (b : Board) → some_wait b.places ≡ false → (hs : List Hold) → still_held b hs ≡ []
unfolding still_held
dropped b w [] = refl
dropped b w (x ∷ xs) = rw w (go (ltb b.clock x.until) (dropped b w xs))
  where
    go : (t : Bool) → still_held b xs ≡ [] → cond (t && false) (x ∷ still_held b xs) (still_held b xs) ≡ []
    go true e = e
    go false e = e

-- every hold that is kept is still to be released
all_live : (b : Board) (hs : List Hold) (k : ℕ) → sum (live b.clock k) (still_held b hs) ≡ sum (held_of k) (still_held b hs)
unfolding still_held sum live
all_live b [] k = refl
all_live b (x ∷ xs) k = go (ltb b.clock x.until) refl (some_wait b.places) (all_live b xs k)
  where
    go : (t : Bool) → ltb b.clock x.until ≡ t → (u : Bool) → sum (live b.clock k) (still_held b xs) ≡ sum (held_of k) (still_held b xs)
        → sum (live b.clock k) (cond (t && u) (x ∷ still_held b xs) (still_held b xs)) ≡ sum (held_of k) (cond (t && u) (x ∷ still_held b xs) (still_held b xs))
    go true e true r = rw e (omega arith)
    go true e false r = r
    go false e u r = r

-- ---- one call

-- where some block waits and no slot is open, one is in an order
waits_ordered : (b : Board) → Tidy b → b.slot ≡ none → some_wait b.places ≡ true → is_none (least_ready b.places) ≡ false
unfolding quiet
waits_ordered b g e w =
    go (is_none (least_ready b.places)) (sym (some_quiet b g ∙ ap (λ (s : Option ℕ). not (is_none s && is_none (least_ready b.places))) e) ∙ w)
  where
    go : (t : Bool) → not t ≡ true → t ≡ false
    go true f = absurd (false≢true f)
    go false f = refl

settle_same : (l : List Place) (H : ℕ → ℕ) → is_none (least_ready l) ≡ false → settle l H ≡ H
unfolding settle
settle_same l H e = λ i k. each k i
  where
    each : (k : ℕ) → cond (is_none (least_ready l)) 0 (H k) ≡ H k
    each k = rw e

ended_agrees : (c : ℕ) (H : ℕ → ℕ) (l : List Place) (hs : List Hold) → is_none (least_ready l) ≡ false → HeldByHolds c H hs
    → HeldByHolds (suc c) (settle l (release c (suc c) H)) hs
ended_agrees c H l hs e a d h k =
    ap (λ (F : ℕ → ℕ). release (suc c) d F k) (settle_same l (release c (suc c) H) e) ∙ agrees_move c (suc c) H hs (omega arith) a d h k

-- a send: the slot goes on, or it ends, and what is due is released
send_agrees : (m : Board) (p : ℕ) (hs : List Hold) → Tidy (send_from m p) → HeldByHolds m.clock m.held hs → some_wait (send_from m p).places ≡ true
    → HeldByHolds (send_from m p).clock (send_from m p).held hs
unfolding send_from ended
send_agrees m p hs g a w =
    go (leb (length (at m p).lane) 1) refl (ltb (left_after (at m p)) (bytes_charged (get_or (drop 1 (at m p).lane) 0 no_record) * 65536)) refl
  where
    o' : ℕ → List ℕ
    o' = upd m.orders (block_class (at m p)) (m.orders (block_class (at m p)) ++ (p ∷ []))

    next : Bool → Bool → Board
    next t u = cond t (ended m p (emptied (at m p)) m.orders) (cond u (ended m p (short m.clock (at m p)) o') (go_on m p (going (at m p))))

    over : (y : Place) (o : ℕ → List ℕ) → Tidy (ended m p y o) → some_wait (set m.places p y) ≡ true
        → HeldByHolds (suc m.clock) (settle (set m.places p y) (release m.clock (suc m.clock) m.held)) hs
    over y o t v d h k = ended_agrees m.clock m.held (set m.places p y) hs (waits_ordered (ended m p y o) t refl v) a d h k

    go : (t : Bool) → leb (length (at m p).lane) 1 ≡ t → (u : Bool)
        → ltb (left_after (at m p)) (bytes_charged (get_or (drop 1 (at m p).lane) 0 no_record) * 65536) ≡ u
        → HeldByHolds (cond (leb (length (at m p).lane) 1) (ended m p (emptied (at m p)) m.orders)
        (cond (ltb (left_after (at m p)) (bytes_charged (get_or (drop 1 (at m p).lane) 0 no_record) * 65536)) (ended m p (short m.clock (at m p)) o')
        (go_on m p (going (at m p))))).clock
        (cond (leb (length (at m p).lane) 1) (ended m p (emptied (at m p)) m.orders)
        (cond (ltb (left_after (at m p)) (bytes_charged (get_or (drop 1 (at m p).lane) 0 no_record) * 65536)) (ended m p (short m.clock (at m p)) o')
        (go_on m p (going (at m p))))).held hs
    go true e u f = rw e (over (emptied (at m p)) m.orders (rw e at g) (rw e at w))
    go false e true f = rw (e, f) (over (short m.clock (at m p)) o' (rw (e, f) at g) (rw (e, f) at w))
    go false e false f = rw (e, f) a

begin_agrees : (b : Board) (t : ℕ) (hs : List Hold) → b.clock ≤ t → HeldByHolds b.clock b.held hs → HeldByHolds (begin b t).clock (begin b t).held hs
unfolding begin
begin_agrees b t hs h a = agrees_move b.clock t b.held hs h a

module _ (b : Board) (hs : List Hold) (g : Tidy b) (a : HeldByHolds b.clock b.held hs) where
  abbrev Steps : Single → Turn → Type 0
  Steps x u = some_wait u.next.places ≡ true → HeldByHolds u.next.clock u.next.held (hs ++ closing b x (told b u.out))

  -- nothing is added
  as_was : HeldByHolds b.clock b.held (hs ++ [])
  as_was = rw (append-nil hs) a

  closing_refused : (x : Single) (code : ℕ) → Refusal code → closing b x (gives code) ≡ []
  closing_refused (open! o) code r = refl
  closing_refused (rename! old new) code r = refl
  closing_refused (close! n) code r = rw (refusal_not0 code r)
  closing_refused (record! n x) code r = refl
  closing_refused serve! code r = refl

  steps_close : (p n : ℕ) → CanClose b p n → Steps (close! n) (record { out = done; next = closed b p })
  unfolding closed
  steps_close p n c w = rw (has_share b p n g c.has, some_quiet b g) (go (quiet b))
    where
      k : ℕ
      k = block_class (at b p)

      go : (t : Bool) → HeldByHolds b.clock (cond t b.held (upd b.held k (b.held k + (at b p).share)))
          (hs ++ cond (not t) (record { share = (at b p).share; class = k; until = next_start k b.clock } ∷ []) [])
      go true = as_was
      go false = agrees_close b.clock (at b p).share k b.held hs a

  steps_take : (p n : ℕ) (r : Record) → CanTake b p n r → Steps (record! n r) (took_at b p r)
  unfolding taken_in
  steps_take p n r c w = go (leb (length (at b p).lane) 0)
    where
      go : (t : Bool) → HeldByHolds (cond t (joining b p (joins b.clock (at b p) r)) (go_on b p (more (at b p) r))).clock
          (cond t (joining b p (joins b.clock (at b p) r)) (go_on b p (more (at b p) r))).held (hs ++ [])
      go true = as_was
      go false = as_was

  steps : (x : Single) → Steps x (step b x)
  unfolding send
  steps = call_cases b g Steps (record {
    refused = λ x code r w. rw (closing_refused x code r) as_was;
    opens = λ o c w. as_was;
    renames = λ p old new c w. as_was;
    closes = steps_close;
    takes = steps_take;
    goes_on = λ p c w. rw (append-nil hs) (send_agrees b p hs (tidy_send b p c.slot g) a w);
    begins = begins;
  })
    where
      begins : (r t p : ℕ) → Begins b r t p → p ≡ chosen b t → Steps serve! (send true (begin b t) p)
      begins r t p c e w =
          rw (append-nil hs) (send_agrees (begin b t) p hs (tidy_send (begin b t) p (begin_slot b t ∙ ap some (sym e)) gb)
          (begin_agrees b t hs (omega (arith, c.time)) a) w)
        where
          gb : Tidy (begin b t)
          gb =
              subst (λ (z : ℕ). Tidy (begin b z)) (sym c.time)
              (tidy_begin b r c.slot (subst (LeastIs b.places) c.least (least_is b.places)) (rw (← c.time) c.soon) g)

-- ---- over a row of calls

pub record HeldIs (b : Board) (hs : List Hold) : Type 0 where
  pub agrees : HeldByHolds b.clock b.held hs
  pub alive : (k : ℕ) → sum (live b.clock k) hs ≡ sum (held_of k) hs

held_step : (b : Board) (hs : List Hold) (x : Single) → Tidy b → HeldIs b hs
    → HeldIs (step b x).next (still_held (step b x).next (hs ++ closing b x (answer b x)))
held_step b hs x g h = record { agrees = go (some_wait nb.places) refl; alive = all_live nb new }
  where
    nb : Board
    nb = (step b x).next

    new : List Hold
    new = hs ++ closing b x (answer b x)

    tn : Tidy nb
    tn = tidy_step b x g

    go : (t : Bool) → some_wait nb.places ≡ t → HeldByHolds nb.clock nb.held (still_held nb new)
    go true w = λ d l k. steps b hs g h.agrees x w d l k ∙ sym (kept_live nb w new d k l)
    go false w = rw (dropped nb w new) (agrees_none nb.clock nb.held (tn.calm (quiet_when (quiet nb) (sym (some_quiet nb tn) ∙ w))))
      where
        quiet_when : (t : Bool) → not t ≡ false → t ≡ true
        quiet_when true e = refl
        quiet_when false e = absurd (true≢false e)

pub held_row : (b : Board) (hs : List Hold) (xs : List Single) → Tidy b → HeldIs b hs → (k : ℕ) → (play b xs).held k ≡ sum (held_of k) (holds hs b xs)
unfolding play holds
held_row b hs [] g h k = agrees_now b.clock b.held hs h.agrees k ∙ h.alive k
held_row b hs (x ∷ xs) g h k =
    held_row (step b x).next (still_held (step b x).next (hs ++ closing b x (answer b x))) xs (tidy_step b x g) (held_step b hs x g h) k

pub held_fresh : (L : ℕ) → HeldIs (fresh L) []
unfolding fresh sum
held_fresh L = record { agrees = agrees_none 0 (λ j. 0) (λ k. refl); alive = λ k. refl }
