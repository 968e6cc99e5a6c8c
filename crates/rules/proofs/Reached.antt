-- DEMAND 3, its third part, as it is asked: the block waits when the clock reaches the start; what it does afterwards is free.
use mathlib.Core.Path.{◌≡◌, refl, sym, ap, ap₂, ◌∙◌}
use mathlib.Core.Bool.{Bool, true, false, cond, ◌&&◌, true≢false, false≢true}
use mathlib.Core.Logic.{◌⊎◌, inl, inr, ◌≢◌}
use mathlib.Core.Option.{none, some}
use mathlib.Core.List.{List, [], ◌∷◌, ◌++◌}
use Prim.Native.Nat.{ℕ, suc, ◌+◌, ◌*◌, ◌-◌, ◌^◌, ◌≤◌, ◌<◌, max}
use native.Mathlib.Omega.{arith}
use native.Mathlib.Nat.{le_refl}
use lib.Pow.{pow_pos}
use lib.Dec.{leb, ltb, eqb}
use lib.ListN.{length, get_or, drop}
use Rattle.base.proofs.Numbers.{split, leb_yes, eqb_true}
use Rattle.base.specs.Sums.{one_if}
use Rattle.units.specs.Classes.{Start, next_start, class_of}
use Rattle.units.proofs.Starts.{next_gt, next_least, start_gap}
use Rattle.rules.specs.Calls.{Single, step}
use Rattle.rules.specs.Spoilt.{is_queued, is_serving, is_at}
use Rattle.rules.specs.Board.{Record, no_record, bytes_charged, out, block_class, front, Board, at}
use Rattle.rules.specs.Choice.{upd, left_of, Turn, is_none, emptied, short, going, ended, go_on, send_from, send, begin, lowest, chosen, where_is, joins, more}
use Rattle.rules.specs.Choice.{joining, taken_in}
use Rattle.rules.specs.Blocks.{closed}
use Rattle.rules.specs.Runs.{play}
use Rattle.rules.proofs.Shape.{LeastIs, Chosen, choose}
use Rattle.rules.proofs.Turns.{Good, busy, in_line, from_place, begun, slot_clock, due_of, due_queued, due_serving, queued_waits, Keeps, WaitsOn}
use Rattle.rules.proofs.Run.{keeps_step}
use Rattle.rules.proofs.Stretch.{slots_at, due_ok, Keeping, never_two}
use Rattle.rules.proofs.Cases.{MayBegin, least_of, other_cases, serve_turns}

-- THE CLOCK never goes back
up_send : (b : Board) (p : ℕ) → b.clock ≤ (send_from b p).clock
unfolding send_from ended
up_send b p =
    go (leb (length (at b p).lane) 1)
    (ltb (left_of (at b p).stand - bytes_charged (front (at b p)) * 65536) (bytes_charged (get_or (drop 1 (at b p).lane) 0 no_record) * 65536))
  where
    go : (t u : Bool) → b.clock ≤ (cond t (ended b p (emptied (at b p)) b.orders)
        (cond u (ended b p (short b.clock (at b p)) (upd b.orders (block_class (at b p)) (b.orders (block_class (at b p)) ++ (p ∷ []))))
        (go_on b p (going (at b p))))).clock
    go true u = omega arith
    go false true = omega arith
    go false false = le_refl b.clock

up_begin : (b : Board) (t p : ℕ) → b.clock ≤ t → b.clock ≤ (send_from (begin b t) p).clock
unfolding begin
up_begin b t p h = omega (arith, up_send (begin b t) p)

up_taken : (b : Board) (p : ℕ) (x : Record) → b.clock ≤ (taken_in b p x).clock
unfolding taken_in
up_taken b p x = go (leb (length (at b p).lane) 0)
  where
    go : (t : Bool) → b.clock ≤ (cond t (joining b p (joins b.clock (at b p) x)) (go_on b p (more (at b p) x))).clock
    go true = le_refl b.clock
    go false = le_refl b.clock

pub clock_up : (b : Board) (c : Single) → b.clock ≤ (step b c).next.clock
unfolding closed send
clock_up b = other_cases b (λ x u. b.clock ≤ u.next.clock) (record {
  refused = λ x code r. le_refl b.clock;
  opens = λ o c. le_refl b.clock;
  renames = λ old new c. le_refl b.clock;
  closes = λ n c. le_refl b.clock;
  takes = λ n x c. up_taken b (where_is b n) x;
})
    (serve_turns b (λ u. b.clock ≤ u.next.clock)
    (λ code u. le_refl b.clock)
    (λ p e. up_send b p)
    (λ r m. up_begin b (max b.clock r) (chosen b (max b.clock r)) (omega arith)))

-- A SEND FROM p: its slot was open, or it begins now, not before the clock and before the end of its interval
abbrev InSlotOrBegins : Board → Turn → ℕ → Type 0
InSlotOrBegins b t p =
    ((is_none b.slot ≡ false) × (is_serving (at b p).stand ≡ true))
    ⊎ ((is_none b.slot ≡ true) × (b.clock ≤ slot_clock t.out) × (slot_clock t.out < due_of b p + 2 ^ block_class (at b p)))

and_no : (u : Bool) → u && false ≡ false
and_no true = refl
and_no false = refl

begin_clock : (b : Board) (r p : ℕ) → Good b → b.slot ≡ none → LeastIs b.places (some r) → p ≡ get_or (b.orders (lowest b (max b.clock r))) 0 0
    → (b.clock ≤ (begin b (max b.clock r)).clock) × ((begin b (max b.clock r)).clock < due_of b p + 2 ^ block_class (at b p))
unfolding begin LeastIs lowest
begin_clock b r p g e li q = (
  omega arith,
  omega (
    arith,
    li.0 p is_q,
    due_queued b.clock (at b p).share (at b p).stand is_q,
    (due_ok b p g (queued_waits (at b p).stand is_q)).2,
    pow_pos (block_class (at b p)),
  ),
)
  where
    ch : Chosen b.places b.orders (max b.clock r) (lowest b (max b.clock r)) (get_or (b.orders (lowest b (max b.clock r))) 0 0)
    ch = choose b.places b.orders (max b.clock r) r g.fine.shape.listed g.fine.shape.rising li (omega arith)

    is_q : is_queued (at b p).stand ≡ true
    is_q = rw q ch.is_q

sends : (b : Board) (c : Single) (p : ℕ) → Good b → from_place p (step b c).out ≡ true → InSlotOrBegins b (step b c) p
unfolding send
sends b c p g = other_cases b (λ x u. from_place p u.out ≡ true → InSlotOrBegins b u p) (record {
  refused = λ x code r f. absurd (false≢true f);
  opens = λ o c f. absurd (false≢true f);
  renames = λ old new c f. absurd (false≢true f);
  closes = λ n c f. absurd (false≢true f);
  takes = λ n x c f. absurd (false≢true f);
})
    (serve_turns b (λ u. from_place p u.out ≡ true → InSlotOrBegins b u p)
    (λ code u f. absurd (false≢true f))
    (λ q e f. inl (ap is_none e, g.one p ∙ ap (is_at p) e ∙ f))
    begins) c
  where
    begins : (r : ℕ) → MayBegin b r → eqb p (chosen b (max b.clock r)) ≡ true
        → InSlotOrBegins b (send true (begin b (max b.clock r)) (chosen b (max b.clock r))) p
    begins r m f =
        let w = begin_clock b r p g m.slot (least_of b r m.least) (eqb_true p (chosen b (max b.clock r)) f) in
        inr (ap is_none m.slot, w.0, w.1)

-- counted in the interval
counts : (lo k t : ℕ) (c : Bool) → c ≡ true → lo ≤ t → t < lo + 2 ^ k → one_if (c && leb lo t && leb (suc t) (lo + 2 ^ k)) ≡ 1
counts lo k t c e a b = rw (e, leb_yes lo t a, leb_yes (suc t) (lo + 2 ^ k) b)

-- once the clock is in the interval and the block still has its slot to come, it has it before the interval ends, and before it stops waiting
comes_from : (b : Board) (xs : List Single) (p k lo : ℕ) → Good b → lo ≤ b.clock → in_line (at b p).stand ≡ true → due_of b p ≤ lo → block_class (at b p) ≡ k
    → Keeping p b xs
    → (lo + 2 ^ k ≤ (play b xs).clock) ⊎ (in_line (at (play b xs) p).stand ≡ false)
    → 1 ≤ slots_at lo (lo + 2 ^ k) p b xs
unfolding play slots_at Keeping
comes_from b [] p k lo g c w d e kp (inl h) = absurd (omega (arith, (due_ok b p g w).2, ap (λ (j : ℕ). 2 ^ j) e))
comes_from b [] p k lo g c w d e kp (inr h) = absurd (true≢false (sym w ∙ h))
comes_from b (x ∷ xs) p k lo g c w d e kp h =
    go (from_place p (step b x).out) refl (comes_from (step b x).next xs p k lo ks.good (omega (arith, clock_up b x)))
  where
    ks : Keeps b (step b x)
    ks = keeps_step b x g

    t : ℕ
    t = slot_clock (step b x).out

    go : (f : Bool) → from_place p (step b x).out ≡ f
        → (in_line (at (step b x).next p).stand ≡ true → due_of (step b x).next p ≤ lo → block_class (at (step b x).next p) ≡ k → Keeping p (step b x).next xs
        → (lo + 2 ^ k ≤ (play (step b x).next xs).clock) ⊎ (in_line (at (play (step b x).next xs) p).stand ≡ false)
        → 1 ≤ slots_at lo (lo + 2 ^ k) p (step b x).next xs)
        → 1 ≤ one_if (begun b (step b x) p && leb lo t && leb (suc t) (lo + 2 ^ k)) + slots_at lo (lo + 2 ^ k) p (step b x).next xs
    go false f rest =
        let s = ks.stays p w f in
        let o = ks.goes p w s.0 in
        let no : begun b (step b x) p ≡ false = ap (λ (u : Bool). is_none b.slot && u) f ∙ and_no (is_none b.slot) in
        omega (arith, rest s.0 (omega (arith, o.idle no)) (ap class_of s.1 ∙ e) kp.1 h)
    go true f rest = by (sends b x p g f)
      where
        by : InSlotOrBegins b (step b x) p
            → 1 ≤ one_if (begun b (step b x) p && leb lo t && leb (suc t) (lo + 2 ^ k)) + slots_at lo (lo + 2 ^ k) p (step b x).next xs
        by (inl s) = absurd (omega (arith, d, due_serving b.clock (at b p).share (at b p).stand s.1, next_gt (block_class (at b p)) b.clock))
        by (inr s) =
            omega (
              arith,
              counts lo k t (begun b (step b x) p) (ap₂ (λ (u v : Bool). u && v) s.0 f) (omega (arith, s.1))
                  (omega (arith, s.2, ap (λ (j : ℕ). 2 ^ j) e)),
            )

-- THE CALL x BRINGS THE CLOCK TO THE START lo, or past it, and p waits when it gets there: p waits before x; and it waits after x too, or x
-- began p's slot at lo or later (where x ends another slot, or p's own, the clock gets to lo when the record is sent: then p must wait after x).
-- By the time the clock reaches the end of the interval, or p stops waiting, p has begun exactly one slot in it.
pub slot_when_reached : (b : Board) (x : Single) (xs : List Single) (p lo : ℕ) → Good b → Start (block_class (at b p)) lo → b.clock < lo
    → lo ≤ (step b x).next.clock
    → in_line (at b p).stand ≡ true → (in_line (at (step b x).next p).stand ≡ true) ⊎ ((begun b (step b x) p ≡ true) × (lo ≤ slot_clock (step b x).out))
    → Keeping p b (x ∷ xs) → (lo + 2 ^ block_class (at b p) ≤ (play b (x ∷ xs)).clock) ⊎ (in_line (at (play b (x ∷ xs)) p).stand ≡ false)
    → slots_at lo (lo + 2 ^ block_class (at b p)) p b (x ∷ xs) ≡ 1
unfolding play slots_at Keeping
slot_when_reached b x xs p lo g m before after w how kp end = omega (arith, never_two b (x ∷ xs) p k lo g kp refl m, least! how)
  where
    k : ℕ
    k = block_class (at b p)

    ks : Keeps b (step b x)
    ks = keeps_step b x g

    t : ℕ
    t = slot_clock (step b x).out

    ok : (Start (block_class (at b p)) (due_of b p)) × (due_of b p ≤ next_start (block_class (at b p)) b.clock)
        × (b.clock + busy b.slot < due_of b p + 2 ^ block_class (at b p))
    ok = due_ok b p g w

    early : due_of b p ≤ lo
    early = omega (arith, ok.1, next_least (block_class (at b p)) b.clock lo m before)

    both : (u v : Bool) → u && v ≡ true → (u ≡ true) × (v ≡ true)
    both true v q = (refl, q)
    both false v q = absurd (false≢true q)

    goal : Type 0
    goal = 1 ≤ one_if (begun b (step b x) p && leb lo t && leb (suc t) (lo + 2 ^ k)) + slots_at lo (lo + 2 ^ k) p (step b x).next xs

    least! : (in_line (at (step b x).next p).stand ≡ true) ⊎ ((begun b (step b x) p ≡ true) × (lo ≤ slot_clock (step b x).out))
        → 1 ≤ one_if (begun b (step b x) p && leb lo t && leb (suc t) (lo + 2 ^ k)) + slots_at lo (lo + 2 ^ k) p (step b x).next xs
    least! (inr (bg, l)) = by (sends b x p g (both (is_none b.slot) (from_place p (step b x).out) bg).1)
      where
        by : InSlotOrBegins b (step b x) p
            → 1 ≤ one_if (begun b (step b x) p && leb lo t && leb (suc t) (lo + 2 ^ k)) + slots_at lo (lo + 2 ^ k) p (step b x).next xs
        by (inl s) = absurd (true≢false (sym (both (is_none b.slot) (from_place p (step b x).out) bg).0 ∙ s.0))
        by (inr s) = omega (arith, counts lo k t (begun b (step b x) p) bg l (omega (arith, s.2, early)))
    least! (inl v) = go (begun b (step b x) p) refl
      where
        o : WaitsOn b (step b x) p
        o = ks.goes p w v

        rest : due_of (step b x).next p ≤ lo → 1 ≤ slots_at lo (lo + 2 ^ k) p (step b x).next xs
        rest d = comes_from (step b x).next xs p k lo ks.good after v d (ap class_of o.share) kp.1 end

        go : (c : Bool) → begun b (step b x) p ≡ c → 1 ≤ one_if (c && leb lo t && leb (suc t) (lo + 2 ^ k)) + slots_at lo (lo + 2 ^ k) p (step b x).next xs
        go false q = omega (arith, rest (omega (arith, o.idle q, early)))
        go true q = by (split lo t)
          where
            by : (lo ≤ t) ⊎ (t < lo) → 1 ≤ one_if (true && leb lo t && leb (suc t) (lo + 2 ^ k)) + slots_at lo (lo + 2 ^ k) p (step b x).next xs
            by (inl l) = omega (arith, counts lo k t true refl l (omega (arith, (o.slot q).1, early)))
            by (inr l) = omega (arith, rest (omega (arith, (o.slot q).2, start_gap k (due_of b p) lo ok.0 m (omega (arith, (o.slot q).0)))))
