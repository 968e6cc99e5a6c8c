-- Some block waits, by its lane, exactly where a slot is open or a block is in an order; and when a serve is refused.
use mathlib.Core.Path.{◌≡◌, refl, sym, ap, subst, ◌∙◌}
use mathlib.Core.Bool.{Bool, true, false, not, ◌&&◌, ◌||◌, true≢false}
use mathlib.Core.Logic.{◌⊎◌, inl, inr}
use mathlib.Core.Option.{Option, none, some}
use mathlib.Core.List.{List, [], ◌∷◌}
use Prim.Native.Nat.{ℕ, zero, suc, ◌^◌, ◌≤◌, ◌<◌, max}
use native.Mathlib.Omega.{arith}
use lib.ListN.{length, get_or}
use Rattle.base.proofs.Numbers.{leb_yes, leb_no, eqb_yes}
use Rattle.rules.specs.Board.{Record, Stand, out, queued, serving, Place, free_place, Board, at, waits, some_wait}
use Rattle.rules.specs.Choice.{Turn, refuse, least_ready, is_none, serve, send, serve_by}
use Rattle.rules.specs.Blocks.{quiet}
use Rattle.rules.specs.Spoilt.{is_queued, is_serving, is_at}
use Rattle.rules.specs.Calls.{serve!, step, Sent, gives, sends, told}
use Rattle.rules.specs.Runs.{answer}
use Rattle.rules.specs.Promises.{ServeCodes}
use Rattle.rules.proofs.Shape.{StandOk, LeastIs, least_is, queued_in, queued_ok}
use Rattle.rules.proofs.Slot.{serving_ok, serving_in}
use Rattle.rules.proofs.Tidy.{Tidy}
use Rattle.rules.proofs.Cases.{Unserved, nobody, late, serve_cases, Refusal}
use Rattle.rules.proofs.Orders.{ready}

some_yes : (l : List Place) (p : ℕ) → p < length l → 1 ≤ length (get_or l p free_place).lane → some_wait l ≡ true
unfolding some_wait
some_yes [] p h w = absurd (omega arith)
some_yes (x ∷ xs) zero h w = rw (leb_yes 1 (length x.lane) w)
some_yes (x ∷ xs) (suc p) h w = rw (some_yes xs p (omega arith) w) (or_true (waits x))
  where
    or_true : (t : Bool) → t || true ≡ true
    or_true true = refl
    or_true false = refl

some_no : (l : List Place) → ((p : ℕ) → length (get_or l p free_place).lane ≡ 0) → some_wait l ≡ false
unfolding some_wait
some_no [] h = refl
some_no (x ∷ xs) h = rw (leb_no 1 (length x.lane) (omega (arith, h 0)), some_no xs (λ p. h (suc p)))

out_empty : (L share : ℕ) (lane : List Record) (s : Stand) → is_queued s ≡ false → is_serving s ≡ false → StandOk L share lane s → length lane ≡ 0
unfolding StandOk
out_empty L share lane out q v h = h
out_empty L share lane (queued r) q v h = absurd (true≢false q)
out_empty L share lane (serving n) q v h = absurd (true≢false v)

-- a slot is open
slot_waits : (b : Board) (p : ℕ) → Tidy b → b.slot ≡ some p → some_wait b.places ≡ true
slot_waits b p g e =
    some_yes b.places p (serving_in b.places p is_s)
    (serving_ok b.largest (at b p).share (at b p).lane (at b p).stand is_s (g.shape.place_ok p).stand_ok).0
  where
    is_s : is_serving (at b p).stand ≡ true
    is_s = g.one p ∙ ap (is_at p) e ∙ eqb_yes p p refl

-- a block is in an order
order_waits : (b : Board) (r : ℕ) → Tidy b → least_ready b.places ≡ some r → some_wait b.places ≡ true
unfolding LeastIs
order_waits b r g e = go (subst (LeastIs b.places) e (least_is b.places)).1
  where
    go : (i : ℕ) × (is_queued (at b i).stand ≡ true) × (ready b.places i ≡ r) → some_wait b.places ≡ true
    go (i, q, _) =
        some_yes b.places i (queued_in b.places i q)
        (queued_ok b.largest (at b i).share (at b i).lane (at b i).stand q (g.shape.place_ok i).stand_ok).0

-- neither
none_waits : (b : Board) → Tidy b → b.slot ≡ none → least_ready b.places ≡ none → some_wait b.places ≡ false
unfolding LeastIs
none_waits b g e f =
    some_no b.places (λ p. out_empty b.largest (at b p).share (at b p).lane (at b p).stand (subst (LeastIs b.places) f (least_is b.places) p)
    (g.one p ∙ ap (is_at p) e) (g.shape.place_ok p).stand_ok)

pub some_quiet : (b : Board) → Tidy b → some_wait b.places ≡ not (quiet b)
unfolding quiet
some_quiet b g = go b.slot refl (least_ready b.places) refl
  where
    go : (s : Option ℕ) → b.slot ≡ s → (m : Option ℕ) → least_ready b.places ≡ m → some_wait b.places ≡ not (is_none s && is_none m)
    go (some p) e m f = slot_waits b p g e
    go none e (some r) f = order_waits b r g f
    go none e none f = none_waits b g e f

-- ---- the codes of a serve

abbrev ServeCode : Board → Turn → Type 0
ServeCode b u = ((told b u.out ≡ gives 1) × (some_wait b.places ≡ false))
    ⊎ (((told b u.out ≡ gives 11) × (some_wait b.places ≡ true) × (b.slot ≡ none)
    × ((r : ℕ) × (least_ready b.places ≡ some r) × (2 ^ 62 ≤ max b.clock r)))
    ⊎ (((s : Sent) × (told b u.out ≡ sends s)) × (some_wait b.places ≡ true)))

codes : (b : Board) → Tidy b → ServeCode b (serve b)
unfolding send
codes b g =
    serve_cases b g (ServeCode b)
    (record {
      unserved = un;
      goes_on = λ p c. inr (inr ((_, refl), slot_waits b p g c.slot));
      begins =
          λ r t p c e. inr (inr ((_, refl), order_waits b r g c.least));
    })
  where
    un : (code : ℕ) → Unserved b code → Refusal code → ServeCode b (refuse b code)
    un code (nobody e f) k = inl (refl, none_waits b g e f)
    un code (late r e f h) k = inr (inl (refl, order_waits b r g f, e, (r, f, h)))

too_late : (b : Board) (r : ℕ) → b.slot ≡ none → least_ready b.places ≡ some r → 2 ^ 62 ≤ max b.clock r → told b (serve b).out ≡ gives 11
unfolding serve serve_by
too_late b r e f h = rw (e, f, leb_yes (2 ^ 62) (max b.clock r) h)

pub serve_refusals : (b : Board) → Tidy b → ServeCodes b
unfolding step
serve_refusals b g = go (codes b g)
  where
    differ : (i j : ℕ) → gives i ≡ gives j → i ≡ j
    differ i j e = cc

    never : (i : ℕ) (s : Sent) → gives i ≡ sends s → ⊥
    never i s e = let z : ◌≡◌ {A = ℕ} 0 1 = cc in omega arith

    go : ServeCode b (serve b) → ServeCodes b
    go (inl (e, w)) = record {
      one = (λ _. w, λ _. e);
      eleven = λ f. absurd (omega (arith, differ 1 11 (sym e ∙ f)));
      eleven_when = λ r s f h. absurd (true≢false (sym (order_waits b r g f) ∙ w));
    }
    go (inr (inl (e, w, s, l))) = record {
      one = (λ f. absurd (omega (arith, differ 11 1 (sym e ∙ f))), λ f. absurd (true≢false (sym w ∙ f)));
      eleven = λ _. (w, s, l);
      eleven_when = λ r _ f h. e;
    }
    go (inr (inr ((s, e), w))) = record {
      one = (λ f. absurd (never 1 s (sym f ∙ e)), λ f. absurd (true≢false (sym w ∙ f)));
      eleven = λ f. absurd (never 11 s (sym f ∙ e));
      eleven_when = λ r f l h. absurd (never 11 s (sym (too_late b r f l h) ∙ e));
    }

-- while some block waits, a serve sends or is given 11
pub serve_sends : (b : Board) → Tidy b → some_wait b.places ≡ true → (answer b serve! ≡ gives 11) ⊎ ((s : Sent) × (answer b serve! ≡ sends s))
unfolding step
serve_sends b g w = go (codes b g)
  where
    go : ServeCode b (serve b) → (told b (serve b).out ≡ gives 11) ⊎ ((s : Sent) × (told b (serve b).out ≡ sends s))
    go (inl (e, f)) = absurd (true≢false (sym w ∙ f))
    go (inr (inl (e, _, _, _))) = inl e
    go (inr (inr (s, _))) = inr s
