-- What one call takes into a place's lane and what it sends from it: the lane and what is taken in are what is sent, followed by the lane after.
use mathlib.Core.Path.{◌≡◌, refl, sym, ap, ◌∙◌}
use mathlib.Core.Bool.{Bool, true, false, cond, ◌&&◌}
use mathlib.Core.Option.{none, some}
use mathlib.Core.List.{List, [], ◌∷◌, ◌++◌, append-nil}
use Prim.Native.Nat.{ℕ, ◌+◌, ◌*◌, ◌-◌, ◌^◌, ◌≤◌, ◌<◌, max}
use native.Mathlib.Omega.{arith}
use native.Mathlib.Decide.{ℕ_discrete}
use lib.Dec.{leb, ltb, eqb}
use lib.ListN.{length, get_or, set, drop}
use lib.Seq.{get_or-set_same, get_or-set_other}
use Rattle.base.specs.Tests.{least}
use Rattle.base.proofs.Numbers.{true_le, eqb_yes, eqb_no}
use Rattle.rules.specs.Calls.{Single, open!, close!, rename!, record!, serve!, step}
use Rattle.rules.specs.Spoilt.{is_serving, is_at}
use Rattle.rules.specs.Board.{Record, no_record, bytes_charged, Stand, out, queued, serving, Place, free_place, block_class, front, Board, at}
use Rattle.rules.specs.Choice.{taken, upd, left_of, Out, refused, done, sending, sent, Turn, emptied, short, going, started, ended, go_on, send_from, send}
use Rattle.rules.specs.Choice.{begin, lowest, where_is, joins, more, joining, taken_in, took_at}
use Rattle.rules.specs.Blocks.{opened, free_at, closed, renamed}
use Rattle.rules.proofs.Orders.{pl}
use Rattle.rules.proofs.Slot.{serving_ok, serving_in}
use Rattle.rules.proofs.Shape.{StandOk, PlaceOk, LeastIs, queued_in}
use Rattle.rules.proofs.Calls.{set_field, in_places}
use Rattle.rules.proofs.Tidy.{Tidy, tidy_begin}
use Rattle.rules.proofs.Tidy as tidy
use Rattle.rules.proofs.Cases.{least_of, other_cases, serve_turns}

-- what the call takes into place p's lane, and what it sends from it
abbrev pub went : Out → Bool
went (refused n) = false
went done = true
went (taken a) = true
went (sent s) = false

abbrev pub took_one : ℕ → Board → Single → Out → List Record
took_one p b (open! w) o = []
took_one p b (close! n) o = []
took_one p b (rename! n m) o = []
took_one p b (record! n x) o = cond (went o && eqb p (where_is b n)) (x ∷ []) []
took_one p b serve! o = []

abbrev pub sent_one : ℕ → Out → List Record
sent_one p (refused n) = []
sent_one p done = []
sent_one p (taken a) = []
sent_one p (sent s) = cond (eqb p s.place) (s.front ∷ []) []

-- one call
abbrev pub Flow : ℕ → Board → List Record → Turn → Type 0
Flow p b xs t = (at b p).lane ++ xs ≡ sent_one p t.out ++ (at t.next p).lane

pub took_refused : (p : ℕ) (b : Board) (code : ℕ) (x : Single) → took_one p b x (refused code) ≡ []
took_refused p b code (open! w) = refl
took_refused p b code (rename! old new) = refl
took_refused p b code (close! m) = refl
took_refused p b code (record! m x) = refl
took_refused p b code serve! = refl

-- a place with no share has an empty lane
no_share : (L : ℕ) (x : Place) → PlaceOk L x → x.share ≡ 0 → x.lane ≡ []
unfolding StandOk
no_share L x ok z = go x.stand x.lane ok.stand_ok
  where
    go : (s : Stand) (l : List Record) → StandOk L x.share l s → l ≡ []
    go out [] h = refl
    go out (y ∷ ys) h = absurd (omega arith)
    go (queued r) l h = absurd (omega (arith, h.1))
    go (serving n) l h = absurd (omega (arith, h.1))

empty : (l : List Record) → length l ≤ 0 → l ≡ []
empty [] h = refl
empty (y ∷ ys) h = absurd (omega arith)

front_rest : (l : List Record) → 1 ≤ length l → l ≡ get_or l 0 no_record ∷ drop 1 l
front_rest [] h = absurd (omega arith)
front_rest (y ∷ ys) h = refl

no_rest : (l : List Record) → length l ≤ 1 → drop 1 l ≡ []
no_rest [] h = refl
no_rest (y ∷ []) h = refl
no_rest (y ∷ (z ∷ zs)) h = absurd (omega arith)

-- a change of one place that keeps its lane
flow_kept : (b : Board) (q : ℕ) (y : Place) (p : ℕ) → q < length b.places → y.lane ≡ (at b q).lane → (at b p).lane ++ [] ≡ (pl (set b.places q y) p).lane
flow_kept b q y p h e = append-nil (at b p).lane ∙ sym (set_field (λ (w : Place). w.lane) b.places q y h e p)

-- the front goes, at the slot's place
flow_drop : (b : Board) (began : Bool) (q : ℕ) (y : Place) (p : ℕ) → q < length b.places → 1 ≤ length (at b q).lane → y.lane ≡ drop 1 (at b q).lane
    → (at b p).lane ++ [] ≡ sent_one p (sent (sending began b q)) ++ (pl (set b.places q y) p).lane
flow_drop b began q y p h some! e = append-nil (at b p).lane ∙ go (ℕ_discrete p q)
  where
    go : Dec (p ≡ q) → (at b p).lane ≡ cond (eqb p q) (front (at b q) ∷ []) [] ++ (pl (set b.places q y) p).lane
    go (yes f) = rw (f, eqb_yes q q refl, get_or-set_same b.places q y free_place h, e) (front_rest (at b q).lane some!)
    go (no f) = rw (eqb_no p q f, get_or-set_other b.places q p y free_place f)

flow_send : (b : Board) (began : Bool) (q : ℕ) → b.slot ≡ some q → Tidy b → (p : ℕ) → Flow p b [] (send began b q)
unfolding send send_from ended
flow_send b began q e g p = go (leb (length (at b q).lane) 1) refl
  where
    is_s : is_serving (at b q).stand ≡ true
    is_s = g.one q ∙ ap (is_at q) e ∙ eqb_yes q q refl

    h : q < length b.places
    h = serving_in b.places q is_s

    some! : 1 ≤ length (at b q).lane
    some! = (serving_ok b.largest (at b q).share (at b q).lane (at b q).stand is_s (g.shape.place_ok q).stand_ok).0

    o' : ℕ → List ℕ
    o' = upd b.orders (block_class (at b q)) (b.orders (block_class (at b q)) ++ (q ∷ []))

    two : (u : Bool) → (at b p).lane ++ []
        ≡ sent_one p (sent (sending began b q)) ++ (at (cond u (ended b q (short b.clock (at b q)) o') (go_on b q (going (at b q)))) p).lane
    two true = flow_drop b began q (short b.clock (at b q)) p h some! refl
    two false = flow_drop b began q (going (at b q)) p h some! refl

    go : (t : Bool) → leb (length (at b q).lane) 1 ≡ t
        → (at b p).lane ++ [] ≡ sent_one p (sent (sending began b q)) ++ (at
        (cond t (ended b q (emptied (at b q)) b.orders)
        (cond (ltb (left_of (at b q).stand - bytes_charged (front (at b q)) * 65536) (bytes_charged (get_or (drop 1 (at b q).lane) 0 no_record) * 65536))
        (ended b q (short b.clock (at b q)) o') (go_on b q (going (at b q))))) p).lane
    go true f = flow_drop b began q (emptied (at b q)) p h some! (sym (no_rest (at b q).lane (true_le (length (at b q).lane) 1 f)))
    go false f = two (ltb (left_of (at b q).stand - bytes_charged (front (at b q)) * 65536) (bytes_charged (get_or (drop 1 (at b q).lane) 0 no_record) * 65536))

begun_flow : (b : Board) → Tidy b → (r : ℕ) → b.slot ≡ none → LeastIs b.places (some r) → max b.clock r < 2 ^ 62 → (p : ℕ)
    → Flow p b [] (send true (begin b (max b.clock r)) (get_or (b.orders (lowest b (max b.clock r))) 0 0))
unfolding begin
begun_flow b g r e l soon p =
    ap (λ (xs : List Record). xs ++ [])
    (sym (set_field (λ (w : Place). w.lane) b.places q (started b.largest (at b q)) (queued_in b.places q (tidy.chosen b r e l soon g).is_q) refl p))
    ∙ flow_send (begin b (max b.clock r)) true q refl (tidy_begin b r e l soon g) p
  where
    q : ℕ
    q = get_or (b.orders (lowest b (max b.clock r))) 0 0

-- a record comes
module _ (b : Board) (g : Tidy b) (p : ℕ) where
  flow_take : (n : ℕ) (x : Record) → let q = where_is b n in q < 64 → Flow p b (cond (eqb p q) (x ∷ []) []) (took_at b q x)
  unfolding taken_in
  flow_take n x h = go (leb (length (at b q).lane) 0) refl
    where
      q : ℕ
      q = where_is b n

      put : (y : Place) → y.lane ≡ (at b q).lane ++ (x ∷ []) → (at b p).lane ++ cond (eqb p q) (x ∷ []) [] ≡ (pl (set b.places q y) p).lane
      put y e = by (ℕ_discrete p q)
        where
          by : Dec (p ≡ q) → (at b p).lane ++ cond (eqb p q) (x ∷ []) [] ≡ (pl (set b.places q y) p).lane
          by (yes f) = rw (f, eqb_yes q q refl, get_or-set_same b.places q y free_place (omega (arith, h, g.shape.all64))) (sym e)
          by (no f) = rw (eqb_no p q f, get_or-set_other b.places q p y free_place f) (append-nil (at b p).lane)

      go : (t : Bool) → leb (length (at b q).lane) 0 ≡ t
          → (at b p).lane ++ cond (eqb p q) (x ∷ []) [] ≡ (at (cond t (joining b q (joins b.clock (at b q) x)) (go_on b q (more (at b q) x))) p).lane
      go true e = put (joins b.clock (at b q) x) (ap (λ (l : List Record). l ++ (x ∷ [])) (sym (empty (at b q).lane (true_le (length (at b q).lane) 0 e))))
      go false e = put (more (at b q) x) refl

  -- a place whose lane is empty and stays so
  flow_empty : (q : ℕ) (y : Place) → q < 64 → (at b q).lane ≡ [] → y.lane ≡ [] → (at b p).lane ++ [] ≡ (pl (set b.places q y) p).lane
  flow_empty q y h was is = flow_kept b q y p (in_places b g.shape q h) (is ∙ sym was)

pub flow_step : (b : Board) (c : Single) → Tidy b → (p : ℕ) → Flow p b (took_one p b c (step b c).out) (step b c)
unfolding closed
flow_step b c g p = other_cases b (λ x u. Flow p b (took_one p b x u.out) u) (record {
  refused = λ x code r. rw (took_refused p b code x) (append-nil (at b p).lane);
  opens = λ w can.
      let x = at b (free_at b) in
      flow_empty b g p (free_at b) (opened w) can.inside (no_share b.largest x (g.shape.place_ok (free_at b)) can.free) refl;
  renames = λ old new can. flow_kept b (where_is b old) (renamed new (at b (where_is b old))) p (in_places b g.shape (where_is b old) can.has.inside) refl;
  closes = λ n can. flow_empty b g p (where_is b n) free_place can.has.inside (empty (at b (where_is b n)).lane (omega (arith, can.empty))) refl;
  takes = λ n x can. flow_take b g p n x can.has.inside;
})
    (serve_turns b (Flow p b [])
    (λ code u. append-nil (at b p).lane)
    (λ q e. flow_send b false q e g p)
    (λ r m. begun_flow b g r m.slot (least_of b r m.least) m.soon p)) c
