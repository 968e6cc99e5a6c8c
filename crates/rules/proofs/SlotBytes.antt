-- A slot sends at most 3L - 1 bytes: what is told of one slot's clock is within what the slot has left.
use mathlib.Core.Path.{◌≡◌, refl, sym, ap, subst, ◌∙◌}
use mathlib.Core.Bool.{Bool, true, false, cond, not, ◌&&◌}
use mathlib.Core.Logic.{◌⊎◌, inl, inr}
use mathlib.Core.Option.{Option, none, some}
use mathlib.Core.List.{List, [], ◌∷◌, ◌++◌}
use Prim.Native.Nat.{ℕ, suc, ◌+◌, ◌*◌, ◌-◌, ◌/◌, ◌≤◌, ◌<◌}
use native.Mathlib.Omega.{arith}
use native.Mathlib.Nat.{le_refl}
use native.Mathlib.Decide.{ℕ_discrete}
use lib.Dec.{leb, ltb, eqb}
use lib.ListN.{length, get_or, set, drop}
use lib.Seq.{get_or-set_same}
use Rattle.base.proofs.Numbers.{split, leb_yes, leb_no, eqb_yes, eqb_no, true_le}
use Rattle.units.specs.Credit.{largest_charge}
use Rattle.rules.specs.Board.{Record, no_record, bytes_charged, Place, free_place, Board, at, front, block_class}
use Rattle.rules.specs.Choice.{refused, Sending, sending, sent, Turn, is_none, left_of, left_after, go_on, joins, more, taken_in, emptied, short, going, ended}
use Rattle.rules.specs.Choice.{send_from, send}
use Rattle.rules.specs.Choice.{begin, chosen, upd, joining, took_at}
use Rattle.rules.specs.Blocks.{opened, free_at, renamed, closed}
use Rattle.rules.specs.Spoilt.{is_serving, is_at}
use Rattle.rules.specs.Calls.{Single, open!, record!, serve!, step, told}
use Rattle.rules.specs.Runs.{bytes_at, slot_bytes}
use Rattle.rules.proofs.Turns.{slot_bytes_left, most}
use Rattle.rules.proofs.Slot.{serving_ok, serving_in}
use Rattle.rules.proofs.Calls.{lane_out, share_out, set_field, slot_bytes_left_same, left_other}
use Rattle.rules.proofs.Tidy.{Tidy, tidy_begin}
use Rattle.rules.proofs.TidyCalls.{tidy_step}
use Rattle.rules.proofs.Cases.{CanTake, Begins, call_cases}
use Rattle.rules.proofs.Shape.{LeastIs, least_is}

-- what may still be told of the slot that begins, began or will begin at t
allowed : ℕ → ℕ → List Place → Option ℕ → ℕ → ℕ
allowed t clock l slot L = cond (ltb t clock) 0 (cond (eqb clock t && not (is_none slot)) (slot_bytes_left l slot) (most L))

abbrev allow : ℕ → Board → ℕ
allow t b = allowed t b.clock b.places b.slot b.largest

module _ (t clock : ℕ) (l : List Place) (slot : Option ℕ) (L : ℕ) where
  past : t < clock → allowed t clock l slot L ≡ 0
  unfolding allowed
  past h = rw (leb_yes (suc t) clock h)

  before : clock < t → allowed t clock l slot L ≡ most L
  unfolding allowed
  before h = rw (leb_no (suc t) clock (omega arith), eqb_no clock t (λ e. omega arith))

-- the slot is open at t
during : (t clock : ℕ) (l : List Place) (p L : ℕ) → clock ≡ t → allowed t clock l (some p) L ≡ slot_bytes_left l (some p)
unfolding allowed
during t clock l p L e = rw (leb_no (suc t) clock (omega arith), eqb_yes clock t e)

-- no slot is open, and t is not past
ahead_of : (t clock : ℕ) (l : List Place) (L : ℕ) → clock ≤ t → allowed t clock l none L ≡ most L
unfolding allowed
ahead_of t clock l L h = rw (leb_no (suc t) clock (omega arith)) (go (eqb clock t))
  where
    go : (u : Bool) → cond (u && false) (slot_bytes_left l none) (most L) ≡ most L
    go true = refl
    go false = refl

-- what the slot has left, in whole bytes
left_is : (b : Board) (p : ℕ) → Tidy b → b.slot ≡ some p
    → (bytes_charged (front (at b p)) ≤ slot_bytes_left b.places (some p)) × (slot_bytes_left b.places (some p) ≤ most b.largest)
    × (bytes_charged (front (at b p)) * 65536 ≤ left_of (at b p).stand)
unfolding slot_bytes_left most
left_is b p g e = (omega (arith, ok.2), omega (arith, ok.3), ok.2)
  where
    is_s : is_serving (at b p).stand ≡ true
    is_s = g.one p ∙ ap (is_at p) e ∙ eqb_yes p p refl

    ok : (1 ≤ length (at b p).lane) × (1 ≤ (at b p).share) × (bytes_charged (front (at b p)) * 65536 ≤ left_of (at b p).stand)
        × (left_of (at b p).stand < 3 * largest_charge b.largest * 65536)
    ok = serving_ok b.largest (at b p).share (at b p).lane (at b p).stand is_s (g.shape.place_ok p).stand_ok

slot_left_set : (l : List Place) (p : ℕ) (x : Place) → p < length l → slot_bytes_left (set l p x) (some p) ≡ left_of x.stand / 65536
unfolding slot_bytes_left
slot_left_set l p x h = ap (λ (y : Place). left_of y.stand / 65536) (get_or-set_same l p x free_place h)

left_now : (l : List Place) (p : ℕ) → slot_bytes_left l (some p) ≡ left_of (get_or l p free_place).stand / 65536
unfolding slot_bytes_left
left_now l p = refl

lt_of_ne : (a b : ℕ) → a ≤ b → (a ≡ b → ⊥) → a < b
lt_of_ne a b h n = go (split b a)
  where
    go : (b ≤ a) ⊎ (a < b) → a < b
    go (inl k) = absurd (n (omega arith))
    go (inr k) = k

-- a send takes its charge from what its slot has left
send_allow : (t : ℕ) (b : Board) (p : ℕ) → Tidy b → b.slot ≡ some p
    → cond (eqb b.clock t) (bytes_charged (front (at b p))) 0 + allow t (send_from b p) ≤ allow t b
unfolding send_from ended
send_allow t b p g e = go (leb (length (at b p).lane) 1) (ltb (left_after (at b p)) (bytes_charged (get_or (drop 1 (at b p).lane) 0 no_record) * 65536))
  where
    c : ℕ
    c = b.clock

    w : ℕ
    w = cond (eqb c t) (bytes_charged (front (at b p))) 0

    now : allow t b ≡ allowed t c b.places (some p) b.largest
    now = ap (λ (s : Option ℕ). allowed t c b.places s b.largest) e

    -- the slot ends
    over : (l : List Place) → w + allowed t (suc c) l none b.largest ≤ allow t b
    over l = rw now (by (split c t) (split t c))
      where
        by : (c ≤ t) ⊎ (t < c) → (t ≤ c) ⊎ (c < t) → w + allowed t (suc c) l none b.largest ≤ allowed t c b.places (some p) b.largest
        by (inr h) z = rw (eqb_no c t (λ q. omega arith)) (omega (arith, past t (suc c) l none b.largest (omega arith)))
        by (inl h) (inr k) =
            rw (eqb_no c t (λ q. omega arith)) (omega (arith, ahead_of t (suc c) l b.largest k, before t c b.places (some p) b.largest k))
        by (inl h) (inl k) =
            let q : c ≡ t = omega arith in
            rw (eqb_yes c t q) (omega (arith, past t (suc c) l none b.largest (omega arith), during t c b.places p b.largest q, (left_is b p g e).0))

    -- it stays open
    h64 : p < length b.places
    h64 = serving_in b.places p (g.one p ∙ ap (is_at p) e ∙ eqb_yes p p refl)

    rest : slot_bytes_left (set b.places p (going (at b p))) (some p) ≡ left_after (at b p) / 65536
    rest = slot_left_set b.places p (going (at b p)) h64

    open! : w + allowed t c (set b.places p (going (at b p))) b.slot b.largest ≤ allow t b
    open! = rw (e) (by (ℕ_discrete c t))
      where
        by : Dec (c ≡ t) → w + allowed t c (set b.places p (going (at b p))) (some p) b.largest ≤ allowed t c b.places (some p) b.largest
        by (yes q) =
            rw (eqb_yes c t q) (omega (
              arith,
              during t c (set b.places p (going (at b p))) p b.largest q,
              during t c b.places p b.largest q,
              rest,
              left_now b.places p,
              (left_is b p g e).2,
            ))
        by (no q) = rw (eqb_no c t q) (same (split c t))
          where
            same : (c ≤ t) ⊎ (t < c)
                → 0 + allowed t c (set b.places p (going (at b p))) (some p) b.largest ≤ allowed t c b.places (some p) b.largest
            same (inl h) =
                let k : c < t = lt_of_ne c t h q in
                omega (arith, before t c (set b.places p (going (at b p))) (some p) b.largest k, before t c b.places (some p) b.largest k)
            same (inr h) = omega (arith, past t c (set b.places p (going (at b p))) (some p) b.largest h)

    go : (u v : Bool) → w + allow t
        (cond u (ended b p (emptied (at b p)) b.orders)
        (cond v (ended b p (short c (at b p)) (upd b.orders (block_class (at b p)) (b.orders (block_class (at b p)) ++ (p ∷ []))))
        (go_on b p (going (at b p))))) ≤ allow t b
    go true v = over (set b.places p (emptied (at b p)))
    go false true = over (set b.places p (short c (at b p)))
    go false false = open!

pub begin_slot : (b : Board) (s : ℕ) → (begin b s).slot ≡ some (chosen b s)
unfolding begin
begin_slot b s = refl

-- a slot that begins has no more than was allowed for it
begin_allow : (t : ℕ) (b : Board) (r s p : ℕ) → Tidy b → Begins b r s p → Tidy (begin b s) → allow t (begin b s) ≤ allow t b
unfolding begin
begin_allow t b r s p g c gb = rw (ap (λ (z : Option ℕ). allowed t b.clock b.places z b.largest) c.slot) (by (split s t) (split t s))
  where
    l : List Place
    l = (begin b s).places

    q : ℕ
    q = chosen b s

    later : b.clock ≤ s
    later = omega (arith, c.time)

    by : (s ≤ t) ⊎ (t < s) → (t ≤ s) ⊎ (s < t) → allowed t s l (some q) b.largest ≤ allowed t b.clock b.places none b.largest
    by (inr h) z = omega (arith, past t s l (some q) b.largest h)
    by (inl h) (inr k) = omega (arith, before t s l (some q) b.largest k, ahead_of t b.clock b.places b.largest (omega arith))
    by (inl h) (inl k) =
        omega (arith, during t s l q b.largest (omega arith), (left_is (begin b s) q gb refl).1, ahead_of t b.clock b.places b.largest (omega arith))

-- the calls that send nothing leave the slot's rest
still : (t : ℕ) (b nb : Board) → nb.clock ≡ b.clock → nb.slot ≡ b.slot → nb.largest ≡ b.largest
    → slot_bytes_left nb.places b.slot ≡ slot_bytes_left b.places b.slot → allow t nb ≡ allow t b
unfolding allowed
still t b nb c s L e = rw (c, s, L, e)

bytes_at_lem : (t : ℕ) (b : Board) (s : Sending) → bytes_at t (told b (sent s)) ≡ cond (eqb s.clock t) (bytes_charged s.front) 0
unfolding bytes_charged
bytes_at_lem t b s = refl

module _ (t : ℕ) (b : Board) (g : Tidy b) where
  abbrev Pays : Single → Turn → Type 0
  Pays x u = bytes_at t (told b u.out) + allow t u.next ≤ allow t b

  same : (p : ℕ) (y : Place) → p < length b.places → y.stand ≡ (at b p).stand
      → slot_bytes_left (set b.places p y) b.slot ≡ slot_bytes_left b.places b.slot
  same p y h e = slot_bytes_left_same b.places (set b.places p y) b.slot (λ q. set_field (λ (x : Place). x.stand) b.places p y h e q)

  inside : (p : ℕ) → p < 64 → p < length b.places
  inside p h = omega (arith, g.shape.all64)

  pays_take : (p n : ℕ) (r : Record) → CanTake b p n r → Pays (record! n r) (took_at b p r)
  unfolding taken_in
  pays_take p n r c = omega (arith, go (leb (length (at b p).lane) 0) refl)
    where
      go : (u : Bool) → leb (length (at b p).lane) 0 ≡ u
          → allow t (cond u (joining b p (joins b.clock (at b p) r)) (go_on b p (more (at b p) r))) ≡ allow t b
      go true e =
          still t b (joining b p (joins b.clock (at b p) r)) refl refl refl
          (left_other b.places p (joins b.clock (at b p) r) b.slot
          (lane_out b.largest (at b p).share (at b p).lane (at b p).stand (true_le (length (at b p).lane) 0 e) (g.shape.place_ok p).stand_ok) g.one)
      go false e = still t b (go_on b p (more (at b p) r)) refl refl refl (same p (more (at b p) r) (inside p c.has.inside) refl)

  pays : (x : Single) → Pays x (step b x)
  unfolding closed send
  pays = call_cases b g Pays (record {
    refused = λ x code r. omega arith;
    opens =
        λ o c. omega (
          arith,
          still t b (go_on b (free_at b) (opened o)) refl refl refl
              (same (free_at b) (opened o) (inside (free_at b) c.inside)
              (sym (share_out b.largest (at b (free_at b)).share (at b (free_at b)).lane (at b (free_at b)).stand c.free
              (g.shape.place_ok (free_at b)).stand_ok))),
        );
    renames =
        λ p old new c. omega (
          arith,
          still t b (go_on b p (renamed new (at b p))) refl refl refl (same p (renamed new (at b p)) (inside p c.has.inside) refl),
        );
    closes =
        λ p n c. omega (
          arith,
          still t b (closed b p) refl refl refl
              (same p free_place (inside p c.has.inside)
              (sym (lane_out b.largest (at b p).share (at b p).lane (at b p).stand (omega (arith, c.empty)) (g.shape.place_ok p).stand_ok))),
        );
    takes = pays_take;
    goes_on = λ p c. omega (arith, bytes_at_lem t b (sending false b p), send_allow t b p g c.slot);
    begins = begins;
  })
    where
      begins : (r s p : ℕ) → Begins b r s p → p ≡ chosen b s → Pays serve! (send true (begin b s) p)
      begins r s p c e =
          subst (λ (q : ℕ). Pays serve! (send true (begin b s) q)) (sym e)
          (omega (
            arith,
            bytes_at_lem t b (sending true (begin b s) (chosen b s)),
            send_allow t (begin b s) (chosen b s) gb (begin_slot b s),
            begin_allow t b r s p g c gb,
          ))
        where
          gb : Tidy (begin b s)
          gb =
              subst (λ (z : ℕ). Tidy (begin b z)) (sym c.time)
              (tidy_begin b r c.slot (subst (LeastIs b.places) c.least (least_is b.places)) (rw (← c.time) c.soon) g)

-- and never more than 3L - 1 bytes
allow_most : (t : ℕ) (b : Board) → Tidy b → allow t b ≤ most b.largest
unfolding allowed
allow_most t b g = go (ltb t b.clock) (eqb b.clock t) b.slot refl
  where
    go : (u v : Bool) (s : Option ℕ) → b.slot ≡ s → cond u 0 (cond (v && not (is_none s)) (slot_bytes_left b.places s) (most b.largest)) ≤ most b.largest
    go true v s e = omega arith
    go false true (some p) e = (left_is b p g e).1
    go false true none e = le_refl (most b.largest)
    go false false (some p) e = le_refl (most b.largest)
    go false false none e = le_refl (most b.largest)

slot_row : (t : ℕ) (b : Board) (xs : List Single) → Tidy b → slot_bytes t b xs ≤ allow t b
unfolding slot_bytes
slot_row t b [] g = omega arith
slot_row t b (x ∷ xs) g = omega (arith, pays t b g x, slot_row t (step b x).next xs (tidy_step b x g))

pub slot_bytes_lem : (t : ℕ) (b : Board) (xs : List Single) → Tidy b → slot_bytes t b xs ≤ most b.largest
slot_bytes_lem t b xs g = omega (arith, slot_row t b xs g, allow_most t b g)
