-- Demand 3, its bytes and its serves, said of a block by its number.
use mathlib.Core.Path.{◌≡◌, refl, sym, ap, ap₂, subst, ◌∙◌}
use mathlib.Core.Bool.{Bool, true, false, cond, true≢false, false≢true}
use mathlib.Core.Logic.{inl, inr, ◌≢◌}
use mathlib.Core.List.{List, [], ◌∷◌}
use Prim.Native.Nat.{ℕ, ◌+◌, ◌-◌, ◌≤◌, ◌<◌}
use native.Mathlib.Omega.{arith}
use lib.Dec.{leb}
use lib.ListN.{length, length-append}
use lib.Seq.{get_or-set_same}
use Rattle.base.proofs.Numbers.{eqb_true, eqb_yes}
use Rattle.rules.specs.Board.{Record, Board, at, bytes_charged, free_place, Has}
use Rattle.rules.specs.Choice.{Out, refused, done, taken, sent, where_is, send, taken_in, joining, joins, go_on, more}
use Rattle.rules.specs.Calls.{Single, record!, serve!, step, told}
use Rattle.rules.specs.Runs.{answer, is_done, number_after, closes, is_for, class_at, bytes_of, bytes_in, Unsent, ComesToFront, into_empty, next_up, NotSpent}
use Rattle.rules.specs.Runs.{serves_in}
use Rattle.rules.specs.Promises.{bound}
use Rattle.rules.proofs.Turns.{Good, in_line, bytes_sent, from_place, most, Keeps, lane_some, is_sent}
use Rattle.rules.proofs.Run.{keeps_step, sent_bytes, UnsentAt, ToFront, front_waits, bound_good}
use Rattle.rules.proofs.Live.{bound_serves}
use Rattle.rules.proofs.Tidy.{Tidy}
use Rattle.rules.proofs.TidyCalls.{tidy_step}
use Rattle.rules.proofs.Cases.{refusal_not0, take_cases, serve_cases}
use Rattle.rules.proofs.Names.{Follows, follows, has_lane, has_share}

-- what is told of a send is what was sent
pub bytes_told : (b : Board) (o : Out) → bytes_of (told b o) ≡ bytes_sent o
unfolding bytes_charged
bytes_told b (refused code) = refl
bytes_told b done = refl
bytes_told b (taken a) = refl
bytes_told b (sent s) = refl

pub bytes_row : (b : Board) (xs : List Single) → bytes_in b xs ≡ sent_bytes b xs
unfolding bytes_in sent_bytes
bytes_row b [] = refl
bytes_row b (x ∷ xs) = ap₂ (λ (u v : ℕ). u + v) (bytes_told b (step b x).out) (bytes_row (step b x).next xs)

-- a block that waits cannot be closed
pub waits_open : (b : Board) (p n : ℕ) (x : Single) → Tidy b → Good b → Has b p n → in_line (at b p).stand ≡ true → closes n x (answer b x) ≡ false
waits_open b p n x t g h w = go (closes n x (answer b x)) refl
  where
    go : (c : Bool) → closes n x (answer b x) ≡ c → c ≡ false
    go false e = refl
    go true e =
        absurd (omega (
          arith,
          lane_some b.largest (at b p).share (at b p).lane (at b p).stand w (g.fine.shape.place_ok p).stand_ok,
          ((follows b p n t h x).ends e).0,
        ))

unsent_at : (b : Board) (p n : ℕ) (xs : List Single) → Tidy b → Good b → Has b p n → in_line (at b p).stand ≡ true → Unsent n b xs → UnsentAt p b xs
unfolding Unsent UnsentAt
unsent_at b p n [] t g h w u = tt
unsent_at b p n (x ∷ xs) t g h w u = (
  quiet!,
  unsent_at (step b x).next p (number_after n x (answer b x)) xs (tidy_step b x t) k.good (f.stays (waits_open b p n x t g h w)).0
      (k.stays p w quiet!).0 u.1,
)
  where
    f : Follows b p n x (step b x)
    f = follows b p n t h x

    k : Keeps b (step b x)
    k = keeps_step b x g

    quiet! : from_place p (step b x).out ≡ false
    quiet! = sym f.sent ∙ u.0

-- the block that a call brings a record to the front for: where it stands
record FrontAt (b : Board) (n p : ℕ) (x : Single) : Type 0 where
  has : Has b p n
  after : Has (step b x).next p n
  front : ToFront b x p

taken_length : (b : Board) (p : ℕ) (r : Record) → p < length b.places → 1 ≤ length (at (taken_in b p r) p).lane
unfolding taken_in
taken_length b p r h = go (leb (length (at b p).lane) 0)
  where
    go : (t : Bool) → 1 ≤ length (at (cond t (joining b p (joins b.clock (at b p) r)) (go_on b p (more (at b p) r))) p).lane
    go true = rw (get_or-set_same b.places p (joins b.clock (at b p) r) free_place h) (omega arith)
    go false = rw (get_or-set_same b.places p (more (at b p) r) free_place h, length-append (at b p).lane (r ∷ [])) (omega arith)

-- a record that is taken has its block's place, and so has one that is sent
took_by : (b : Board) → Tidy b → (n : ℕ) (r : Record) → is_done (answer b (record! n r)) ≡ true
    → (p : ℕ) × (Has b p n) × (1 ≤ length (at (step b (record! n r)).next p).lane)
took_by b g n r = take_cases b n r (λ u. is_done (told b u.out) ≡ true → (p : ℕ) × (Has b p n) × (1 ≤ length (at u.next p).lane))
    (λ code k e. absurd (true≢false (sym e ∙ refusal_not0 code k)))
    (λ c e. let p = where_is b n in (p, c.has, taken_length b p r (omega (arith, c.has.inside, g.shape.all64))))

sent_by_lem : (b : Board) → Tidy b → is_sent (step b serve!).out ≡ true
    → (p : ℕ) × (Has b p (at b p).number) × (from_place p (step b serve!).out ≡ true)
unfolding step send
sent_by_lem b g = serve_cases b g (λ u. is_sent u.out ≡ true → (p : ℕ) × (Has b p (at b p).number) × (from_place p u.out ≡ true)) (record {
  unserved = λ code u k e. absurd (false≢true e);
  goes_on = λ p c e. (p, record { inside = c.inside; bought = c.bought; named = refl }, eqb_yes p p refl);
  begins = λ r t p c q e. (p, record { inside = c.inside; bought = c.bought; named = refl }, eqb_yes p p refl);
})

for_sent : (n : ℕ) (b : Board) (o : Out) → is_for n (told b o) ≡ true → is_sent o ≡ true
for_sent n b (refused code) e = absurd (false≢true e)
for_sent n b done e = absurd (false≢true e)
for_sent n b (taken a) e = absurd (false≢true e)
for_sent n b (sent s) e = refl

for_number : (n p : ℕ) (b : Board) (o : Out) → is_for n (told b o) ≡ true → from_place p o ≡ true → (at b p).number ≡ n
for_number n p b (refused code) e f = absurd (false≢true e)
for_number n p b done e f = absurd (false≢true e)
for_number n p b (taken a) e f = absurd (false≢true e)
for_number n p b (sent s) e f = let q = s.place in ap (λ (z : ℕ). (at b z).number) (eqb_true p q f) ∙ sym (eqb_true n (at b q).number e)

fronted : (b : Board) (n : ℕ) (x : Single) → Tidy b → ComesToFront b n x → (p : ℕ) × FrontAt b n p x
fronted b n x t (into_empty r d e) = go (took_by b t n r d)
  where
    go : (p : ℕ) × (Has b p n) × (1 ≤ length (at (step b (record! n r)).next p).lane) → (p : ℕ) × FrontAt b n p (record! n r)
    go (p, h, l) =
        (p, record { has = h; after = ((follows b p n t h (record! n r)).stays refl).0; front = (l, inl (ap length (sym (has_lane b p n t h) ∙ e))) })
fronted b n x t (next_up e l) = go (sent_by_lem b t (for_sent n b (step b serve!).out e))
  where
    nb : Board
    nb = (step b serve!).next

    go : (p : ℕ) × (Has b p (at b p).number) × (from_place p (step b serve!).out ≡ true) → (p : ℕ) × FrontAt b n p serve!
    go (p, h, f) = (p, record { has = hn; after = ha; front = (rw (← has_lane nb p n (tidy_step b serve! t) ha) l, inr f) })
      where
        hn : Has b p n
        hn = subst (Has b p) (for_number n p b (step b serve!).out e f) h

        ha : Has nb p n
        ha = ((follows b p n t hn serve!).stays refl).0

pub bytes_bound : (b : Board) (n : ℕ) (x : Single) (after : List Single) → Tidy b → Good b → ComesToFront b n x → Unsent n (step b x).next after
    → bytes_in (step b x).next after ≤ bound (step b x).next.largest (class_at (step b x).next n)
unfolding most
bytes_bound b n x after t g c u = go (fronted b n x t c)
  where
    nb : Board
    nb = (step b x).next

    tn : Tidy nb
    tn = tidy_step b x t

    go : (p : ℕ) × FrontAt b n p x → bytes_in nb after ≤ bound nb.largest (class_at nb n)
    go (p, f) =
        rw (bytes_row nb after, has_share nb p n tn f.after)
        (bound_good b x after p g f.front (unsent_at nb p n after tn (keeps_step b x g).good f.after (front_waits b x p g f.front) u))

pub serves_bound : (b : Board) (n : ℕ) (x : Single) (after : List Single) → Tidy b → Good b → ComesToFront b n x → Unsent n (step b x).next after
    → NotSpent (step b x).next after
    → serves_in after ≤ bound (step b x).next.largest (class_at (step b x).next n)
unfolding most
serves_bound b n x after t g c u s = go (fronted b n x t c)
  where
    nb : Board
    nb = (step b x).next

    tn : Tidy nb
    tn = tidy_step b x t

    go : (p : ℕ) × FrontAt b n p x → serves_in after ≤ bound nb.largest (class_at nb n)
    go (p, f) =
        rw (has_share nb p n tn f.after)
        (bound_serves b x after p g f.front (unsent_at nb p n after tn (keeps_step b x g).good f.after (front_waits b x p g f.front) u) s)
