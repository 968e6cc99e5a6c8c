-- THE THEOREMS: one for each proposition of specs/Demands.antt, in its order; those that speak of a passage, and has_life, stand in Passages.
use mathlib.Core.Path.{◌≡◌, refl, sym, ap, ap₂, subst, ◌∙◌}
use mathlib.Core.Bool.{Bool, true, false, cond, ◌||◌, true≢false, false≢true}
use mathlib.Core.Logic.{◌⊎◌, inl, inr, ◌≢◌}
use mathlib.Core.Option.{Option, none}
use mathlib.Core.List.{List, [], ◌∷◌, ◌++◌, map, append-nil}
use Prim.Native.Nat.{ℕ, zero, suc, ◌+◌, ◌*◌, ◌-◌, ◌^◌, ◌≤◌, ◌<◌}
use native.Mathlib.Omega.{arith}
use lib.ListN.{length, get_or, replicate, length-append, length-replicate}
use Rattle.base.proofs.Numbers.{eqb_yes, leb_yes}
use Rattle.units.specs.Classes.{Start, class_of}
use Rattle.units.specs.Credit.{largest_charge}
use Rattle.rules.specs.Board
use Rattle.rules.specs.Board.{Place, free_place, at, waits, some_wait, fresh, Has}
use Rattle.rules.specs.Choice.{Out, refused, done, taken, Sending, sent, send}
use Rattle.rules.specs.Blocks.{Opening}
use Rattle.rules.specs.Burst.{Burst, burst}
use Rattle.rules.specs.Calls.{Single, open!, rename!, close!, record!, serve!, step, Call, one, burst!, Sent, Answer, gives, takes, sends, bursts, told}
use Rattle.rules.specs.Calls.{code_of}
use Rattle.rules.specs.Calls.{make}
use Rattle.rules.specs.Runs
use Rattle.rules.specs.Runs.{play, runs, answer, lane_of, class_at, is_for, is_done, record_of, clock_of, is_serve, Story, begins, goes_on, tells}
use Rattle.rules.specs.Promises as Promised
use Rattle.rules.specs.Promises.{OfRun, Accounted, bound}
use Rattle.rules.proofs.Tidy.{Tidy}
use Rattle.rules.proofs.TidyCalls.{tidy_step}
use Rattle.rules.proofs.Conserve.{sent_one, flow_step}
use Rattle.rules.proofs.Cases.{serve_cases}
use Rattle.rules.proofs.Stories.{opened_by_lem}
use Rattle.rules.proofs.Names.{follows, has_find, has_lane, has_share}
use Rattle.rules.proofs.Promises
use Rattle.rules.proofs.Promises.{play_join}
use Rattle.board.specs.declared.Board as struct
use Rattle.board.specs.Reading.{view}
use Rattle.board.specs.Leaving.{Reply, Returned}
use Rattle.calls.specs.Promises.{called, made}
use Rattle.calls.specs.Contract.{Served, BurstOutcome, called_serve, called_burst}
use Rattle.board.specs.Memory.{Holding}
use Rattle.chains.specs.Chains.{reply_tells, served_tells, burst_tells, Did, by_reply, by_serve, by_burst, Chain, stops, goes, Made}
use Rattle.chains.specs.Demands.{reads, clock, bytes_in, slot_bytes, NoneRefused, NotSpent, Unsent, story, last_slot, slot_after, HasRow, SameBytes, Agrees}
use Rattle.chains.specs.Demands.{BurstIsServes, NeverRefused, Opened, Life, Conserved, SendsFront, ComesToFront, into_empty, next_up, StaysInFront}
use Rattle.chains.specs.Demands.{ServesSend, BurstSends, begins_slot, slots_in, WaitsAt, SlotsSmall, OnlyOne, HasChain}
use Rattle.chains.proofs.Chains.{did_agrees, chain_is_run}
use Rattle.chains.proofs.Rows.{At, at_made, at_tidy, at_on, at_did, said_of, Along, along, bytes_said, slot_bytes_said, story_said}
use Rattle.chains.proofs.Rows.{unsent_said, spent_said, spelt_bytes, burst_is, row_from}
use Rattle.chains.proofs.Slots.{LastSend, last_fresh, last_play, last_step, begins_said, slots_said}

-- ---- bursts

pub has_row : HasRow
has_row L s m e before cs told₁ told made! first chain = row_from (at_on L (at_made L s made!) first).good chain

pub same_bytes : SameBytes
same_bytes s e cs told xs said r = spelt_bytes r.spelt

pub burst_is_serves : BurstIsServes
burst_is_serves L s m before told₁ made! first bytes list r list' ids lens p =
    burst_is m bytes list r list' ids lens (at_on L (at_made L s made!) first).good p

-- ---- demand 1

not_refused : (L : ℕ) {s e : Holding} {cs : List Call} {told : List Answer} → At L s → Chain s cs told e → NoneRefused told
unfolding NoneRefused
not_refused L h stops = tt
not_refused L {s = s} h (goes {m = m} {c = c} {a = a} d rest) =
    let n = (Promises.never_spoilt L (reads s) h.run).1 c in
    let e = (did_agrees s m c a h.good d).told! in
    (λ z. n.not3 (ap code_of (sym e) ∙ z), λ z. n.not2 (ap code_of (sym e) ∙ z), not_refused L (at_did L h d) rest)

pub never_refused : NeverRefused
never_refused L s e cs told made! chain = not_refused L (at_made L s made!) chain

-- ---- a block, as the rules tell it

-- it has the place p, with that share, until it is closed
abbrev pub KeepsPlace : ℕ → Story → Board.Board → ℕ → Type 0
KeepsPlace share st b p = st.closed ≡ false → Has b p st.number × ((at b p).share ≡ share)

pub seat_step : (share : ℕ) (st : Story) (b : Board.Board) (p : ℕ) (x : Single) → Tidy b → KeepsPlace share st b p
    → KeepsPlace share (tells st.closed st x (answer b x)) (step b x).next p
seat_step share st b p x g s = go st.closed refl
  where
    go : (c : Bool) → st.closed ≡ c → KeepsPlace share (tells c st x (answer b x)) (step b x).next p
    go true e = λ f. absurd (true≢false (sym e ∙ f))
    go false e = λ c. let f = (follows b p st.number g (s e).0 x).stays c in (f.0, f.1 ∙ (s e).1)

seat_story : (share : ℕ) (st : Story) (b : Board.Board) (p : ℕ) (xs : List Single) → Tidy b → KeepsPlace share st b p
    → KeepsPlace share (Runs.story st b xs) (play b xs) p
unfolding Runs.story play
seat_story share st b p [] g s = s
seat_story share st b p (x ∷ xs) g s =
    seat_story share (tells st.closed st x (answer b x)) (step b x).next p xs (tidy_step b x g) (seat_step share st b p x g s)

-- what is known of a block on the board b after its story
record Lives (given : Opening) (st : Story) (b : Board.Board) : Type 0 where
  accounted : Accounted st b
  seat : st.closed ≡ false → (p : ℕ) × KeepsPlace given.share st b p

pub record FromOpening (L : ℕ) (given : Opening) (st : Story) (b : Board.Board) : Type 0 where
  pub from : Board.Board
  pub run : OfRun L from
  pub tidy : Tidy from
  pub opens : code_of (answer from (open! given)) ≡ 0
  pub xs : List Single
  pub is : b ≡ play (step from (open! given)).next xs
  pub tale : st ≡ Runs.story (begins given.number) (step from (open! given)).next xs

opening_lives : (L : ℕ) (given : Opening) (st : Story) (b : Board.Board) → FromOpening L given st b → Lives given st b
opening_lives L given st b o = rw (o.is, o.tale) (record {
  accounted = Promises.conserved_all L o.from o.run given o.xs o.opens;
  seat = λ c. let w = opened_by_lem o.from o.tidy given o.opens in (
    w.0,
    seat_story given.share (begins given.number) (step o.from (open! given)).next w.0 o.xs
        (tidy_step o.from (open! given) o.tidy) (λ _. (w.1, ap (λ (x : Place). x.share) w.2)),
  );
})

-- one call more
story_more : (st : Story) (b : Board.Board) (xs : List Single) (x : Single) → let t =
    Runs.story st b xs in Runs.story st b (xs ++ (x ∷ [])) ≡ tells t.closed t x (answer (play b xs) x)
unfolding Runs.story play
story_more st b [] x = refl
story_more st b (y ∷ xs) x = story_more (tells st.closed st y (answer b y)) (step b y).next xs x

play_more : (b : Board.Board) (xs : List Single) (x : Single) → (step (play b xs) x).next ≡ play b (xs ++ (x ∷ []))
unfolding play
play_more b xs x = play_join b xs (x ∷ [])

opening_more : (L : ℕ) (given : Opening) (st : Story) (b : Board.Board) (x : Single) → FromOpening L given st b
    → FromOpening L given (tells st.closed st x (answer b x)) (step b x).next
opening_more L given st b x o = record {
  from = o.from;
  run = o.run;
  tidy = o.tidy;
  opens = o.opens;
  xs = o.xs ++ (x ∷ []);
  is = ap (λ (z : Board.Board). (step z x).next) o.is ∙ play_more (step o.from (open! given)).next o.xs x;
  tale =
      ap₂ (λ (t : Story) (z : Board.Board). tells t.closed t x (answer z x)) o.tale o.is
      ∙ sym (story_more (begins given.number) (step o.from (open! given)).next o.xs x);
}

pub opened_at_lem : (L : ℕ) (given : Opening) (last : Option ℕ) (o : Holding) → Opened L given last o → At L o
opened_at_lem L given last o w = at_did L (at_on L (at_made L w.start w.made) w.row.chain) w.opens

pub life_at : (L : ℕ) (given : Opening) (st : Story) (last : Option ℕ) (e : Holding) → Life L given st last e → At L e
life_at L given st last e l = at_on L (opened_at_lem L given l.first l.opening l.opened) l.row.chain

unfoldable pub life_opening : (L : ℕ) (given : Opening) (st : Story) (last : Option ℕ) (e : Holding) → Life L given st last e → FromOpening L given st (reads e)
life_opening L given st last e l = record {
  from = reads w.before;
  run = h.run;
  tidy = at_tidy L w.before h;
  opens = ap code_of (sym d.told!);
  xs = l.xs;
  is = a.board ∙ ap (λ (b : Board.Board). play b l.xs) d.after;
  tale =
      sym l.told! ∙ ap (story (begins given.number) l.xs) a.answers ∙ story_said (begins given.number) (reads l.opening) l.xs
      ∙ ap (λ (b : Board.Board). Runs.story (begins given.number) b l.xs) d.after;
}
  where
    w : Opened L given l.first l.opening
    w = l.opened

    h : At L w.before
    h = at_on L (at_made L w.start w.made) w.row.chain

    d : Agrees w.before (one (open! given)) (gives 0) l.opening
    d = did_agrees w.before l.opening (one (open! given)) (gives 0) h.good w.opens

    a : Along (reads l.opening) l.xs l.said e
    a = along l.xs (opened_at_lem L given l.first l.opening w).good l.row.singles

-- ---- demand 2

pub conserved : Conserved
conserved L given st last e l = (opening_lives L given st (reads e) (life_opening L given st last e l)).accounted

-- a place that is sent from has an open block
abbrev pub Named : Board.Board → Out → Type 0
Named b (refused code) = Unit {0}
Named b done = Unit {0}
Named b (taken a) = Unit {0}
Named b (sent s) = Has b s.place (at b s.place).number

pub named : (b : Board.Board) → Tidy b → Named b (step b serve!).out
unfolding step send
named b g = serve_cases b g (λ t. Named b t.out) (record {
  unserved = λ code u r. tt;
  goes_on = λ p c. record { inside = c.inside; bought = c.bought; named = refl };
  begins = λ r t p c e. record { inside = c.inside; bought = c.bought; named = refl };
})

abbrev sent_by : Sent → Answer → Sent
sent_by s (gives code) = s
sent_by s (takes a) = s
sent_by s (sends a) = a
sent_by s (bursts r) = s

abbrev is_send : Answer → Bool
is_send (gives code) = false
is_send (takes a) = false
is_send (sends a) = true
is_send (bursts r) = false

pub sends_front : SendsFront
sends_front L s f g cs told' a made! chain d =
    subst (λ (z : Board.Board). lane_of b a.block ≡ record { number = a.number; bytes = a.bytes } ∷ lane_of z a.block) (sym w.after)
    (go (step b serve!).out refl (named b tidy) w.told!)
  where
    h : At L f
    h = at_on L (at_made L s made!) chain

    b : Board.Board
    b = reads f

    nb : Board.Board
    nb = (step b serve!).next

    tidy : Tidy b
    tidy = at_tidy L f h

    w : Agrees f (one serve!) (sends a) g
    w = did_agrees f g (one serve!) (sends a) h.good d

    here : (s : Sending) → let p = s.place in
        (step b serve!).out ≡ sent s → Has b p (at b p).number → lane_of b (at b p).number ≡ s.front ∷ lane_of nb (at b p).number
    here s e k =
        let p = s.place in
        let r = s.front in
        has_lane b p (at b p).number tidy k
        ∙ sym (append-nil (at b p).lane)
        ∙ flow_step b serve! tidy p
        ∙ ap (λ (o : Out). sent_one p o ++ (at nb p).lane) e
        ∙ ap (λ (u : Bool). cond u (r ∷ []) [] ++ (at nb p).lane) (eqb_yes p p refl)
        ∙ ap (λ (l : List Board.Record). r ∷ l)
        (sym (has_lane nb p (at b p).number (tidy_step b serve! tidy) ((follows b p (at b p).number tidy k serve!).stays refl).0))

    go : (o : Out) → (step b serve!).out ≡ o → Named b o → sends a ≡ told b o
        → lane_of b a.block ≡ record { number = a.number; bytes = a.bytes } ∷ lane_of nb a.block
    go (refused code) e k q = absurd (true≢false (ap is_send q))
    go done e k q = absurd (true≢false (ap is_send q))
    go (taken x) e k q = absurd (true≢false (ap is_send q))
    go (sent s) e k q =
        subst (λ (z : Sent). lane_of b z.block ≡ record { number = z.number; bytes = z.bytes } ∷ lane_of nb z.block) (sym (ap (sent_by a) q)) (here s e k)

-- ---- what was taken in and not sent stands in the lane

nothing_more : (s l : List Board.Record) → s ≡ s ++ l → l ≡ []
nothing_more s [] e = refl
nothing_more s (r ∷ l) e = absurd (omega (arith, ap length e, length-append s (r ∷ l)))

one_stands : (l : List Board.Record) → l ≢ [] → 1 ≤ length l
one_stands [] ne = absurd (ne refl)
one_stands (r ∷ l) ne = omega arith

-- not all that was taken in was sent: one waits
waits_in : (st : Story) (b : Board.Board) → Accounted st b → st.taken ≢ st.sent → (st.closed ≡ false) × (1 ≤ length (lane_of b st.number))
waits_in st b a ne = go st.closed refl
  where
    go : (c : Bool) → st.closed ≡ c → (st.closed ≡ false) × (1 ≤ length (lane_of b st.number))
    go true e = absurd (ne (a.when_closed e))
    go false e = (e, one_stands (lane_of b st.number) (λ l. ne ((a.when_open e).1 ∙ ap (λ (r : List Board.Record). st.sent ++ r) l ∙ append-nil st.sent)))

-- ---- demand 3

-- a call of a chain that brings a record to the front, as the rules tell it
record Fronted (L : ℕ) (given : Opening) (b : Board.Board) (n : ℕ) (x : Single) : Type 0 where
  comes : Runs.ComesToFront b n x
  class : class_at (step b x).next n ≡ class_of given.share

class_at_lem : (given : Opening) (st : Story) (b : Board.Board) → Tidy b → Lives given st b → st.closed ≡ false → class_at b st.number ≡ class_of given.share
class_at_lem given st b g l c = let w = l.seat c in let s = w.1 c in ap class_of (has_share b w.0 st.number g s.0 ∙ s.1)

fronted : (L : ℕ) (given : Opening) (st : Story) (b : Board.Board) (x : Single) (a : Answer) → a ≡ answer b x → Tidy b → Lives given st b
    → Lives given (goes_on st x (answer b x)) (step b x).next → st.closed ≡ false
    → ComesToFront st x a → Fronted L given b st.number x
fronted L given st b x a q g l l' c (into_empty r a' i e) = record {
  comes = Runs.into_empty r (ap is_done (sym q) ∙ i) (nothing_more st.sent (lane_of b st.number) (sym e ∙ (l.accounted.when_open c).1));
  class =
      class_at_lem given (goes_on st (record! st.number r) (answer b (record! st.number r))) (step b (record! st.number r)).next
      (tidy_step b (record! st.number r) g) l' refl;
}
fronted L given st b x a q g l l' c (next_up a' i ne) = record {
  comes = Runs.next_up sends! (waits_in (goes_on st serve! (answer b serve!)) (step b serve!).next l'.accounted some!).1;
  class = class_at_lem given (goes_on st serve! (answer b serve!)) (step b serve!).next (tidy_step b serve! g) l' refl;
}
  where
    sends! : is_for st.number (answer b serve!) ≡ true
    sends! = ap (is_for st.number) (sym q) ∙ i

    some! : st.taken ++ [] ≢ st.sent ++ Runs.sent_for st.number (answer b serve!)
    some! e =
        ne (sym (append-nil st.taken) ∙ e ∙ ap (λ (t : Bool). st.sent ++ cond t (record_of (answer b serve!)) []) sends!
        ∙ ap (λ (z : Answer). st.sent ++ record_of z) (sym q))

-- what a chain tells of a block, one call of it more
record OneCallOn (L : ℕ) (given : Opening) (st : Story) (f : Holding) (x : Single) (a : Answer) (g : Holding) : Type 0 where
  here : At L f
  lives : Lives given st (reads f)
  next : Lives given (goes_on st x (answer (reads f) x)) (step (reads f) x).next
  is : a ≡ answer (reads f) x
  after : reads g ≡ (step (reads f) x).next
  there : At L g

one_call_on : (L : ℕ) (given : Opening) (st : Story) (last : Option ℕ) (f g : Holding) (x : Single) (a : Answer) → Life L given st last f → st.closed ≡ false
    → Did f (one x) a g → OneCallOn L given st f x a g
one_call_on L given st last f g x a l c d = record {
  here = h;
  lives = opening_lives L given st (reads f) o;
  next =
      subst (λ (t : Bool). Lives given (tells t st x (answer (reads f) x)) (step (reads f) x).next) c
      (opening_lives L given _ (step (reads f) x).next (opening_more L given st (reads f) x o));
  is = w.told!;
  after = w.after;
  there = at_did L h d;
}
  where
    h : At L f
    h = life_at L given st last f l

    o : FromOpening L given st (reads f)
    o = life_opening L given st last f l

    w : Agrees f (one x) a g
    w = did_agrees f g (one x) a h.good d

told_front : (L : ℕ) (given : Opening) (st : Story) (f g : Holding) (x : Single) (a : Answer) → OneCallOn L given st f x a g → st.closed ≡ false
    → ComesToFront st x a → Fronted L given (reads f) st.number x
told_front L given st f g x a t c z = fronted L given st (reads f) x a t.is (at_tidy L f t.here) t.lives t.next c z

-- The byte bound, its time and the slot promises at a call of a chain, over any single calls after it: Passages has them at every moment.
module _ (L : ℕ) (given : Opening) (st : Story) (last : Option ℕ) (f g e : Holding) (x : Single) (a : Answer) (xs : List Single) (said : List Answer)
    (l : Life L given st last f) (d : Did f (one x) a g) (r : Chain g (map one xs) said e) (s! : StaysInFront st x a xs said) where
  t : OneCallOn L given st f x a g
  t = one_call_on L given st last f g x a l s!.still d

  w : Fronted L given (reads f) st.number x
  w = told_front L given st f g x a t s!.still s!.comes

  s : Along (reads g) xs said e
  s = along xs t.there.good r

  unsent : Runs.Unsent st.number (step (reads f) x).next xs
  unsent =
      subst (λ (b : Board.Board). Runs.Unsent st.number b xs) t.after
      (unsent_said st.number (reads g) xs (subst (Unsent st.number xs) s.answers s!.unsent))

  pub byte_bound_from : bytes_in said ≤ bound L (class_of given.share)
  byte_bound_from =
      subst (λ (k : ℕ). bytes_in said ≤ bound L k) w.class
      (subst (λ (n : ℕ). n ≤ bound L (class_at (step (reads f) x).next st.number)) (sym count)
      (Promises.byte_bound L (reads f) t.here.run st.number x xs w.comes unsent))
    where
      count : bytes_in said ≡ Runs.bytes_in (step (reads f) x).next xs
      count = ap bytes_in s.answers ∙ bytes_said (reads g) xs ∙ ap (λ (b : Board.Board). Runs.bytes_in b xs) t.after

  pub sent_in_time_from : NotSpent said → Runs.serves_in xs ≤ bound L (class_of given.share)
  sent_in_time_from v =
      subst (λ (k : ℕ). Runs.serves_in xs ≤ bound L k) w.class (Promises.sent_in_time L (reads f) t.here.run st.number x xs w.comes unsent spent)
    where
      spent : Runs.NotSpent (step (reads f) x).next xs
      spent = subst (λ (b : Board.Board). Runs.NotSpent b xs) t.after (spent_said (reads g) xs (subst NotSpent s.answers v))

-- a place whose lane holds a record waits
some_wait_lem : (l : List Place) (p : ℕ) → 1 ≤ length (get_or l p free_place).lane → some_wait l ≡ true
unfolding some_wait
some_wait_lem [] p w = absurd (omega arith)
some_wait_lem (x ∷ xs) zero w = rw (leb_yes 1 (length x.lane) w)
some_wait_lem (x ∷ xs) (suc p) w = rw (some_wait_lem xs p w) (or_true (waits x))
  where
    or_true : (t : Bool) → t || true ≡ true
    or_true true = refl
    or_true false = refl

-- a block of which not all was sent makes every serve send, or give 11
serve_waiting : (L : ℕ) (given : Opening) (st : Story) (last : Option ℕ) (f : Holding) → Life L given st last f → st.closed ≡ false → st.taken ≢ st.sent
    → (answer (reads f) serve! ≡ gives 11) ⊎ ((s : Sent) × (answer (reads f) serve! ≡ sends s))
serve_waiting L given st last f l c ne = Promises.serves_send L (reads f) h.run (some_wait_lem (reads f).places w.0 waiting)
  where
    h : At L f
    h = life_at L given st last f l

    lives : Lives given st (reads f)
    lives = opening_lives L given st (reads f) (life_opening L given st last f l)

    w : (p : ℕ) × KeepsPlace given.share st (reads f) p
    w = lives.seat c

    waiting : 1 ≤ length (at (reads f) w.0).lane
    waiting =
        subst (λ (r : List Board.Record). 1 ≤ length r) (has_lane (reads f) w.0 st.number (at_tidy L f h) (w.1 c).0)
        (waits_in st (reads f) lives.accounted ne).1

pub serves_send : ServesSend
serves_send L given st last f g a l c ne d =
    subst (λ (z : Answer). (z ≡ gives 11) ⊎ ((s : Sent) × (z ≡ sends s))) (sym (did_agrees f g (one serve!) a (life_at L given st last f l).good d).told!)
    (serve_waiting L given st last f l c ne)

-- how many records a burst tells of
abbrev pub count_by : Answer → ℕ
count_by (gives code) = 0
count_by (takes a) = 0
count_by (sends a) = 0
count_by (bursts r) = r.count

pub burst_sends : BurstSends
burst_sends L given st last s f g cs told bytes list r made! chain d l c ne = go i.stop
  where
    h : At L f
    h = at_on L (at_made L s made!) chain

    B : Burst
    B = burst (reads f) bytes (length list)

    i : Promised.IsServes (reads f) bytes (length list) B
    i = Promises.burst_is_serves (reads f) bytes (length list)

    w : Agrees f (burst! bytes list) (bursts r) g
    w = did_agrees f g (burst! bytes list) (bursts r) h.good d

    code : r.code ≡ B.code
    code = ap code_of w.told!

    stops_by : (answer (reads g) serve! ≡ gives 11) ⊎ ((z : Sent) × (answer (reads g) serve! ≡ sends z)) → answer (reads g) serve! ≡ gives B.code
        → r.code ≡ 11
    stops_by (inl e) q = code ∙ ap code_of (sym q ∙ e)
    stops_by (inr (z, e)) q = absurd (false≢true (ap is_send (sym q ∙ e)))

    go : Promised.Stopped bytes (length list) B → (r.code ≡ 11) ⊎ (((r.code ≡ 14) × (r.count ≡ length list)) ⊎ (r.code ≡ 13))
    go (Promised.by_call q) = inl (stops_by (serve_waiting L given st last g l c ne) (ap (λ (b : Board.Board). answer b serve!) w.after ∙ q))
    go (Promised.by_list z q n e) = inr (inl (code ∙ e, ap count_by w.told! ∙ n))
    go (Promised.by_bytes z q n m e) = inr (inr (code ∙ e))

-- ---- slots

pub made_fresh : (L : ℕ) (s : Holding) → Made L s → reads s ≡ fresh L
unfolding runs
made_fresh L s made! = (chain_is_run L s s [] [] made! stops).board

last_same : {u v : Option ℕ} {b c : Board.Board} → u ≡ v → b ≡ c → LastSend u b → LastSend v c
last_same {v = v} {b = b} e f s = subst (LastSend v) f (subst (λ (o : Option ℕ). LastSend o b) e s)

pub life_last : (L : ℕ) (given : Opening) (st : Story) (last : Option ℕ) (e : Holding) → Life L given st last e → LastSend last (reads e)
life_last L given st last e l =
    last_same (ap (last_slot l.first) (sym at_end.answers) ∙ l.latest) (sym at_end.board)
    (last_play l.first (reads l.opening) l.xs (at_tidy L l.opening o) opening)
  where
    w : Opened L given l.first l.opening
    w = l.opened

    m : At L w.start
    m = at_made L w.start w.made

    h : At L w.before
    h = at_on L m w.row.chain

    o : At L l.opening
    o = at_did L h w.opens

    at_end : Along (reads l.opening) l.xs l.said e
    at_end = along l.xs o.good l.row.singles

    a : Along (reads w.start) w.xs w.said w.before
    a = along w.xs m.good w.row.singles

    d : Agrees w.before (one (open! given)) (gives 0) l.opening
    d = did_agrees w.before l.opening (one (open! given)) (gives 0) h.good w.opens

    before : LastSend l.first (reads w.before)
    before =
        last_same (ap (last_slot none) (sym a.answers) ∙ w.latest) (sym a.board)
        (last_play none (reads w.start) w.xs (at_tidy L w.start m) (last_same {u = none} refl (sym (made_fresh L w.start w.made)) (last_fresh L)))

    opening : LastSend l.first (reads l.opening)
    opening =
        last_same (ap (slot_after l.first) (sym d.told!)) (sym d.after)
        (last_step l.first (reads w.before) (open! given) (at_tidy L w.before h) before)

pub clock_reads : (s : Holding) → (reads s).clock ≡ clock s
unfolding view
clock_reads s = refl

said_more : (b : Board.Board) (x : Single) (xs : List Single) (a : Answer) (said : List Answer) → a ≡ answer b x → said ≡ said_of (step b x).next xs
    → a ∷ said ≡ said_of b (x ∷ xs)
unfolding said_of
said_more b x xs a said e f = ap₂ (λ (z : Answer) (zs : List Answer). z ∷ zs) e f

pub slot_once_from : (L : ℕ) (given : Opening) (st : Story) (last : Option ℕ) (f g e : Holding) (a : Answer) (lo : ℕ) (xs : List Single) (said : List Answer)
    → Life L given st last f → Did f (one serve!) a g → Chain g (map one xs) said e
    → WaitsAt (class_of given.share) lo st last (clock f) a (clock g) → lo + 2 ^ class_of given.share ≤ clock e
    → slots_in lo (lo + 2 ^ class_of given.share) st.number last (serve! ∷ xs) (a ∷ said) ≡ 1
slot_once_from L given st last f g e a lo xs said l d r w h =
    subst (λ (k : ℕ). slots_in lo (lo + 2 ^ k) st.number last (serve! ∷ xs) (a ∷ said) ≡ 1) q
    (ap (slots_in lo (lo + 2 ^ class_at b st.number) st.number last (serve! ∷ xs))
    (said_more b serve! xs a said t.is (s.answers ∙ ap (λ (z : Board.Board). said_of z xs) t.after))
    ∙ slots_said lo (lo + 2 ^ class_at b st.number) st.number last b (serve! ∷ xs) tidy seen
    ∙ Promises.slot_once L b t.here.run st.number lo serve! xs waiting
    (subst (λ (k : ℕ). lo + 2 ^ k ≤ (play (step b serve!).next xs).clock) (sym q) reached))
  where
    b : Board.Board
    b = reads f

    t : OneCallOn L given st f serve! a g
    t = one_call_on L given st last f g serve! a l w.still d

    s : Along (reads g) xs said e
    s = along xs t.there.good r

    tidy : Tidy b
    tidy = at_tidy L f t.here

    seen : LastSend last b
    seen = life_last L given st last f l

    q : class_at b st.number ≡ class_of given.share
    q = class_at_lem given st b tidy t.lives w.still

    reached : lo + 2 ^ class_of given.share ≤ (play (step b serve!).next xs).clock
    reached =
        subst (λ (n : ℕ). lo + 2 ^ class_of given.share ≤ n)
        (sym (clock_reads e) ∙ ap (λ (z : Board.Board). z.clock) (s.board ∙ ap (λ (z : Board.Board). play z xs) t.after)) h

    still : ((goes_on st serve! a).taken ≢ (goes_on st serve! a).sent) ⊎ ((begins_slot st.number last a ≡ true) × (lo ≤ clock_of a))
        → (1 ≤ length (lane_of (step b serve!).next st.number)) ⊎ ((Runs.begins_slot st.number b serve! ≡ true) × (lo ≤ clock_of (answer b serve!)))
    still (inl ne) =
        inl (waits_in (goes_on st serve! (answer b serve!)) (step b serve!).next t.next.accounted
        (subst (λ (z : Answer). (goes_on st serve! z).taken ≢ (goes_on st serve! z).sent) t.is ne)).1
    still (inr (u, v)) =
        inr (
          sym (begins_said last b serve! st.number tidy seen) ∙ ap (begins_slot st.number last) (sym t.is) ∙ u,
          subst (λ (z : Answer). lo ≤ clock_of z) t.is v,
        )

    waiting : Promised.WaitsAt st.number lo b serve!
    waiting = record {
      start = subst (λ (k : ℕ). Start k lo) (sym q) w.start;
      early = subst (λ (n : ℕ). n < lo) (sym (clock_reads f)) w.early;
      reached = subst (λ (n : ℕ). lo ≤ n) (sym (clock_reads g) ∙ ap (λ (z : Board.Board). z.clock) t.after) w.reached;
      before = (waits_in st b t.lives.accounted w.before).1;
      after = still w.after;
    }

pub never_twice_from : (L : ℕ) (given : Opening) (st : Story) (last : Option ℕ) (f e : Holding) (lo : ℕ) (xs : List Single) (said : List Answer)
    → Life L given st last f → st.closed ≡ false → Chain f (map one xs) said e → Start (class_of given.share) lo
    → slots_in lo (lo + 2 ^ class_of given.share) st.number last xs said ≤ 1
never_twice_from L given st last f e lo xs said l c r start =
    subst (λ (k : ℕ). slots_in lo (lo + 2 ^ k) st.number last xs said ≤ 1) q
    (subst (λ (n : ℕ). n ≤ 1) (sym count)
    (Promises.never_twice L b h.run st.number p.0 lo xs (has_find b p.0 st.number tidy (p.1 c).0)
    (subst (λ (k : ℕ). Start k lo) (sym q) start)))
  where
    b : Board.Board
    b = reads f

    h : At L f
    h = life_at L given st last f l

    tidy : Tidy b
    tidy = at_tidy L f h

    lives : Lives given st b
    lives = opening_lives L given st b (life_opening L given st last f l)

    p : (p : ℕ) × KeepsPlace given.share st b p
    p = lives.seat c

    q : class_at b st.number ≡ class_of given.share
    q = class_at_lem given st b tidy lives c

    hi : ℕ
    hi = lo + 2 ^ class_at b st.number

    count : slots_in lo hi st.number last xs said ≡ Runs.slots_in lo hi st.number b xs
    count =
        ap (slots_in lo hi st.number last xs) (along xs h.good r).answers
        ∙ slots_said lo hi st.number last b xs tidy (life_last L given st last f l)

pub slots_small : SlotsSmall
slots_small L s e cs told xs said made! r t =
    let h = at_made L s made! in
    subst (λ (n : ℕ). n ≤ 3 * largest_charge L - 1) (sym (ap (slot_bytes t) (along xs h.good r.singles).answers ∙ slot_bytes_said t (reads s) xs))
    (Promises.slots_small L (reads s) h.run t xs)

-- ---- no second answer

reply_of : Holding → Single → Returned Reply
reply_of s x = called s.board s.ids s.lens x

serve_of : Holding → Returned Served
serve_of s = called_serve s.board s.ids s.lens

burst_of : Holding → ℕ → List ℕ → Returned BurstOutcome
burst_of s bytes list = called_burst s.board s.ids s.lens bytes list

-- what a call answers and leaves, by its promise
abbrev gave : Holding → Call → Answer
gave s (one x) = cond (is_serve x) (served_tells (serve_of s).reply) (reply_tells x (reply_of s x).reply)
gave s (burst! bytes list) = burst_tells (burst_of s bytes list).reply.answer

abbrev hold : struct.Board → List ℕ → List ℕ → Holding
hold b ids lens = record { board = b; ids = ids; lens = lens }

abbrev left : Holding → Call → Holding
left s (one x) =
    cond (is_serve x) (hold (serve_of s).reply.board (serve_of s).ids (serve_of s).lens)
    (hold (reply_of s x).reply.board (reply_of s x).ids (reply_of s x).lens)
left s (burst! bytes list) = hold (burst_of s bytes list).reply.answer.board (burst_of s bytes list).ids (burst_of s bytes list).lens

did_gave : {s m : Holding} {c : Call} {a : Answer} → Did s c a m → (a ≡ gave s c) × (m ≡ left s c)
unfolding reply_of serve_of burst_of
did_gave (by_reply x e r ids lens p) =
    rw e (ap (λ (w : Returned Reply). reply_tells x w.reply) p, ap (λ (w : Returned Reply). hold w.reply.board w.ids w.lens) p)
did_gave (by_serve r ids lens p) =
    (ap (λ (w : Returned Served). served_tells w.reply) p, ap (λ (w : Returned Served). hold w.reply.board w.ids w.lens) p)
did_gave (by_burst bytes list r list' ids lens p) = (
  ap (λ (w : Returned BurstOutcome). burst_tells w.reply.answer) p,
  ap (λ (w : Returned BurstOutcome). hold w.reply.answer.board w.ids w.lens) p,
)

all_gave : Holding → List Call → List Answer
all_gave s [] = []
all_gave s (c ∷ cs) = gave s c ∷ all_gave (left s c) cs

all_left : Holding → List Call → Holding
all_left s [] = s
all_left s (c ∷ cs) = all_left (left s c) cs

chain_gave : {s e : Holding} {cs : List Call} {told : List Answer} → Chain s cs told e → (told ≡ all_gave s cs) × (e ≡ all_left s cs)
unfolding all_gave all_left
chain_gave stops = (refl, refl)
chain_gave (goes {cs = cs} d rest) =
    let w = did_gave d in
    let r = chain_gave rest in (
      ap₂ (λ (x : Answer) (xs : List Answer). x ∷ xs) w.0 (r.0 ∙ ap (λ (m : Holding). all_gave m cs) w.1),
      r.1 ∙ ap (λ (m : Holding). all_left m cs) w.1,
    )

pub only_one : OnlyOne
only_one s e e' cs told told' c c' = let w = chain_gave c in let w' = chain_gave c' in (w.0 ∙ sym w'.0, w.1 ∙ sym w'.1)

-- ---- no promise is empty

did_reply : (s : Holding) (x : Single) → is_serve x ≡ false → (a : Answer) × (m : Holding) × Did s (one x) a m
did_reply s x e =
    let w = called s.board s.ids s.lens x in
    (reply_tells x w.reply, hold w.reply.board w.ids w.lens, by_reply x e w.reply w.ids w.lens refl)

-- each call can be made of any value
pub has_did : (s : Holding) (c : Call) → (a : Answer) × (m : Holding) × Did s c a m
has_did s (one (open! o)) = did_reply s (open! o) refl
has_did s (one (rename! old new)) = did_reply s (rename! old new) refl
has_did s (one (close! n)) = did_reply s (close! n) refl
has_did s (one (record! n r)) = did_reply s (record! n r) refl
has_did s (one serve!) =
    let w = called_serve s.board s.ids s.lens in
    (served_tells w.reply, hold w.reply.board w.ids w.lens, by_serve w.reply w.ids w.lens refl)
has_did s (burst! bytes list) =
    let w = called_burst s.board s.ids s.lens bytes list in (
      burst_tells w.reply.answer,
      hold w.reply.answer.board w.ids w.lens,
      by_burst bytes list w.reply.answer w.reply.list w.ids w.lens refl,
    )

pub chain_of : (s : Holding) (cs : List Call) → (told : List Answer) × (e : Holding) × Chain s cs told e
chain_of s [] = ([], s, stops)
chain_of s (c ∷ cs) = let d = has_did s c in let r = chain_of d.1 cs in (d.0 ∷ r.0, r.1, goes d.2 r.2)

made_done : (ids lens : List ℕ) (L : ℕ) → length ids ≡ 2048 → length lens ≡ 2048 → 64 ≤ L → L ≤ 2048 → (made ids lens L).reply.code ≡ 0
unfolding made make
made_done ids lens L e f low high = rw (e, f, leb_yes 64 L low, leb_yes L 2048 high)

pub has_chain : HasChain
has_chain L range cs = (
  s,
  c.0,
  c.1,
  record
      { reply = w.reply; ids = zeros; lens = zeros; promise = refl; done = made_done zeros zeros L all all range.low range.high; board = refl },
  c.2,
)
  where
    zeros : List ℕ
    zeros = replicate 2048 0

    all : length zeros ≡ 2048
    all = length-replicate {A = ℕ} 2048 0

    w : Returned Reply
    w = made zeros zeros L

    s : Holding
    s = record { board = w.reply.board; ids = w.ids; lens = w.lens }

    c : (told : List Answer) × (e : Holding) × Chain s cs told e
    c = chain_of s cs
