-- EVERY MOMENT of a chain, inside a burst too: its row is parted at any call, and there the demands hold of the block that was opened before it.
use mathlib.Core.Path.{◌≡◌, refl, sym, ap, ap₂, subst, ◌∙◌}
use mathlib.Core.Option.{Option, none}
use mathlib.Core.List.{List, [], ◌∷◌, ◌++◌, map}
use Prim.Native.Nat.{ℕ, suc, ◌+◌, ◌^◌}
use lib.ListN.{length, get_or, drop}
use lib.Seq.{get_or-append_seam}
use Rattle.units.specs.Classes.{class_of}
use Rattle.rules.specs.Board
use Rattle.rules.specs.Board.{fresh}
use Rattle.rules.specs.Burst.{burst}
use Rattle.rules.specs.Blocks.{Opening}
use Rattle.rules.specs.Calls.{Single, open!, serve!, step, Call, one, Answer, gives, told, code_of}
use Rattle.rules.specs.Runs
use Rattle.rules.specs.Runs.{runs, answer, Story, begins, tells}
use Rattle.rules.specs.Promises.{serves}
use Rattle.rules.proofs.Cases.{open_cases}
use Rattle.board.specs.Memory.{Holding}
use Rattle.chains.specs.Chains.{Did, Chain, stops, goes, Made, answers_of}
use Rattle.chains.specs.Demands.{reads, SpeltOut, over, single, as_serves, Row, story, last_slot, slot_after, Life, Chained, Parting, Passage}
use Rattle.chains.specs.Demands.{HasPassage, PassageLives, tale, last_of, later_last, ByteBound, SentInTime, SlotOnce, NeverTwice, slots_in, HasLife}
use Rattle.chains.proofs.Chains.{did_agrees, chain_from, chain_is_run}
use Rattle.chains.proofs.Rows.{map_join, at_made, at_on, along, story_said, chain_join, row_from}
use Rattle.chains.proofs.Demands.{byte_bound_from, sent_in_time_from, slot_once_from, never_twice_from, count_by, has_did, chain_of, has_chain}

-- ---- a row is parted

-- a chain of single calls in two parts; the parts of its answers are as long
record Parted (s : Holding) (xs ys : List Single) (said : List Answer) (e : Holding) : Type 0 where
  said₁ : List Answer
  said₂ : List Answer
  middle : Holding
  as_long : length said₁ ≡ length xs
  is : said ≡ said₁ ++ said₂
  to : Chain s (map one xs) said₁ middle
  on : Chain middle (map one ys) said₂ e

parted : {s e : Holding} (xs ys : List Single) {said : List Answer} → Chain s (map one (xs ++ ys)) said e → Parted s xs ys said e
parted {s = s} [] ys {said = said} c = record { said₁ = []; said₂ = said; middle = s; as_long = refl; is = refl; to = stops; on = c }
parted (x ∷ xs) ys (goes {a = a} d rest) =
    let t = parted xs ys rest in
    record {
      said₁ = a ∷ t.said₁;
      said₂ = t.said₂;
      middle = t.middle;
      as_long = ap suc t.as_long;
      is = ap (λ (r : List Answer). a ∷ r) t.is;
      to = goes d t.to;
      on = t.on;
    }

-- its first call
record FirstCall (s : Holding) (x : Single) (xs : List Single) (said : List Answer) (e : Holding) : Type 0 where
  a : Answer
  then : List Answer
  middle : Holding
  is : said ≡ a ∷ then
  did : Did s (one x) a middle
  on : Chain middle (map one xs) then e

first_call : {s e : Holding} (x : Single) (xs : List Single) {said : List Answer} → Chain s (map one (x ∷ xs)) said e → FirstCall s x xs said e
first_call x xs (goes {m = m} {a = a} {told = told} d rest) = record { a = a; then = told; middle = m; is = refl; did = d; on = rest }

pub has_passage : HasPassage
has_passage L c w e q = record {
  first_said = p.said₁;
  since_said = s.said₁;
  answered = d.a;
  during_said = l.said₁;
  rest_said = l.said₂;
  calls = e;
  answers = from_opening ∙ ap₂ (λ (a : Answer) (r : List Answer). p.said₁ ++ (a ∷ r)) zero! from_call;
  before = p.middle;
  opened = o.middle;
  f = s.middle;
  g = d.middle;
  h = l.middle;
  to_opening = p.to;
  opens = subst (λ (a : Answer). Did p.middle (one opening) a o.middle) zero! o.did;
  to_call = s.to;
  did = d.did;
  lasting = l.to;
  to_finish = l.on;
}
  where
    opening : Single
    opening = open! w.given

    p : Parted c.start w.first (opening ∷ (w.since ++ (w.at ∷ (w.during ++ w.rest)))) c.said c.finish
    p = parted w.first _ (subst (λ (xs : List Single). Chain c.start (map one xs) c.said c.finish) e c.row.singles)

    o : FirstCall p.middle opening (w.since ++ (w.at ∷ (w.during ++ w.rest))) p.said₂ c.finish
    o = first_call opening _ p.on

    s : Parted o.middle w.since (w.at ∷ (w.during ++ w.rest)) o.then c.finish
    s = parted w.since _ o.on

    d : FirstCall s.middle w.at (w.during ++ w.rest) s.said₂ c.finish
    d = first_call w.at _ s.on

    l : Parted d.middle w.during w.rest d.then c.finish
    l = parted w.during w.rest d.on

    from_opening : c.said ≡ p.said₁ ++ (o.a ∷ o.then)
    from_opening = p.is ∙ ap (λ (r : List Answer). p.said₁ ++ r) o.is

    from_call : o.then ≡ s.said₁ ++ (d.a ∷ (l.said₁ ++ l.said₂))
    from_call = s.is ∙ ap (λ (r : List Answer). s.said₁ ++ r) (d.is ∙ ap (λ (r : List Answer). d.a ∷ r) l.is)

    zero! : o.a ≡ gives 0
    zero! =
        sym (get_or-append_seam p.said₁ o.a o.then (gives 1))
        ∙ ap₂ (λ (said : List Answer) (i : ℕ). get_or said i (gives 1)) (sym from_opening) p.as_long
        ∙ q

-- ---- its moments have their lives

-- a chain of single calls is its own row
spelt_own : {s e : Holding} (xs : List Single) {said : List Answer} → Chain s (map one xs) said e → SpeltOut (map one xs) said xs said
spelt_own [] stops = over
spelt_own (x ∷ xs) (goes {a = a} d rest) = single x a (spelt_own xs rest)

own_row : {s e : Holding} (xs : List Single) {said : List Answer} → Chain s (map one xs) said e → Row s (map one xs) said xs said e
own_row xs c = record { chain = c; spelt = spelt_own xs c; singles = c }

story_join : {s e : Holding} (st : Story) (xs ys : List Single) {said : List Answer} (more : List Answer) → Chain s (map one xs) said e
    → story st (xs ++ ys) (said ++ more) ≡ story (story st xs said) ys more
unfolding story
story_join st [] ys more stops = refl
story_join st (x ∷ xs) ys more (goes {a = a} d rest) = story_join (tells st.closed st x a) xs ys more rest

last_join : (last : Option ℕ) (said more : List Answer) → last_slot last (said ++ more) ≡ last_slot (last_slot last said) more
unfolding last_slot
last_join last [] more = refl
last_join last (a ∷ said) more = last_join (slot_after last a) said more

-- the life that single calls after a passage's opening make
life_of : (L : ℕ) (c : Chained L) (w : Parting) (p : Passage L c w) (e : Holding) (xs : List Single) (said : List Answer)
    → Chain p.opened (map one xs) said e → Life L w.given (story (begins w.given.number) xs said) (last_slot (last_slot none p.first_said) said) e
life_of L c w p e xs said chain = record {
  first = last_slot none p.first_said;
  opening = p.opened;
  opened = record {
    start = c.start;
    made = c.made;
    cs = map one w.first;
    told = p.first_said;
    xs = w.first;
    said = p.first_said;
    before = p.before;
    row = own_row w.first p.to_opening;
    latest = refl;
    opens = p.opens;
  };
  cs = map one xs;
  told = said;
  xs = xs;
  said = said;
  row = own_row xs chain;
  latest = refl;
  told! = refl;
}

life_then : (L : ℕ) (c : Chained L) (w : Parting) (p : Passage L c w) → Life L w.given (tale p) (last_of p) p.f
life_then L c w p = life_of L c w p p.f w.since p.since_said p.to_call

pub passage_lives : PassageLives
passage_lives L c w p = (
  life_then L c w p,
  subst (λ (st : Story). Life L w.given st (later_last p) p.h) (story_join (begins w.given.number) w.since xs said p.to_call)
      (subst (λ (last : Option ℕ). Life L w.given (story (begins w.given.number) (w.since ++ xs) (p.since_said ++ said)) last p.h)
      (last_join (last_slot none p.first_said) p.since_said said) (life_of L c w p p.h (w.since ++ xs) (p.since_said ++ said) on)),
)
  where
    xs : List Single
    xs = w.at ∷ w.during

    said : List Answer
    said = p.answered ∷ p.during_said

    joined : Chain p.opened (map one w.since ++ map one xs) (p.since_said ++ said) p.h
    joined = chain_join p.to_call (goes p.did p.lasting)

    on : Chain p.opened (map one (w.since ++ xs)) (p.since_said ++ said) p.h
    on = subst (λ (cs : List Call). Chain p.opened cs (p.since_said ++ said) p.h) (sym (map_join one w.since xs)) joined

-- ---- demand 3

pub byte_bound : ByteBound
byte_bound L c w p =
    byte_bound_from L w.given (tale p) (last_of p) p.f p.g p.h w.at p.answered w.during p.during_said
    (life_then L c w p) p.did p.lasting

pub sent_in_time : SentInTime
sent_in_time L c w p =
    sent_in_time_from L w.given (tale p) (last_of p) p.f p.g p.h w.at p.answered w.during p.during_said
    (life_then L c w p) p.did p.lasting

pub slot_once : SlotOnce
slot_once L c w p lo is-serve waits ends =
    subst (λ (x : Single). slots_in lo hi (tale p).number (last_of p) (x ∷ w.during) (p.answered ∷ p.during_said) ≡ 1) (sym is-serve)
    (slot_once_from L w.given (tale p) (last_of p) p.f p.g p.h p.answered lo w.during p.during_said
    (life_then L c w p) served p.lasting waits ends)
  where
    hi : ℕ
    hi = lo + 2 ^ class_of w.given.share

    served : Did p.f (one serve!) p.answered p.g
    served = subst (λ (x : Single). Did p.f (one x) p.answered p.g) is-serve p.did

pub never_twice : NeverTwice
never_twice L c w p lo still =
    never_twice_from L w.given (tale p) (last_of p) p.f p.h lo (w.at ∷ w.during) (p.answered ∷ p.during_said)
    (life_then L c w p) still (goes p.did p.lasting)

-- ---- no promise is empty: stories with bursts

-- an opening that is done is answered 0
says_done : (b : Board.Board) (o : Opening) → code_of (told b (step b (open! o)).out) ≡ 0 → told b (step b (open! o)).out ≡ gives 0
says_done b o = open_cases b o (λ u. code_of (told b u.out) ≡ 0 → told b u.out ≡ gives 0) (λ code r e. ap gives e) (λ c e. refl)

-- the row of a chain is the rules' row of its calls
pub spelt_row : (b : Board.Board) {cs : List Call} {told said : List Answer} {xs : List Single} → SpeltOut cs told xs said → told ≡ answers_of b cs
    → xs ≡ Runs.row b cs
unfolding Runs.row answers_of
spelt_row b over e = refl
spelt_row b (single x a rest) e = ap (λ (xs : List Single). x ∷ xs) (spelt_row (step b x).next rest (ap (drop 1) e))
spelt_row b (as_serves bytes list r out n m rest) e =
    ap₂ (λ (i : ℕ) (xs : List Single). serves i ++ xs) (n ∙ ap (λ (told : List Answer). count_by (get_or told 0 (gives 0))) e)
    (spelt_row (burst b bytes (length list)).next rest (ap (drop 1) e))

pub has_life : HasLife
has_life L range before given after e = go (has_chain L range before)
  where
    b : Board.Board
    b = runs (fresh L) before

    o : Board.Board
    o = (step b (open! given)).next

    go : ((s : Holding) × (told : List Answer) × (m : Holding) × Made L s × Chain s before told m)
        → (last : Option ℕ) × (e : Holding) × Life L given (Runs.story (begins given.number) o (Runs.row o after)) last e × (reads e ≡ runs o after)
    go (s, told', m, made!, chain) =
        let h = at_on L (at_made L s made!) chain in
        let q = (chain_is_run L s m before told' made! chain).board in
        let r = row_from (at_made L s made!).good chain in
        let d = has_did m (one (open! given)) in
        let g = did_agrees m d.1 (one (open! given)) d.0 h.good d.2 in
        let code = subst (λ (z : Board.Board). code_of (answer z (open! given)) ≡ 0) (sym q) e in
        let zero! = g.told! ∙ says_done (reads m) given code in
        let opened! : reads d.1 ≡ o = g.after ∙ ap (λ (z : Board.Board). (step z (open! given)).next) q in
        let c = chain_of d.1 after in
        let t = chain_from g.good c.2 in
        let k = row_from g.good c.2 in
        let l = along k.0 g.good k.2.singles in
        let its-row = spelt_row (reads d.1) k.2.spelt t.2 ∙ ap (λ (z : Board.Board). Runs.row z after) opened! in (
          last_slot (last_slot none r.1) k.1,
          c.1,
          record {
            first = last_slot none r.1;
            opening = d.1;
            opened = record {
              start = s;
              made = made!;
              cs = before;
              told = told';
              xs = r.0;
              said = r.1;
              before = m;
              row = r.2;
              latest = refl;
              opens = subst (λ (z : Answer). Did m (one (open! given)) z d.1) zero! d.2;
            };
            cs = after;
            told = c.0;
            xs = k.0;
            said = k.1;
            row = k.2;
            latest = refl;
            told! = ap (story (begins given.number) k.0) l.answers ∙ story_said (begins given.number) (reads d.1) k.0
                ∙ ap₂ (λ (z : Board.Board) (xs : List Single). Runs.story (begins given.number) z xs) opened! its-row;
          },
          t.1 ∙ ap (λ (z : Board.Board). runs z after) opened!,
        )
