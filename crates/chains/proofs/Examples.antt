-- Chains that are computed: the worked log, with and without a burst; and chains that meet every premise of demand 3, at moments inside bursts.
use mathlib.Core.Path.{◌≡◌, refl, sym, ap, ap₂, subst, ◌∙◌}
use mathlib.Core.Bool.{false}
use mathlib.Core.Logic.{inl, inr, ◌≢◌}
use mathlib.Core.Option.{Option, none}
use mathlib.Core.List.{List, [], ◌∷◌, ◌++◌, map}
use Prim.Native.Nat.{ℕ, ◌+◌, ◌^◌, ◌≤◌}
use native.Mathlib.Omega.{arith}
use lib.ListN.{length, get_or, drop, take}
use Rattle.base.specs.Sums.{sum, below}
use Rattle.base.specs.Tests.{least}
use Rattle.units.specs.Classes.{Start, class_of, next_start}
use Rattle.units.specs.Credit.{framing, charged, largest_charge, credit_of}
use Rattle.rules.specs.Board
use Rattle.lanes.specs.Lanes.{ring_entry, ring_on, lane_depth, lane_first}
use Rattle.rules.specs.Board.{bytes_charged, entry, onward, some_wait, any_due, used_share, fresh}
use Rattle.rules.specs.Choice.{where_is, upd, taken_in, take_record, release, least_ready, settle, ended, send_from, send, lowest, begin, serve_by, serve}
use Rattle.rules.specs.Blocks.{Opening, opening, free_at, open_block, rename_block, quiet}
use Rattle.rules.specs.Burst.{burst}
use Rattle.rules.specs.Calls.{Single, open!, rename!, record!, serve!, step, Call, one, burst!, Answer, gives, takes, sends, bursts, code_of}
use Rattle.rules.specs.Runs
use Rattle.rules.specs.Runs.{play, answer, runs, serves_in, Story, begins}
use Rattle.rules.specs.Promises.{InRange}
use Rattle.rules.proofs.Examples
use Rattle.rules.proofs.Examples.{worked, tight, filled, waiting, renames}
use Rattle.accounts.specs.Accounts.{no_account, added}
use Rattle.accounts.specs.Promises.{account_of}
use Rattle.board.specs.Memory.{Holding}
use Rattle.chains.specs.Chains.{Did, Chain, stops, Made, answers_of}
use Rattle.chains.specs.Demands.{reads, clock, bytes_in, NotSpent, story, last_slot, Life, Chained, Parting, calls_of, Passage, Agrees}
use Rattle.chains.specs.Demands.{StaysInFront, into_empty, next_up, Unsent, slots_in, WaitsAt}
use Rattle.chains.specs.Accounts.{account_along}
use Rattle.chains.proofs.Chains.{did_agrees, chain_is_run}
use Rattle.chains.proofs.Rows.{At, at_made, at_on, at_did, said_of, Along, along, row_from}
use Rattle.chains.proofs.Demands.{made_fresh, clock_reads, has_chain}
use Rattle.chains.proofs.Accounts.{account_opened}
use Rattle.chains.proofs.Passages.{has_passage, spelt_row, has_life}

abbrev rec : ℕ → ℕ → Board.Record
rec n l = record { number = n; bytes = l }

abbrev took : Answer
took = takes (record { code = 0 })

abbrev out : ℕ → ℕ → ℕ → ℕ → Answer
out block number bytes clock = sends (record { block = block; number = number; bytes = bytes; clock = clock })

-- ---- the worked log of document 01

answers_said : (b : Board.Board) (xs : List Single) → said_of b xs ≡ Examples.answers b xs
unfolding said_of Examples.answers
answers_said b [] = refl
answers_said b (x ∷ xs) = ap (λ (r : List Answer). answer b x ∷ r) (answers_said (step b x).next xs)

-- Every chain of its thirteen calls gives these answers.
pub worked_chain : (s e : Holding) (told : List Answer) → Made 100 s → Chain s (map one worked) told e
    → told ≡ gives 0 ∷ gives 0 ∷ took ∷ took ∷ took ∷ took ∷ took ∷ out 11 1 100 2 ∷ out 11 2 60 4 ∷ out 12 3 100 5 ∷ out 12 4 100 8 ∷ out 12 5 100 8 ∷ gives 1
    ∷ []
worked_chain s e told made! c =
    (along worked (at_made 100 s made!).good c).answers
    ∙ answers_said (reads s) worked
    ∙ ap (λ (b : Board.Board). Examples.answers b worked) (made_fresh 100 s made!)
    ∙ (Examples.computed).worked_log

-- a burst in place of its serves
abbrev with_burst : List Call
with_burst = map one (take 7 worked) ++ (burst! 1000 (0 ∷ 0 ∷ 0 ∷ 0 ∷ 0 ∷ 0 ∷ []) ∷ [])

-- ---- chains served by bursts, and the moments of them that demand 3 speaks of

-- with L 100: of the first burst's four records the third is block 12's; both blocks are renamed, block 11 to 12; the second burst sends a record of
-- that one, and then the two that block 12 still has, under 13
abbrev filling : List Single
filling =
    open! (opening 11 32768) ∷ open! (opening 12 24576) ∷ record! 11 (rec 1 100) ∷ record! 11 (rec 2 100) ∷ record! 11 (rec 3 100) ∷ record! 11 (rec 4 100)
    ∷ record! 12 (rec 5 100) ∷ record! 12 (rec 6 100) ∷ record! 12 (rec 7 100) ∷ []

abbrev renaming : List Single
renaming = rename! 12 13 ∷ rename! 11 12 ∷ []

abbrev room : List ℕ
room = 0 ∷ 0 ∷ 0 ∷ 0 ∷ []

abbrev by_bursts : List Call
by_bursts = map one filling ++ (burst! 1000 room ∷ (map one renaming ++ (burst! 1000 room ∷ [])))

-- block 12's second record comes to the front inside the first burst, and is sent inside the second, after a record of the other block
abbrev second_record : Parting
second_record = record {
  first = take 1 filling;
  given = opening 12 24576;
  since = drop 2 filling ++ (serve! ∷ serve! ∷ []);
  at = serve!;
  during = serve! ∷ (renaming ++ (serve! ∷ []));
  rest = serve! ∷ serve! ∷ [];
}

-- block 12 waits when the first burst brings the clock to 4; inside the second it gets to 8
abbrev at_four : Parting
at_four = record {
  first = take 1 filling;
  given = opening 12 24576;
  since = drop 2 filling ++ (serve! ∷ []);
  at = serve!;
  during = serve! ∷ serve! ∷ (renaming ++ (serve! ∷ []));
  rest = serve! ∷ serve! ∷ [];
}

-- the other block's last record goes in its slot at 8, which the second burst begins as it brings the clock there
abbrev at_eight : Parting
at_eight = record {
  first = [];
  given = opening 11 32768;
  since = drop 1 filling ++ (serve! ∷ serve! ∷ serve! ∷ serve! ∷ renaming);
  at = serve!;
  during = serve! ∷ serve! ∷ [];
  rest = [];
}

-- block 12's last two records go in one slot, at 9, inside the second burst
abbrev from_eight : Parting
from_eight = record {
  first = take 1 filling;
  given = opening 12 24576;
  since = drop 2 filling ++ (serve! ∷ serve! ∷ serve! ∷ serve! ∷ renaming);
  at = serve!;
  during = serve! ∷ serve! ∷ [];
  rest = [];
}

-- the tight run of the rules: a record comes into an empty lane of class 1, and the burst that sends it sends 382 bytes of others before it
abbrev last_in_burst : List Call
last_in_burst = map one tight ++ (one (record! 9 (rec 5 64)) ∷ burst! 1000 (0 ∷ 0 ∷ 0 ∷ room) ∷ [])

abbrev tightest : Parting
tightest = record { first = []; given = opening 9 32768; since = drop 1 tight; at = record! 9 (rec 5 64); during = waiting; rest = serve! ∷ [] }

-- the renames of the rules' example, with a burst for each serve
abbrev burst_each : List Call
burst_each = map one (take 4 renames)
    ++ (burst! 40 room ∷ one (rename! 2 3) ∷ burst! 20 room ∷ one (rename! 3 4) ∷ one (record! 4 (rec 4 9)) ∷ burst! 64 room ∷ [])

-- ---- what is known of any passage: its answers and its clocks are those of the rules

-- the boards of a parting: after its opening, before and after its one call, at the end of the part that lasts
abbrev opened_by : ℕ → Parting → Board.Board
opened_by L w = (step (play (fresh L) w.first) (open! w.given)).next

abbrev before_by : ℕ → Parting → Board.Board
before_by L w = play (opened_by L w) w.since

abbrev after_by : ℕ → Parting → Board.Board
after_by L w = (step (before_by L w) w.at).next

abbrev end_by : ℕ → Parting → Board.Board
end_by L w = play (after_by L w) w.during

pub record Heard : Type 0 where
  pub first : List Answer
  pub since : List Answer
  pub at : Answer
  pub during : List Answer
  pub rest : List Answer
  pub was : ℕ
  pub now : ℕ
  pub then : ℕ

abbrev pub heard : {L : ℕ} {c : Chained L} {w : Parting} → Passage L c w → Heard
heard p = record {
  first = p.first_said;
  since = p.since_said;
  at = p.answered;
  during = p.during_said;
  rest = p.rest_said;
  was = clock p.f;
  now = clock p.g;
  then = clock p.h;
}

abbrev ruled : ℕ → Parting → Heard
ruled L w = record {
  first = said_of (fresh L) w.first;
  since = said_of (opened_by L w) w.since;
  at = answer (before_by L w) w.at;
  during = said_of (after_by L w) w.during;
  rest = said_of (end_by L w) w.rest;
  was = (before_by L w).clock;
  now = (after_by L w).clock;
  then = (end_by L w).clock;
}

heard_ruled : (L : ℕ) (c : Chained L) (w : Parting) (p : Passage L c w) → heard p ≡ ruled L w
heard_ruled L c w p = λ j. record {
  first = a.answers j;
  since = since! j;
  at = at! j;
  during = during! j;
  rest = rest! j;
  was = clock_of p.f f j;
  now = clock_of p.g g j;
  then = clock_of p.h h j;
}
  where
    before : At L p.before
    before = at_on L (at_made L c.start c.made) p.to_opening

    o : At L p.opened
    o = at_did L before p.opens

    a : Along (fresh L) w.first p.first_said p.before
    a =
        subst (λ (b : Board.Board). Along b w.first p.first_said p.before) (made_fresh L c.start c.made)
        (along w.first (at_made L c.start c.made).good p.to_opening)

    opening : Single
    opening = open! w.given

    opened! : reads p.opened ≡ opened_by L w
    opened! =
        (did_agrees p.before p.opened (one opening) (gives 0) before.good p.opens).after
        ∙ ap (λ (b : Board.Board). (step b opening).next) a.board

    s : Along (reads p.opened) w.since p.since_said p.f
    s = along w.since o.good p.to_call

    since! : p.since_said ≡ said_of (opened_by L w) w.since
    since! = s.answers ∙ ap (λ (b : Board.Board). said_of b w.since) opened!

    f : reads p.f ≡ before_by L w
    f = s.board ∙ ap (λ (b : Board.Board). play b w.since) opened!

    at_f : At L p.f
    at_f = at_on L o p.to_call

    d : Agrees p.f (one w.at) p.answered p.g
    d = did_agrees p.f p.g (one w.at) p.answered at_f.good p.did

    at! : p.answered ≡ answer (before_by L w) w.at
    at! = d.told! ∙ ap (λ (b : Board.Board). answer b w.at) f

    g : reads p.g ≡ after_by L w
    g = d.after ∙ ap (λ (b : Board.Board). (step b w.at).next) f

    l : Along (reads p.g) w.during p.during_said p.h
    l = along w.during d.good p.lasting

    during! : p.during_said ≡ said_of (after_by L w) w.during
    during! = l.answers ∙ ap (λ (b : Board.Board). said_of b w.during) g

    h : reads p.h ≡ end_by L w
    h = l.board ∙ ap (λ (b : Board.Board). play b w.during) g

    at_h : At L p.h
    at_h = at_on L (at_did L at_f p.did) p.lasting

    rest! : p.rest_said ≡ said_of (end_by L w) w.rest
    rest! = (along w.rest at_h.good p.to_finish).answers ∙ ap (λ (b : Board.Board). said_of b w.rest) h

    clock_of : (e : Holding) {b : Board.Board} → reads e ≡ b → clock e ≡ b.clock
    clock_of e q = sym (clock_reads e) ∙ ap (λ (b : Board.Board). b.clock) q

-- a passage of a chain of these calls
pub record Passing (L : ℕ) (cs : List Call) (w : Parting) : Type 0 where
  pub chain : Chained L
  pub calls : chain.cs ≡ cs
  pub passage : Passage L chain w

-- its parts are those of the rules' row, and its opening is done
record PartsOfRow (L : ℕ) (cs : List Call) (w : Parting) : Type 0 where
  calls : Runs.row (fresh L) cs ≡ calls_of w
  opens : get_or (said_of (fresh L) (calls_of w)) (length w.first) (gives 1) ≡ gives 0

passing : (L : ℕ) (cs : List Call) (w : Parting) → InRange L → PartsOfRow L cs w → Passing L cs w
passing L cs w range q =
    let t = has_chain L range cs in
    let m = at_made L t.0 t.3 in
    let r = row_from m.good t.4 in
    let c : Chained L = record { start = t.0; cs = cs; told = t.1; xs = r.0; said = r.1; finish = t.2; made = t.3; row = r.2 } in
    let xs = spelt_row (fresh L) r.2.spelt (chain_is_run L t.0 t.2 cs t.1 t.3 t.4).answer ∙ q.calls in
    let said = (along r.0 m.good r.2.singles).answers ∙ ap₂ said_of (made_fresh L t.0 t.3) xs in
    record { chain = c; calls = refl; passage = has_passage L c w xs (ap (λ (z : List Answer). get_or z (length w.first) (gives 1)) said ∙ q.opens) }

-- ---- every premise of the byte bound and of its time, with how many bytes of others pass in how many serving calls, and the answer that comes next,
-- which sends the record

abbrev tale_of : Parting → Heard → Story
tale_of w h = story (begins w.given.number) w.since h.since

abbrev last_by : Heard → Option ℕ
last_by h = last_slot (last_slot none h.first) h.since

pub record Passed (w : Parting) (bytes serves : ℕ) (next : Answer) (h : Heard) : Type 0 where
  pub front : StaysInFront (tale_of w h) w.at h.at w.during h.during
  pub not_spent : NotSpent h.during
  pub others : bytes_in h.during ≡ bytes
  pub calls : serves_in w.during ≡ serves
  pub sent : get_or h.rest 0 (gives 1) ≡ next

-- ---- every premise of the slot promise, with the interval's start; and of that of never two slots, with a slot that is there

pub record Reached (w : Parting) (lo : ℕ) (h : Heard) : Type 0 where
  pub serves : w.at ≡ serve!
  pub waits : WaitsAt (class_of w.given.share) lo (tale_of w h) (last_by h) h.was h.at h.now
  pub ends : lo + 2 ^ class_of w.given.share ≤ h.then

pub record Slotted (w : Parting) (lo : ℕ) (h : Heard) : Type 0 where
  pub still : (tale_of w h).closed ≡ false
  pub start : Start (class_of w.given.share) lo
  pub slots : slots_in lo (lo + 2 ^ class_of w.given.share) (tale_of w h).number (last_by h) (w.at ∷ w.during) (h.at ∷ h.during) ≡ 1

-- ---- what the rules compute

record Computed : Type 0 where
  worked_burst : answers_of (fresh 100) with_burst ≡ gives 0 ∷ gives 0 ∷ took ∷ took ∷ took ∷ took ∷ took
      ∷ bursts (record { count = 5; total = 460; code = 1 }) ∷ []
  bursts_told : answers_of (fresh 100) by_bursts ≡ gives 0 ∷ gives 0 ∷ took ∷ took ∷ took ∷ took ∷ took ∷ took ∷ took
      ∷ bursts (record { count = 4; total = 400; code = 14 }) ∷ gives 0 ∷ gives 0 ∷ bursts (record { count = 3; total = 300; code = 1 }) ∷ []
  second_parts : PartsOfRow 100 by_bursts second_record
  second_passed : Passed second_record 200 2 (out 13 6 100 9) (ruled 100 second_record)
  four_parts : PartsOfRow 100 by_bursts at_four
  four_reached : Reached at_four 4 (ruled 100 at_four)
  eight_parts : PartsOfRow 100 by_bursts at_eight
  eight_reached : Reached at_eight 8 (ruled 100 at_eight)
  once_parts : PartsOfRow 100 by_bursts from_eight
  once_slotted : Slotted from_eight 8 (ruled 100 from_eight)
  tight_parts : PartsOfRow 64 last_in_burst tightest
  tight_passed : Passed tightest 382 6 (out 9 5 64 36) (ruled 64 tightest)
  opens_one : code_of (answer (runs (fresh 64) []) (open! (opening 1 32768))) ≡ 0
  eleven_bought : account_of 11 (step (play (fresh 100) []) (open! (opening 11 32768))).next (drop 1 worked) no_account
      ≡ record { slots = 2; credit = 13107200; bytes = 160; lost = 2621440 }
  twelve_bought : account_of 12 (step (play (fresh 100) (take 1 worked)) (open! (opening 12 24576))).next (drop 2 worked) no_account
      ≡ record { slots = 2; credit = 19660800; bytes = 300; lost = 0 }
  renamed_bought : account_of 1 (step (play (fresh 64) []) (open! (opening 1 32768))).next renames no_account
      ≡ record { slots = 2; credit = 8388608; bytes = 124; lost = 0 }
  burst_each_row : Runs.row (step (runs (fresh 64) []) (open! (opening 1 32768))).next burst_each ≡ renames

not11 : ◌≢◌ {A = ℕ} 0 11
not11 e = omega arith

computed : Computed
unfolding added account_of worked tight filled waiting renames answers_of Runs.row said_of story last_slot Unsent NotSpent slots_in bytes_in serves_in runs play
    Start
    burst least
    next_start class_of framing charged largest_charge credit_of sum below bytes_charged ring_entry ring_on lane_depth lane_first entry onward some_wait any_due
    used_share
    fresh
    where_is upd taken_in
    take_record release least_ready settle ended send_from send lowest begin serve_by serve free_at open_block rename_block quiet step
computed = record {
  worked_burst = refl;
  bursts_told = refl;
  second_parts = record { calls = refl; opens = refl };
  second_passed = record {
    front = record { still = refl; comes = next_up (out 12 5 100 5) refl (λ e. three_one (ap length e)); unsent = (refl, (refl, (refl, (refl, tt)))) };
    not_spent = (not11, (not11, (not11, (not11, tt))));
    others = refl;
    calls = refl;
    sent = refl;
  };
  four_parts = record { calls = refl; opens = refl };
  four_reached = record {
    serves = refl;
    waits = record {
      still = refl;
      start = (1, refl);
      early = omega arith;
      reached = omega arith;
      before = λ e. three_none (ap length e);
      after = inl (λ e. three_none (ap length e));
    };
    ends = omega arith;
  };
  eight_parts = record { calls = refl; opens = refl };
  eight_reached = record {
    serves = refl;
    waits = record {
      still = refl;
      start = (4, refl);
      early = omega arith;
      reached = omega arith;
      before = λ e. four_three (ap length e);
      after = inr (refl, omega arith);
    };
    ends = omega arith;
  };
  once_parts = record { calls = refl; opens = refl };
  once_slotted = record { still = refl; start = (2, refl); slots = refl };
  tight_parts = record { calls = refl; opens = refl };
  tight_passed = record {
    front = record { still = refl; comes = into_empty (rec 5 64) took refl refl; unsent = (refl, (refl, (refl, (refl, (refl, (refl, tt)))))) };
    not_spent = (not11, (not11, (not11, (not11, (not11, (not11, tt))))));
    others = refl;
    calls = refl;
    sent = refl;
  };
  opens_one = refl;
  eleven_bought = refl;
  twelve_bought = refl;
  renamed_bought = refl;
  burst_each_row = refl;
}
  where
    three_one : ◌≢◌ {A = ℕ} 3 1
    three_one e = omega arith

    three_none : ◌≢◌ {A = ℕ} 3 0
    three_none e = omega arith

    four_three : ◌≢◌ {A = ℕ} 4 3
    four_three e = omega arith

-- ---- so every chain of these calls answers this

pub burst_chain : (s e : Holding) (told : List Answer) → Made 100 s → Chain s with_burst told e
    → told ≡ gives 0 ∷ gives 0 ∷ took ∷ took ∷ took ∷ took ∷ took ∷ bursts (record { count = 5; total = 460; code = 1 }) ∷ []
burst_chain s e told made! c = (chain_is_run 100 s e with_burst told made! c).answer ∙ computed.worked_burst

pub bursts_chain : (s e : Holding) (told : List Answer) → Made 100 s → Chain s by_bursts told e
    → told ≡ gives 0 ∷ gives 0 ∷ took ∷ took ∷ took ∷ took ∷ took ∷ took ∷ took
    ∷ bursts (record { count = 4; total = 400; code = 14 }) ∷ gives 0 ∷ gives 0 ∷ bursts (record { count = 3; total = 300; code = 1 }) ∷ []
bursts_chain s e told made! c = (chain_is_run 100 s e by_bursts told made! c).answer ∙ computed.bursts_told

-- ---- what the growers of the worked log bought and got, along every chain of its calls

bought : (L : ℕ) {s f o e : Holding} {told said : List Answer} (first : List Single) (given : Opening) (xs : List Single) → Made L s
    → Chain s (map one first) told f → Did f (one (open! given)) (gives 0) o → (c : Chain o (map one xs) said e)
    → account_along given.number xs c no_account ≡ account_of given.number (step (play (fresh L) first) (open! given)).next xs no_account
bought L {s = s} first given xs made! before opens c =
    let h = at_made L s made! in
    account_opened given xs (at_on L h before).good opens c
    ∙ ap (λ (b : Board.Board). account_of given.number (step b (open! given)).next xs no_account)
    ((along first h.good before).board ∙ ap (λ (b : Board.Board). play b first) (made_fresh L s made!))

pub worked_eleven : (s o e : Holding) (said : List Answer) → Made 100 s → Did s (one (open! (opening 11 32768))) (gives 0) o
    → (c : Chain o (map one (drop 1 worked)) said e)
    → account_along 11 (drop 1 worked) c no_account ≡ record { slots = 2; credit = 13107200; bytes = 160; lost = 2621440 }
worked_eleven s o e said made! opens c = bought 100 [] (opening 11 32768) (drop 1 worked) made! stops opens c ∙ computed.eleven_bought

pub worked_twelve : (s f o e : Holding) (told said : List Answer) → Made 100 s → Chain s (map one (take 1 worked)) told f
    → Did f (one (open! (opening 12 24576))) (gives 0) o → (c : Chain o (map one (drop 2 worked)) said e)
    → account_along 12 (drop 2 worked) c no_account ≡ record { slots = 2; credit = 19660800; bytes = 300; lost = 0 }
worked_twelve s f o e told said made! first opens c =
    bought 100 (take 1 worked) (opening 12 24576) (drop 2 worked) made! first opens c ∙ computed.twelve_bought

-- a block that is renamed three times, once while its slot is open
pub renamed_bought_lem : (s o e : Holding) (said : List Answer) → Made 64 s → Did s (one (open! (opening 1 32768))) (gives 0) o
    → (c : Chain o (map one renames) said e) → account_along 1 renames c no_account ≡ record { slots = 2; credit = 8388608; bytes = 124; lost = 0 }
renamed_bought_lem s o e said made! opens c = bought 64 [] (opening 1 32768) renames made! stops opens c ∙ computed.renamed_bought

-- ---- and there are such passages

met : (L : ℕ) (cs : List Call) (w : Parting) → InRange L → PartsOfRow L cs w → (P : Heard → Type 0) → P (ruled L w)
    → (p : Passing L cs w) × P (heard p.passage)
met L cs w range parts P h = let p = passing L cs w range parts in (p, subst P (sym (heard_ruled L p.chain w p.passage)) h)

range100 : InRange 100
range100 = record { low = omega arith; high = omega arith }

range64 : InRange 64
range64 = record { low = omega arith; high = omega arith }

pub passed_in_bursts : (p : Passing 100 by_bursts second_record) × Passed second_record 200 2 (out 13 6 100 9) (heard p.passage)
passed_in_bursts = met 100 by_bursts second_record range100 computed.second_parts (Passed second_record 200 2 (out 13 6 100 9)) computed.second_passed

pub reached_in_bursts : (p : Passing 100 by_bursts at_four) × Reached at_four 4 (heard p.passage)
reached_in_bursts = met 100 by_bursts at_four range100 computed.four_parts (Reached at_four 4) computed.four_reached

pub begun_in_burst : (p : Passing 100 by_bursts at_eight) × Reached at_eight 8 (heard p.passage)
begun_in_burst = met 100 by_bursts at_eight range100 computed.eight_parts (Reached at_eight 8) computed.eight_reached

pub two_in_a_slot : (p : Passing 100 by_bursts from_eight) × Slotted from_eight 8 (heard p.passage)
two_in_a_slot = met 100 by_bursts from_eight range100 computed.once_parts (Slotted from_eight 8) computed.once_slotted

pub passed_tightly : (p : Passing 64 last_in_burst tightest) × Passed tightest 382 6 (out 9 5 64 36) (heard p.passage)
passed_tightly = met 64 last_in_burst tightest range64 computed.tight_parts (Passed tightest 382 6 (out 9 5 64 36)) computed.tight_passed

-- ---- a block renamed while it is queued, while its slot is open, and again: each record left under the number of that moment, one still waits

pub renamed : (last : Option ℕ) × (e : Holding)
    × Life 64 (opening 1 32768)
    (record { number = 4; taken = rec 1 40 ∷ rec 2 20 ∷ rec 3 64 ∷ rec 4 9 ∷ []; sent = rec 1 40 ∷ rec 2 20 ∷ rec 3 64 ∷ []; closed = false }) last e
unfolding runs
renamed =
    let l = has_life 64 range64 [] (opening 1 32768) burst_each computed.opens_one in
    let tale = ap (Runs.story (begins 1) (step (fresh 64) (open! (opening 1 32768))).next) computed.burst_each_row ∙ (Examples.computed).renamed_story in
    (l.0, l.1, subst (λ (st : Story). Life 64 (opening 1 32768) st l.0 l.1) tale l.2)
