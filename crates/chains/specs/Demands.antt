-- THE DEMANDS OVER A CHAIN'S OWN ANSWERS: documents 00 and 01 in words of the calls that were made, the answers that
-- they gave and the values that they left. A chain may hold bursts anywhere.
use Rattle.std.specs.Prelude.{◌≡◌, Bool, true, false, cond, not, ◌&&◌, ◌⊎◌, ◌≢◌, List, [], ◌∷◌, ◌++◌, map, ℕ, ◌+◌, ◌*◌}
use Rattle.std.specs.Prelude.{◌-◌, ◌^◌, ◌≤◌, ◌<◌, leb, ltb, eqb, length, drop, get_or}
use Rattle.std.proofs.Math.Option.{Option, none, some}
use Rattle.base.specs.Sums.{one_if, sum}
use Rattle.units.specs.Classes.{Start, class_of}
use Rattle.units.specs.Credit.{charged, largest_charge}
use Rattle.rules.specs.Board
use Rattle.rules.specs.Board.{fresh}
use Rattle.rules.specs.Blocks.{Opening}
use Rattle.rules.specs.Calls
use Rattle.rules.specs.Calls.{Single, open!, record!, serve!, step, Call, one, burst!, done! }
use Rattle.rules.specs.Calls.{Sent, Answer, gives, takes, sends, bursts, code_of}
use Rattle.rules.specs.Runs
use Rattle.rules.specs.Runs.{answer, leaves, runs, lane_of, is_for, record_of, number_after, closes, clock_of, is_done}
use Rattle.rules.specs.Runs.{bytes_at, serves_in, Story, begins, goes_on, tells}
use Rattle.rules.specs.Promises.{OfRun, Accounted, InRange, bound, serves}
use Rattle.board.specs.Reading.{encode, view, Sound}
use Rattle.board.specs.Leaving.{Reply, returned, Known}
use Rattle.calls.specs.Promises.{made}
use Rattle.calls.specs.Contract.{BurstReply, burst_now, called_burst}
use Rattle.board.specs.Memory.{Holding}
use Rattle.chains.specs.Chains.{burst_tells, Did, Chain, Made, answers_of}

-- the board that a holding spells, and its clock, which is a field of the value
abbrev pub reads : Holding → Board.Board
reads s = view s.board s.ids s.lens

abbrev pub clock : Holding → ℕ
clock s = s.board.clock

-- ---- A chain is a run of the rules

-- the value is not spoilt, and both tables have their 2,048 entries
abbrev pub KnownHolding : Holding → Type 0
KnownHolding s = Known s.board s.ids s.lens

-- What follows any call on such a value, of a chain or not: what is left is not spoilt, and reads as the rules' board
-- after the call; the caller is told what the rules tell.
pub record Agrees (s : Holding) (c : Call) (a : Answer) (m : Holding) : Type 0 where
  pub good : KnownHolding m
  pub after : reads m ≡ leaves (reads s) c
  pub told! : a ≡ (done! (reads s) c).answer

abbrev pub CallAgrees : Type 0
CallAgrees = (s m : Holding) (c : Call) (a : Answer) → KnownHolding s → Did s c a m → Agrees s c a m

-- So a chain from a done making leaves and answers what the rules' run of the same calls leaves and answers,
pub record IsRun (L : ℕ) (cs : List Call) (answers : List Answer) (e : Holding) : Type 0 where
  pub good : KnownHolding e
  pub board : reads e ≡ runs (fresh L) cs
  pub answer : answers ≡ answers_of (fresh L) cs

abbrev pub ChainIsRun : Type 0
ChainIsRun = (L : ℕ) (s e : Holding) (cs : List Call) (answers : List Answer)
    → Made L s → Chain s cs answers e → IsRun L cs answers e

-- and each board that it spells is one of a run.
abbrev pub ChainOfRun : Type 0
ChainOfRun = (L : ℕ) (s e : Holding) (cs : List Call) (answers : List Answer)
    → Made L s → Chain s cs answers e → OfRun L (reads e)

-- ---- What a list of answers says

-- the bytes that an answer says were sent, as they are charged: one record's, or a burst's total
abbrev pub bytes_of : Answer → ℕ
bytes_of (gives code) = 0
bytes_of (takes a) = 0
bytes_of (sends s) = charged s.bytes
bytes_of (bursts r) = r.total

unfoldable pub bytes_in : List Answer → ℕ
bytes_in [] = 0
bytes_in (a ∷ told) = bytes_of a + bytes_in told

-- the bytes that were sent in the slot that began at clock t
unfoldable pub slot_bytes : (t : ℕ) → List Answer → ℕ
slot_bytes t [] = 0
slot_bytes t (a ∷ told) = bytes_at t a + slot_bytes t told

-- none is answered 3 or 2; none is answered 11
unfoldable pub NoneRefused : List Answer → Type 0
NoneRefused [] = Unit {0}
NoneRefused (a ∷ told) = (code_of a ≢ 3) × (code_of a ≢ 2) × NoneRefused told

unfoldable pub NotSpent : List Answer → Type 0
NotSpent [] = Unit {0}
NotSpent (a ∷ told) = (code_of a ≢ 11) × NotSpent told

-- ---- Bursts: a burst's answer does not name the blocks that it sent from. So a chain is read beside the chain of
-- single calls that it comes to: in place of each burst as many serving calls as its count, each of which sends, and
-- whose bytes are the burst's.

pub data SpeltOut : List Call → List Answer → List Single → List Answer → Type 0 where
  over : SpeltOut [] [] [] []
  single : {cs : List Call} {told said : List Answer} {xs : List Single} (x : Single) (a : Answer)
      → SpeltOut cs told xs said → SpeltOut (one x ∷ cs) (a ∷ told) (x ∷ xs) (a ∷ said)
  as_serves : {cs : List Call} {told said : List Answer} {xs : List Single} (bytes : ℕ) (list : List ℕ) (r : BurstReply)
      (sent : List Sent)
      → length sent ≡ r.count → sum (λ (s : Sent). charged s.bytes) sent ≡ r.bytes.0
      → SpeltOut cs told xs said
      → SpeltOut (burst! bytes list ∷ cs) (burst_tells r ∷ told) (serves (length sent) ++ xs) (map sends sent ++ said)

-- Both chains go from the same value to the same value. (What happens within a burst is read in the second, of which
-- each part is a chain.)
pub record Row (s : Holding) (cs : List Call) (told : List Answer) (xs : List Single) (said : List Answer)
    (e : Holding) : Type 0 where
  pub chain : Chain s cs told e
  pub spelt : SpeltOut cs told xs said
  pub singles : Chain s (map one xs) said e

-- Every part of a chain from a done making has its row.
abbrev pub HasRow : Type 0
HasRow =
    (L : ℕ) (s m e : Holding) (before cs : List Call) (told₁ told : List Answer) → Made L s → Chain s before told₁ m
    → Chain m cs told e
    → (xs : List Single) × (said : List Answer) × Row m cs told xs said e

-- A chain's own answers, its bursts' totals among them, tell of the bytes that its row's answers tell of.
abbrev pub SameBytes : Type 0
SameBytes = (s e : Holding) (cs : List Call) (told : List Answer) (xs : List Single) (said : List Answer)
    → Row s cs told xs said e → bytes_in told ≡ bytes_in said

-- A burst of a chain: the single serving calls that it is, from the value that it was given to the value that it left;
-- the list's first entries are their records' numbers, and the others are as they were.
pub record BurstIs (m : Holding) (list : List ℕ) (r : BurstReply) (list' ids lens : List ℕ) : Type 0 where
  pub sent : List Sent
  pub serving :
      Chain m (map one (serves (length sent))) (map sends sent) (record { board = r.board; ids = ids; lens = lens })
  pub count : length sent ≡ r.count
  pub bytes : sum (λ (s : Sent). charged s.bytes) sent ≡ r.bytes.0
  pub numbers : list' ≡ map (λ (s : Sent). s.number) sent ++ drop (length sent) list

abbrev pub BurstIsServes : Type 0
BurstIsServes = (L : ℕ) (s m : Holding) (before : List Call) (told₁ : List Answer) → Made L s → Chain s before told₁ m
    → (bytes : ℕ) (list : List ℕ) (r : BurstReply) (list' ids lens : List ℕ)
    → returned (burst_now r list') ids lens ≡ called_burst m.board m.ids m.lens bytes list
    → BurstIs m list r list' ids lens

-- ---- Demand 1: a refusal changes neither board nor tables, whatever value and tables are lent

pub record RefusalChangesNothing : Type 0 where
  -- a single call that is answered any code but 0
  pub single : (s m : Holding) (x : Single) (a : Answer) → Did s (one x) a m → code_of a ≢ 0 → m ≡ s
  -- a burst that is answered 3 or 2, or that sent nothing, whatever its code; its list too
  pub burst : (s : Holding) (bytes : ℕ) (list : List ℕ) (r : BurstReply) (list' ids lens : List ℕ)
      → returned (burst_now r list') ids lens ≡ called_burst s.board s.ids s.lens bytes list
      → (r.code ≡ 3) ⊎ ((r.code ≡ 2) ⊎ (r.count ≡ 0))
      → (r.board ≡ s.board) × (ids ≡ s.ids) × (lens ≡ s.lens) × (list' ≡ list)
  -- a making, which is lent no board: both tables; it gives the board of all zeros, which is spoilt with any tables
  pub making : (L : ℕ) (ids lens : List ℕ) (r : Reply) (ids' lens' : List ℕ)
      → returned r ids' lens' ≡ made ids lens L → r.code ≢ 0
      → (ids' ≡ ids) × (lens' ≡ lens) × (r.board ≡ encode (fresh 0)) × ((is ls : List ℕ) → Sound r.board is ls → ⊥)

-- ---- and no call of a chain after its making is given 3 or 2

abbrev pub NeverRefused : Type 0
NeverRefused =
    (L : ℕ) (s e : Holding) (cs : List Call) (told : List Answer) → Made L s → Chain s cs told e → NoneRefused told

-- ---- A block: an opening of the chain, and what the calls after it and their answers tell of it: its number now, the
-- records taken in for it, those sent under the number that it had when each was sent, and whether it is closed

unfoldable pub story : Story → List Single → List Answer → Story
story st [] said = st
story st (x ∷ xs) [] = st
story st (x ∷ xs) (a ∷ said) = story (tells st.closed st x a) xs said

-- the clock of the last send that is told, which is that of its slot
abbrev pub slot_after : (last : Option ℕ) → Answer → Option ℕ
slot_after last (gives code) = last
slot_after last (takes a) = last
slot_after last (sends s) = some s.clock
slot_after last (bursts r) = last

unfoldable pub last_slot : (last : Option ℕ) → List Answer → Option ℕ
last_slot last [] = last
last_slot last (a ∷ said) = last_slot (slot_after last a) said

-- o is what the done opening left that was given this: after a done making with L and any calls
pub record Opened (L : ℕ) (given : Opening) (last : Option ℕ) (o : Holding) : Type 0 where
  pub start : Holding
  pub made : Made L start
  pub cs : List Call
  pub told : List Answer
  pub xs : List Single
  pub said : List Answer
  pub before : Holding
  pub row : Row start cs told xs said before
  pub latest : last_slot none said ≡ last
  pub opens : Did before (one (open! given)) (gives 0) o

-- e is what a chain left that tells this story of a block whose opening was given this; its last send, if any, has that
-- clock
pub record Life (L : ℕ) (given : Opening) (st : Story) (last : Option ℕ) (e : Holding) : Type 0 where
  pub first : Option ℕ
  pub opening : Holding
  pub opened : Opened L given first opening
  pub cs : List Call
  pub told : List Answer
  pub xs : List Single
  pub said : List Answer
  pub row : Row opening cs told xs said e
  pub latest : last_slot first said ≡ last
  pub told! : story (begins given.number) xs said ≡ st

-- ---- Any moment of a chain, inside a burst or not

-- a chain from a done making, and its row of single calls
pub record Chained (L : ℕ) : Type 0 where
  pub start : Holding
  pub cs : List Call
  pub told : List Answer
  pub xs : List Single
  pub said : List Answer
  pub finish : Holding
  pub made : Made L start
  pub row : Row start cs told xs said finish

-- The row's calls in parts: those before a block's opening; what the opening was given; those since; one call; those
-- during which something lasts; the rest. Each part may begin, and end, inside a burst.
pub record Parting : Type 0 where
  pub first : List Single
  pub given : Opening
  pub since : List Single
  pub at : Single
  pub during : List Single
  pub rest : List Single

abbrev pub calls_of : Parting → List Single
calls_of w = w.first ++ (open! w.given ∷ (w.since ++ (w.at ∷ (w.during ++ w.rest))))

-- the answers to each part, of which the opening's is 0, and the values between the parts: f is given to the one call,
-- which leaves g, and h is what the part that lasts leaves
pub record Passage (L : ℕ) (c : Chained L) (w : Parting) : Type 0 where
  pub first_said : List Answer
  pub since_said : List Answer
  pub answered : Answer
  pub during_said : List Answer
  pub rest_said : List Answer
  pub calls : c.xs ≡ calls_of w
  pub answers : c.said ≡ first_said ++ (gives 0 ∷ (since_said ++ (answered ∷ (during_said ++ rest_said))))
  pub before : Holding
  pub opened : Holding
  pub f : Holding
  pub g : Holding
  pub h : Holding
  pub to_opening : Chain c.start (map one w.first) first_said before
  pub opens : Did before (one (open! w.given)) (gives 0) opened
  pub to_call : Chain opened (map one w.since) since_said f
  pub did : Did f (one w.at) answered g
  pub lasting : Chain g (map one w.during) during_said h
  pub to_finish : Chain h (map one w.rest) rest_said c.finish

-- Wherever a row is parted at an opening that was answered 0, it has such a passage.
abbrev pub HasPassage : Type 0
HasPassage = (L : ℕ) (c : Chained L) (w : Parting)
    → c.xs ≡ calls_of w → get_or c.said (length w.first) (gives 1) ≡ gives 0 → Passage L c w

-- what is told of the block, and the clock of the last send, before the one call; and at the end of the part that lasts
abbrev pub tale : {L : ℕ} {c : Chained L} {w : Parting} → Passage L c w → Story
tale {w = w} p = story (begins w.given.number) w.since p.since_said

abbrev pub last_of : {L : ℕ} {c : Chained L} {w : Parting} → Passage L c w → Option ℕ
last_of p = last_slot (last_slot none p.first_said) p.since_said

abbrev pub later_tale : {L : ℕ} {c : Chained L} {w : Parting} → Passage L c w → Story
later_tale {w = w} p = story (tale p) (w.at ∷ w.during) (p.answered ∷ p.during_said)

abbrev pub later_last : {L : ℕ} {c : Chained L} {w : Parting} → Passage L c w → Option ℕ
later_last p = last_slot (last_of p) (p.answered ∷ p.during_said)

-- Both moments have their life: what holds of every life, as Conserved and ServesSend below, holds inside a burst too.
abbrev pub PassageLives : Type 0
PassageLives = (L : ℕ) (c : Chained L) (w : Parting) (p : Passage L c w)
    → Life L w.given (tale p) (last_of p) p.f × Life L w.given (later_tale p) (later_last p) p.h

-- ---- Demand 2: each record taken in is sent once, in its block's order, under the number that the block has when it
-- is sent, or it still stands in its lane. A closed block has none left.

abbrev pub Conserved : Type 0
Conserved = (L : ℕ) (given : Opening) (st : Story) (last : Option ℕ) (e : Holding)
    → Life L given st last e → Accounted st (reads e)

-- No other record is sent: the one that is answered stood at the front of the lane of the open block that is named.
abbrev pub SendsFront : Type 0
SendsFront =
    (L : ℕ) (s f g : Holding) (cs : List Call) (told : List Answer) (a : Sent) → Made L s → Chain s cs told f
    → Did f (one serve!) (sends a) g
    → lane_of (reads f) a.block ≡ record { number = a.number; bytes = a.bytes } ∷ lane_of (reads g) a.block

-- ---- Demand 3

-- The call brings a record to the front of the block's lane: all that was taken in was sent, and it is taken; or the
-- one before it is sent, and not all that was taken in has been sent then.
pub data ComesToFront (st : Story) : Single → Answer → Type 0 where
  into_empty : (r : Board.Record) (a : Answer) → is_done a ≡ true → st.taken ≡ st.sent
      → ComesToFront st (record! st.number r) a
  next_up : (a : Answer) → is_for st.number a ≡ true → st.taken ≢ st.sent ++ record_of a → ComesToFront st serve! a

-- No answer names the block that had n first: it is followed through its renames.
unfoldable pub Unsent : (n : ℕ) → List Single → List Answer → Type 0
Unsent n [] said = Unit {0}
Unsent n (x ∷ xs) [] = Unit {0}
Unsent n (x ∷ xs) (a ∷ said) = (is_for n a ≡ false) × Unsent (number_after n x a) xs said

-- a record comes to the front by the call x, and is not sent by any of xs
pub record StaysInFront (st : Story) (x : Single) (a : Answer) (xs : List Single) (said : List Answer) : Type 0 where
  pub still : st.closed ≡ false
  pub comes : ComesToFront st x a
  pub unsent : Unsent st.number xs said

-- From the moment a record comes to the front of a lane of class k, by a single call or inside a burst, until it is
-- sent, by a single call or inside a burst, the answers tell of at most (2^(k+1) - 1) x (3L - 1) bytes. What the burst
-- that sends it sent before it is told of too, since the part that lasts may end inside that burst.
abbrev pub ByteBound : Type 0
ByteBound = (L : ℕ) (c : Chained L) (w : Parting) (p : Passage L c w)
    → StaysInFront (tale p) w.at p.answered w.during p.during_said
    → bytes_in p.during_said ≤ bound L (class_of w.given.share)

-- It is sent: no more than that many serving calls, those of bursts among them, pass it, unless one is answered 11.
abbrev pub SentInTime : Type 0
SentInTime = (L : ℕ) (c : Chained L) (w : Parting) (p : Passage L c w)
    → StaysInFront (tale p) w.at p.answered w.during p.during_said → NotSpent p.during_said
    → serves_in w.during ≤ bound L (class_of w.given.share)

-- While a record waits, a single serving call is answered with a record that is sent, or 11.
abbrev pub ServesSend : Type 0
ServesSend = (L : ℕ) (given : Opening) (st : Story) (last : Option ℕ) (f g : Holding) (a : Answer)
    → Life L given st last f → st.closed ≡ false → st.taken ≢ st.sent → Did f (one serve!) a g
    → (a ≡ gives 11) ⊎ ((s : Sent) × (a ≡ sends s))

-- A burst that leaves a record waiting was not stopped for want of records: it is answered 11, or 14 with a full list,
-- or 13.
abbrev pub BurstSends : Type 0
BurstSends = (L : ℕ) (given : Opening) (st : Story) (last : Option ℕ) (s f g : Holding)
    (cs : List Call) (told : List Answer) (bytes : ℕ) (list : List ℕ) (r : Calls.Bursted)
    → Made L s → Chain s cs told f → Did f (burst! bytes list) (bursts r) g
    → Life L given st last g → st.closed ≡ false → st.taken ≢ st.sent
    → (r.code ≡ 11) ⊎ (((r.code ≡ 14) × (r.count ≡ length list)) ⊎ (r.code ≡ 13))

-- ---- Slots, as the answers tell them: a send begins a slot if its clock is not that of the send before it, of
-- whichever block

abbrev pub is_new : (last : Option ℕ) (clock : ℕ) → Bool
is_new none clock = true
is_new (some last) clock = not (eqb last clock)

-- the answer tells that a slot of the block that has n begins; at a clock from lo up to, but not at, hi
abbrev pub begins_slot : (n : ℕ) (last : Option ℕ) → Answer → Bool
begins_slot n last a = is_new last (clock_of a) && is_for n a

abbrev pub begins_in : (lo hi n : ℕ) (last : Option ℕ) → Answer → Bool
begins_in lo hi n last a = begins_slot n last a && leb lo (clock_of a) && ltb (clock_of a) hi

-- how many slots of the block that has n first begin from lo up to hi, until it is closed
unfoldable pub slots_in : (lo hi n : ℕ) (last : Option ℕ) → List Single → List Answer → ℕ
slots_in lo hi n last [] said = 0
slots_in lo hi n last (x ∷ xs) [] = 0
slots_in lo hi n last (x ∷ xs) (a ∷ said) =
    let later = slots_in lo hi (number_after n x a) (slot_after last a) xs said in
    one_if (begins_in lo hi n last a) + cond (closes n x a) 0 later

-- A serving call, single or of a burst, was answered a. It brought the clock from t to u: to lo, a start of class k, or
-- past it. The block waits when the clock gets there: before the call, and after it too unless the call itself began
-- the block's slot at lo or later.
pub record WaitsAt (k lo : ℕ) (st : Story) (last : Option ℕ) (t : ℕ) (a : Answer) (u : ℕ) : Type 0 where
  pub still : st.closed ≡ false
  pub start : Start k lo
  pub early : t < lo
  pub reached : lo ≤ u
  pub before : st.taken ≢ st.sent
  pub after : ((goes_on st serve! a).taken ≢ (goes_on st serve! a).sent)
      ⊎ ((begins_slot st.number last a ≡ true) × (lo ≤ clock_of a))

-- A block already waiting when the clock reaches a start of its class has exactly one slot begun in that interval by
-- the time the clock reaches its end. The clock may reach either inside a burst.
abbrev pub SlotOnce : Type 0
SlotOnce = (L : ℕ) (c : Chained L) (w : Parting) (p : Passage L c w) (lo : ℕ) → let k = class_of w.given.share in
    w.at ≡ serve! → WaitsAt k lo (tale p) (last_of p) (clock p.f) p.answered (clock p.g)
    → lo + 2 ^ k ≤ clock p.h
    → slots_in lo (lo + 2 ^ k) (tale p).number (last_of p) (w.at ∷ w.during) (p.answered ∷ p.during_said) ≡ 1

-- No block ever has two slots begun in one interval of its class.
abbrev pub NeverTwice : Type 0
NeverTwice = (L : ℕ) (c : Chained L) (w : Parting) (p : Passage L c w) (lo : ℕ) → let k = class_of w.given.share in
    (tale p).closed ≡ false → Start k lo
    → slots_in lo (lo + 2 ^ k) (tale p).number (last_of p) (w.at ∷ w.during) (p.answered ∷ p.during_said) ≤ 1

-- A slot sends at most 3L - 1 bytes: the sends of a whole chain that are answered with one clock.
abbrev pub SlotsSmall : Type 0
SlotsSmall =
    (L : ℕ) (s e : Holding) (cs : List Call) (told : List Answer) (xs : List Single) (said : List Answer) → Made L s
    → Row s cs told xs said e
    → (t : ℕ) → slot_bytes t said ≤ 3 * largest_charge L - 1

-- ---- No second answer fits: what is given and the calls decide every answer, and the value and both tables that are
-- left

abbrev pub OnlyOne : Type 0
OnlyOne =
    (s e e' : Holding) (cs : List Call) (told told' : List Answer) → Chain s cs told e → Chain s cs told' e'
    → (told ≡ told') × (e ≡ e')

-- ---- No promise is empty: any L in range is made, and any calls may follow

abbrev pub HasChain : Type 0
HasChain =
    (L : ℕ) → InRange L → (cs : List Call)
    → (s : Holding) × (told : List Answer) × (e : Holding) × Made L s × Chain s cs told e

-- and every story of a run of the rules is told by a chain, bursts among its calls, which comes to that run's board
abbrev pub HasLife : Type 0
HasLife = (L : ℕ) → InRange L → (before : List Call) (given : Opening) (after : List Call)
    → let b = runs (fresh L) before in let o = (step b (open! given)).next in code_of (answer b (open! given)) ≡ 0
    → (last : Option ℕ) × (e : Holding)
    × Life L given (Runs.story (begins given.number) o (Runs.row o after)) last e × (reads e ≡ runs o after)
