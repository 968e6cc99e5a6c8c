-- RUNS: a done making, then any row of the other calls, each given what the one before left; and the words in which the
-- demands speak of a run.
use Rattle.std.specs.Prelude.{◌≡◌, Bool, true, false, cond, ◌&&◌, List, [], ◌∷◌, ◌++◌, ℕ, ◌+◌, ◌≤◌, leb, ltb, eqb}
use Rattle.std.specs.Prelude.{length, replicate}
use Rattle.base.specs.Sums.{one_if}
use Rattle.units.specs.Classes.{class_of, next_start}
use Rattle.units.specs.Credit.{charged}
use Rattle.rules.specs.Board.{Record, Board, at, some_wait}
use Rattle.rules.specs.Choice.{find, by_found, is_none}
use Rattle.rules.specs.Burst.{burst}
use Rattle.rules.specs.Calls.{Single, open!, rename!, close!, record!, serve!, step, Call, one, burst!, Answer}
use Rattle.rules.specs.Calls.{gives, takes, sends, bursts, told, code_of}

-- ---- Rows of single calls

-- the board after a row of single calls
unfoldable pub play : Board → List Single → Board
play b [] = b
play b (x ∷ xs) = play (step b x).next xs

-- what a single call answers
abbrev pub answer : Board → Single → Answer
answer b x = told b (step b x).out

-- ---- A run with bursts is read as the row of its single calls: a burst is as many serving calls as its count

abbrev pub singles : Board → Call → List Single
singles b (one x) = x ∷ []
singles b (burst! bytes list) = replicate (burst b bytes (length list)).count serve!

abbrev pub leaves : Board → Call → Board
leaves b (one x) = (step b x).next
leaves b (burst! bytes list) = (burst b bytes (length list)).next

unfoldable pub runs : Board → List Call → Board
runs b [] = b
runs b (c ∷ cs) = runs (leaves b c) cs

unfoldable pub row : Board → List Call → List Single
row b [] = []
row b (c ∷ cs) = singles b c ++ row (leaves b c) cs

-- ---- What a row sends

-- the bytes that an answer says were sent, as they are charged
abbrev pub bytes_of : Answer → ℕ
bytes_of (gives code) = 0
bytes_of (takes a) = 0
bytes_of (sends s) = charged s.bytes
bytes_of (bursts r) = 0

unfoldable pub bytes_in : Board → List Single → ℕ
bytes_in b [] = 0
bytes_in b (x ∷ xs) = bytes_of (answer b x) + bytes_in (step b x).next xs

-- the same of the slot that began at clock t
abbrev pub bytes_at : (t : ℕ) → Answer → ℕ
bytes_at t (gives code) = 0
bytes_at t (takes a) = 0
bytes_at t (sends s) = cond (eqb s.clock t) (charged s.bytes) 0
bytes_at t (bursts r) = 0

unfoldable pub slot_bytes : (t : ℕ) → Board → List Single → ℕ
slot_bytes t b [] = 0
slot_bytes t b (x ∷ xs) = bytes_at t (answer b x) + slot_bytes t (step b x).next xs

-- the records sent, in order
abbrev pub record_of : Answer → List Record
record_of (gives code) = []
record_of (takes a) = []
record_of (sends s) = record { number = s.number; bytes = s.bytes } ∷ []
record_of (bursts r) = []

unfoldable pub records_in : Board → List Single → List Record
records_in b [] = []
records_in b (x ∷ xs) = record_of (answer b x) ++ records_in (step b x).next xs

-- how many of the calls are serving calls; none of them is given 11
abbrev pub is_serve : Single → Bool
is_serve (open! o) = false
is_serve (rename! old new) = false
is_serve (close! n) = false
is_serve (record! n r) = false
is_serve serve! = true

unfoldable pub serves_in : List Single → ℕ
serves_in [] = 0
serves_in (x ∷ xs) = one_if (is_serve x) + serves_in xs

unfoldable pub NotSpent : Board → List Single → Type 0
NotSpent b [] = Unit {0}
NotSpent b (x ∷ xs) = (eqb (code_of (answer b x)) 11 ≡ false) × NotSpent (step b x).next xs

-- ---- A block: an opening, followed by its number, which renames change

abbrev pub is_done : Answer → Bool
is_done a = eqb (code_of a) 0

-- the number after a call of the block that had n before it
abbrev pub number_after : (n : ℕ) → Single → Answer → ℕ
number_after n (open! o) a = n
number_after n (rename! old new) a = cond (is_done a && eqb n old) new n
number_after n (close! m) a = n
number_after n (record! m r) a = n
number_after n serve! a = n

-- the call closes the block that has n
abbrev pub closes : (n : ℕ) → Single → Answer → Bool
closes n (open! o) a = false
closes n (rename! old new) a = false
closes n (close! m) a = is_done a && eqb n m
closes n (record! m r) a = false
closes n serve! a = false

-- what the call takes in for the block that has n, and what it sends of it
abbrev pub taken_for : (n : ℕ) → Single → Answer → List Record
taken_for n (open! o) a = []
taken_for n (rename! old new) a = []
taken_for n (close! m) a = []
taken_for n (record! m r) a = cond (is_done a && eqb n m) (r ∷ []) []
taken_for n serve! a = []

abbrev pub is_for : (n : ℕ) → Answer → Bool
is_for n (gives code) = false
is_for n (takes a) = false
is_for n (sends s) = eqb n s.block
is_for n (bursts r) = false

abbrev pub sent_for : (n : ℕ) → Answer → List Record
sent_for n a = cond (is_for n a) (record_of a) []

-- the lane and the share of the open block that has n
abbrev pub lane_of : Board → (n : ℕ) → List Record
lane_of b n = by_found (find b n) (λ p. (at b p).lane) []

abbrev pub share_of : Board → (n : ℕ) → ℕ
share_of b n = by_found (find b n) (λ p. (at b p).share) 0

abbrev pub class_at : Board → (n : ℕ) → ℕ
class_at b n = class_of (share_of b n)

-- the story of a block: its number now, the records taken in and those sent since its opening, and whether it is closed
pub record Story : Type 0 where
  pub number : ℕ
  pub taken : List Record
  pub sent : List Record
  pub closed : Bool

abbrev pub begins : (block : ℕ) → Story
begins block = record { number = block; taken = []; sent = []; closed = false }

abbrev pub goes_on : Story → Single → Answer → Story
goes_on s x a =
    record {
      number = number_after s.number x a;
      taken = s.taken ++ taken_for s.number x a;
      sent = s.sent ++ sent_for s.number a;
      closed = closes s.number x a;
    }

-- a closed block's story is over: the same number opened again is another block
abbrev pub tells : (closed : Bool) → Story → Single → Answer → Story
tells true s x a = s
tells false s x a = goes_on s x a

unfoldable pub story : Story → Board → List Single → Story
story s b [] = s
story s b (x ∷ xs) = story (tells s.closed s x (answer b x)) (step b x).next xs

-- none of the calls sends from the block that has n
unfoldable pub Unsent : (n : ℕ) → Board → List Single → Type 0
Unsent n b [] = Unit {0}
Unsent n b (x ∷ xs) = (is_for n (answer b x) ≡ false) × Unsent (number_after n x (answer b x)) (step b x).next xs

-- The call brings a record to the front of the lane of the block that has n: it comes into the empty lane, or the one
-- before it is sent.
pub data ComesToFront (b : Board) (n : ℕ) : Single → Type 0 where
  into_empty : (r : Record) → is_done (answer b (record! n r)) ≡ true → lane_of b n ≡ []
      → ComesToFront b n (record! n r)
  next_up : is_for n (answer b serve!) ≡ true → 1 ≤ length (lane_of (step b serve!).next n) → ComesToFront b n serve!

-- ---- Slots of a block

-- the slot's clock that an answer tells
abbrev pub clock_of : Answer → ℕ
clock_of (gives code) = 0
clock_of (takes a) = 0
clock_of (sends s) = s.clock
clock_of (bursts r) = 0

-- the call begins a slot of the block that has n: no slot was open, and it sends from that block
abbrev pub begins_slot : (n : ℕ) → Board → Single → Bool
begins_slot n b x = is_none b.slot && is_for n (answer b x)

-- it begins at a clock from lo up to, but not at, hi
abbrev pub begins_in : (lo hi n : ℕ) → Board → Single → Bool
begins_in lo hi n b x = begins_slot n b x && leb lo (clock_of (answer b x)) && ltb (clock_of (answer b x)) hi

-- how many slots of the block that has n the calls begin from lo up to hi, until it is closed
unfoldable pub slots_in : (lo hi n : ℕ) → Board → List Single → ℕ
slots_in lo hi n b [] = 0
slots_in lo hi n b (x ∷ xs) =
    let later = slots_in lo hi (number_after n x (answer b x)) (step b x).next xs in
    one_if (begins_in lo hi n b x) + cond (closes n x (answer b x)) 0 later

-- ---- Held shares, as document 01 words them

-- a share that a closing left held, its class, and the next start of the class above the clock at closing
pub record Hold : Type 0 where
  pub share : ℕ
  pub class : ℕ
  pub until : ℕ

-- If none waits at closing, nothing is held.
abbrev pub closing : Board → Single → Answer → List Hold
closing b (open! o) a = []
closing b (rename! old new) a = []
closing b (close! n) a =
    cond (is_done a && some_wait b.places)
    (record { share = share_of b n; class = class_at b n; until = next_start (class_at b n) b.clock } ∷ []) []
closing b (record! n r) a = []
closing b serve! a = []

-- It is held until the clock reaches that start, or until no block waits.
unfoldable pub still_held : Board → List Hold → List Hold
still_held b [] = []
still_held b (h ∷ hs) =
    let rest = still_held b hs in cond (ltb b.clock h.until && some_wait b.places) (h ∷ rest) rest

-- the holds of a row's closings whose release has not come
unfoldable pub holds : List Hold → Board → List Single → List Hold
holds hs b [] = hs
holds hs b (x ∷ xs) = holds (still_held (step b x).next (hs ++ closing b x (answer b x))) (step b x).next xs

-- what they hold of class k
abbrev pub held_of : (k : ℕ) → Hold → ℕ
held_of k h = cond (eqb k h.class) h.share 0
