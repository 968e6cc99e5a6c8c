-- THE PROMISES: demands 1 to 3, each a named proposition over every run and any class.
-- Their proofs stand in proofs/, and proofs/Promises.antt gathers one theorem for each.
use Rattle.std.specs.Prelude.{◌≡◌, true, false, cond, ◌⊎◌, ◌≢◌, List, [], ◌∷◌, ◌++◌, map, ℕ, suc, ◌+◌, ◌*◌, ◌-◌, ◌^◌}
use Rattle.std.specs.Prelude.{◌≤◌, ◌<◌, max, length, replicate}
use Rattle.std.proofs.Math.Option.{none, some}
use Rattle.base.specs.Sums.{sum}
use Rattle.base.specs.Tests.{least}
use Rattle.units.specs.Classes.{Start, next_start}
use Rattle.units.specs.Credit.{charged, largest_charge, credit_of}
use Rattle.rules.specs.Board.{table_length, Record, bytes_charged, Place, Board, at, entry, front, Seventeen}
use Rattle.rules.specs.Board.{some_wait}
use Rattle.rules.specs.Board.{active, pending, fresh}
use Rattle.rules.specs.Choice.{Sending, sent, open_at, find, is_none, least_ready, left_of, serve}
use Rattle.rules.specs.Blocks.{Opening}
use Rattle.rules.specs.Burst.{Burst, burst}
use Rattle.rules.specs.Spoilt.{spoilt}
use Rattle.rules.specs.Calls.{Single, open!, serve!, step, Call, one, burst!, Sent, gives, sends, code_of, Lent}
use Rattle.rules.specs.Calls.{kept, Outcome, list_of, done!, call, make}
use Rattle.rules.specs.Runs

-- ---- Runs

-- L is 64 to 2,048.
pub record InRange (L : ℕ) : Type 0 where
  pub low : 64 ≤ L
  pub high : L ≤ 2048

-- a board of a run: a done making, then a row of single calls
pub record OfRun (L : ℕ) (b : Board) : Type 0 where
  pub size : InRange L
  pub calls : List Single
  pub is : b ≡ Runs.play (fresh L) calls

-- A run with bursts comes to the boards of its row of single calls.
abbrev pub RunIsRow : Type 0
RunIsRow = (b : Board) (cs : List Call) → Runs.runs b cs ≡ Runs.play b (Runs.row b cs)

-- ---- Demand 1: a refusal changes neither board nor tables

-- A single call that is refused carries its code alone, and leaves board and entries.
pub record KeepsAll (lent : Lent) (c : Call) (left : Outcome) : Type 0 where
  pub alone : left.answer ≡ gives (code_of left.answer)
  pub board : left.board ≡ lent.board
  pub entries : left.entries ≡ kept
  pub list : left.list ≡ list_of c

abbrev pub RefusalKeeps : Type 0
RefusalKeeps =
    (lent : Lent) (x : Single) → code_of (call lent (one x)).answer ≢ 0 → KeepsAll lent (one x) (call lent (one x))

-- A burst that is given 3 or 2 leaves board, entries and list. (Its other codes stop it: BurstIsServes.)
abbrev pub BurstRefusalKeeps : Type 0
BurstRefusalKeeps =
    (lent : Lent) (bytes : ℕ) (list : List ℕ)
    → (code_of (call lent (burst! bytes list)).answer ≡ 3) ⊎ (code_of (call lent (burst! bytes list)).answer ≡ 2)
    → KeepsAll lent (burst! bytes list) (call lent (burst! bytes list))

-- A refused making leaves both tables, and the board that it gives is spoilt.
abbrev pub RefusedMaking : Type 0
RefusedMaking = (numbers lengths L : ℕ) → code_of (make numbers lengths L).answer ≢ 0
    → ((make numbers lengths L).entries ≡ kept) × ((make numbers lengths L).board ≡ some (fresh 0))
    × (spoilt (fresh 0) ≡ true)

-- A board that is not spoilt stays so under every call, of a run or not.
abbrev pub StaysUnspoilt : Type 0
StaysUnspoilt =
    (b : Board) (c : Call) → Seventeen b → spoilt b ≡ false
    → (spoilt (Runs.leaves b c) ≡ false) × Seventeen (Runs.leaves b c)

-- No board of a run is spoilt: lent with tables of 2,048 entries, every call does what the rules say, and none is given
-- 3 or 2.
pub record NotRefused (b : Board) (c : Call) : Type 0 where
  pub does : call (record { numbers = table_length; lengths = table_length; board = some b }) c ≡ done! b c
  pub not3 : code_of (done! b c).answer ≢ 3
  pub not2 : code_of (done! b c).answer ≢ 2

abbrev pub NeverSpoilt : Type 0
NeverSpoilt = (L : ℕ) (b : Board) → OfRun L b → (spoilt b ≡ false) × ((c : Call) → NotRefused b c)

-- ---- Demand 2: each record taken in is sent once, in its block's order, under the number that the block has when it
-- is sent, or it still stands in its lane. A closed block has none left.

pub record Accounted (s : Runs.Story) (b : Board) : Type 0 where
  pub when_closed : s.closed ≡ true → s.taken ≡ s.sent
  pub when_open : s.closed ≡ false
      → ((p : ℕ) × (find b s.number ≡ open_at p)) × (s.taken ≡ s.sent ++ Runs.lane_of b s.number)

abbrev pub Conserved : Type 0
Conserved = (L : ℕ) (b : Board) → OfRun L b → (o : Opening) (after : List Single)
    → code_of (Runs.answer b (open! o)) ≡ 0
    → let next = (step b (open! o)).next in
    Accounted (Runs.story (Runs.begins o.number) next after) (Runs.play next after)

-- ---- Demand 3

-- (2^(k+1) - 1) x (3L - 1)
abbrev pub bound : (L k : ℕ) → ℕ
bound L k = (2 ^ suc k - 1) * (3 * largest_charge L - 1)

-- From the moment a record comes to the front of a lane of class k until it is sent, at most that many bytes of other
-- records are sent.
abbrev pub ByteBound : Type 0
ByteBound = (L : ℕ) (b : Board) → OfRun L b → (n : ℕ) (x : Single) (after : List Single)
    → Runs.ComesToFront b n x → Runs.Unsent n (step b x).next after
    → Runs.bytes_in (step b x).next after ≤ bound L (Runs.class_at (step b x).next n)

-- It is sent: no more than that many single serving calls pass it, unless one is given 11.
abbrev pub SentInTime : Type 0
SentInTime = (L : ℕ) (b : Board) → OfRun L b → (n : ℕ) (x : Single) (after : List Single)
    → Runs.ComesToFront b n x → Runs.Unsent n (step b x).next after → Runs.NotSpent (step b x).next after
    → Runs.serves_in after ≤ bound L (Runs.class_at (step b x).next n)

-- While any record waits, each single serving call sends a record, unless the clock is used_share.
abbrev pub ServesSend : Type 0
ServesSend = (L : ℕ) (b : Board) → OfRun L b → some_wait b.places ≡ true
    → (Runs.answer b serve! ≡ gives 11) ⊎ ((s : Sent) × (Runs.answer b serve! ≡ sends s))

-- The call x brings the clock from below lo, a start of the class of the block that has n, to lo or past it, and the
-- block waits when it gets there: it waits before the call, and after it too unless the call itself began its slot at
-- lo or later. (Waiting before the call is not enough: the call may end the block's own slot with an empty lane as the
-- clock ticks to lo.)
pub record WaitsAt (n lo : ℕ) (b : Board) (x : Single) : Type 0 where
  pub start : Start (Runs.class_at b n) lo
  pub early : b.clock < lo
  pub reached : lo ≤ (step b x).next.clock
  pub before : 1 ≤ length (Runs.lane_of b n)
  pub after : (1 ≤ length (Runs.lane_of (step b x).next n))
      ⊎ ((Runs.begins_slot n b x ≡ true) × (lo ≤ Runs.clock_of (Runs.answer b x)))

-- A block already waiting when the clock reaches a start of its class has exactly one slot begun in that interval by
-- the time the clock reaches its end.
abbrev pub SlotOnce : Type 0
SlotOnce = (L : ℕ) (b : Board) → OfRun L b → (n lo : ℕ) (x : Single) (after : List Single)
    → WaitsAt n lo b x → lo + 2 ^ Runs.class_at b n ≤ (Runs.play (step b x).next after).clock
    → Runs.slots_in lo (lo + 2 ^ Runs.class_at b n) n b (x ∷ after) ≡ 1

-- No block ever has two slots begun in one interval of its class.
abbrev pub NeverTwice : Type 0
NeverTwice =
    (L : ℕ) (b : Board) → OfRun L b → (n p lo : ℕ) (after : List Single) → find b n ≡ open_at p
    → Start (Runs.class_at b n) lo
    → Runs.slots_in lo (lo + 2 ^ Runs.class_at b n) n b after ≤ 1

-- ---- A burst is that many single serving calls

abbrev pub serves : (n : ℕ) → List Single
serves n = replicate n serve!

-- why it stopped: the single call that would follow is refused with that code; or the list is full; or the next record
-- exceeds the bytes remaining
pub data Stopped (bytes room : ℕ) (r : Burst) : Type 0 where
  by_call : Runs.answer r.next serve! ≡ gives r.code → Stopped bytes room r
  by_list : (s : Sent) → Runs.answer r.next serve! ≡ sends s → r.count ≡ room → r.code ≡ 14 → Stopped bytes room r
  by_bytes : (s : Sent) → Runs.answer r.next serve! ≡ sends s → r.count < room
      → bytes < r.total + charged s.bytes → r.code ≡ 13 → Stopped bytes room r

pub record IsServes (b : Board) (bytes room : ℕ) (r : Burst) : Type 0 where
  pub next : r.next ≡ Runs.play b (serves r.count)
  pub total : r.total ≡ Runs.bytes_in b (serves r.count)
  pub numbers : r.numbers ≡ map (λ (x : Record). x.number) (Runs.records_in b (serves r.count))
  pub each_sends : length (Runs.records_in b (serves r.count)) ≡ r.count
  pub fits_list : r.count ≤ room
  pub fits_bytes : r.total ≤ bytes
  pub stop : Stopped bytes room r

abbrev pub BurstIsServes : Type 0
BurstIsServes = (b : Board) (bytes room : ℕ) → IsServes b bytes room (burst b bytes room)

-- ---- What document 01 says of boards of a run on the way

-- A deficit is always under L bytes.
abbrev pub DeficitsSmall : Type 0
DeficitsSmall = (L : ℕ) (b : Board) → OfRun L b → (p : ℕ) → (at b p).deficit < largest_charge L * 65536

-- A slot sends at most 3L - 1 bytes.
abbrev pub SlotsSmall : Type 0
SlotsSmall =
    (L : ℕ) (b : Board) → OfRun L b → (t : ℕ) (after : List Single)
    → Runs.slot_bytes t b after ≤ 3 * largest_charge L - 1

-- If none is pending, the least ready time equals the next start of the lowest active class, on every board that is not
-- spoilt.
abbrev pub JumpIsStart : Type 0
JumpIsStart = (b : Board) → Seventeen b → spoilt b ≡ false → b.slot ≡ none → ((k : ℕ) → pending b k ≡ false)
    → (r : ℕ) → least_ready b.places ≡ some r → r ≡ next_start (least (active b) 17) b.clock

-- The held shares are those of the closings whose release has not come.
abbrev pub HeldAreClosings : Type 0
HeldAreClosings =
    (L : ℕ) → InRange L → (xs : List Single) (k : ℕ)
    → (Runs.play (fresh L) xs).held k ≡ sum (Runs.held_of k) (Runs.holds [] (fresh L) xs)

-- Code 1 is given exactly when no block waits; 11 exactly when one does, no slot is open, and the slot would begin at
-- 2^62 or later.
pub record ServeCodes (b : Board) : Type 0 where
  pub one : (Runs.answer b serve! ≡ gives 1 → some_wait b.places ≡ false)
      × (some_wait b.places ≡ false → Runs.answer b serve! ≡ gives 1)
  pub eleven : Runs.answer b serve! ≡ gives 11
      → (some_wait b.places ≡ true) × (b.slot ≡ none)
      × ((r : ℕ) × (least_ready b.places ≡ some r) × (2 ^ 62 ≤ max b.clock r))
  pub eleven_when : (r : ℕ) → b.slot ≡ none → least_ready b.places ≡ some r → 2 ^ 62 ≤ max b.clock r
      → Runs.answer b serve! ≡ gives 11

abbrev pub ServeRefusals : Type 0
ServeRefusals = (b : Board) → Seventeen b → spoilt b ≡ false → ServeCodes b

-- ---- What a send tells, on every board that is not spoilt

-- the parts that a place has in hand: its deficit, or what is left of its slot
abbrev pub in_hand : Place → ℕ
in_hand x = x.deficit + left_of x.stand

-- It was the front record of its place, in the entry where that stood. Its slot began with it exactly where no slot was
-- open before. Parts are lost only as the lane empties: what the place has after it, what was lost and what the record
-- was charged are what the place had before it, with the credit of the slot that began.
pub record SendTells (b next : Board) (s : Sending) : Type 0 where
  pub front : s.front ≡ front (at b s.place)
  pub entry : s.entry ≡ entry s.place (at b s.place) 0
  pub began : s.began ≡ is_none b.slot
  pub lost : 1 ≤ length (at next s.place).lane → s.lost ≡ 0
  pub parts : in_hand (at next s.place) + s.lost + bytes_charged s.front * 65536
      ≡ in_hand (at b s.place) + cond s.began (credit_of b.largest (at b s.place).share) 0

abbrev pub SendsTell : Type 0
SendsTell = (b : Board) → Seventeen b → spoilt b ≡ false
    → (s : Sending) → (serve b).out ≡ sent s → SendTells b (serve b).next s
