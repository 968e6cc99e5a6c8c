-- WORKING DEFINITIONS: the front record is sent, on the board's lists. Theorems tie them to the rules; no
-- promise of a call cites one.
use Rattle.std.specs.Prelude.{◌≡◌, Bool, false, cond, List, ℕ, ◌+◌, ◌-◌, ◌^◌, ◌≤◌, ◌<◌, ltb, leb, eqb, get_or, set}
use Rattle.std.specs.Prelude.{length, Result, Ok, Err}
use Rattle.numbers.specs.declared.refusal.Refusal.{Refusal}
use Rattle.numbers.specs.Codes.{outcome_code}
use Rattle.units.specs.declared.Bytes.{Bytes}
use Rattle.units.specs.declared.Parts.{Parts}
use Rattle.units.specs.Classes.{class_of}
use Rattle.units.specs.Credit.{charged, charge_of}
use Rattle.lanes.specs.Lanes.{lane_entry, lane_on}
use Rattle.board.specs.declared.Board.{Board}
use Rattle.board.specs.Memory.{After, Queues, Engine, engine_now, numbers_now, engine_of}
use Rattle.slots.specs.Slots.{Choice, Stop, Go, choice_of, CanChoose, CanBegin, opened, ended_empty, ended_waiting}
use Rattle.serving.specs.declared.Served.{Served}

-- ---- The front record is sent

unfoldable pub sent_from : (shares lens : List ℕ) (place : ℕ) → Engine → Engine
sent_from shares lens place e =
    let start = get_or e.starts place 0 in
    let count = get_or e.counts place 0 - 1 in
    let starts = set e.starts place (lane_on start) in
    let counts = set e.counts place count in
    let k = class_of (get_or shares place 0) in
    let rest = e.now.left.0 - charge_of (get_or lens (lane_entry place start 0) 0) in
    let need = charge_of (get_or lens (lane_entry place (lane_on start) 0) 0) in
    let empty = ended_empty k e.now.clock e.now.active e.now.pending e.queues.heads e.queues.held in
    let waiting = ended_waiting place k rest e.now.clock e.now.active e.now.pending e.queues in
    cond (eqb count 0)
    (engine_now starts counts e.queues.deficits e.queues.ready e.queues.next e.queues.heads
    e.queues.tails empty.held empty.now)
    (cond (leb need rest)
    (record {
      starts = starts;
      counts = counts;
      queues = e.queues;
      now = numbers_now e.now.clock e.now.active e.now.pending (place + 1) rest;
    })
    (record { starts = starts; counts = counts; queues = waiting.queues; now = waiting.now }))

-- what is left of the slot where the lane empties, which is lost
unfoldable pub lost_from : (lens : List ℕ) (place : ℕ) → Engine → ℕ
lost_from lens place e =
    let rest = e.now.left.0 - charge_of (get_or lens (lane_entry place (get_or e.starts place 0) 0) 0) in
    cond (eqb (get_or e.counts place 0 - 1) 0) rest 0

pub record CanSend (shares lens : List ℕ) (place : ℕ) (e : Engine) : Type 0 where
  pub inside : place < 64
  pub table : length lens ≡ 2048
  pub some : 1 ≤ get_or e.counts place 0
  pub low : 1 ≤ get_or shares place 0
  pub high : get_or shares place 0 ≤ 65536
  pub tail : get_or e.queues.tails (class_of (get_or shares place 0)) 0 ≤ 64
  pub time : e.now.clock < 2 ^ 62
  pub fits : charge_of (get_or lens (lane_entry place (get_or e.starts place 0) 0) 0) ≤ e.now.left.0

unfoldable pub enacted : (shares lens : List ℕ) (largest place time : ℕ) → Engine → Engine
enacted shares lens largest place time e = sent_from shares lens place (opened shares largest place time e)

-- where no slot is open one can begin; and the slot that serves can send
pub record CanEnact (shares lens : List ℕ) (largest place time : ℕ) (e : Engine) : Type 0 where
  pub begins : e.now.slot ≡ 0 → CanBegin shares largest place (class_of (get_or shares place 0)) e.queues
  pub sends : CanSend shares lens place (opened shares largest place time e)

-- ---- One record is served, within a number of bytes and the room of a list

-- the code of one serve; what it tells: the place and the table entry of the record sent, and the bytes charged for
-- it; the clock at which its slot began, whether the slot began with it, and the parts lost; and the numbers after it
pub record Step : Type 0 where
  pub code : ℕ
  pub place : ℕ
  pub entry : ℕ
  pub bytes : Bytes
  pub slot_clock : ℕ
  pub began : Bool
  pub lost : Parts
  pub after : After

pub record Within : Type 0 where
  pub step : Step
  pub starts : List ℕ
  pub counts : List ℕ
  pub queues : Queues

-- the engine that it leaves
abbrev pub engine_after : Within → Engine
engine_after w = record { starts = w.starts; counts = w.counts; queues = w.queues; now = w.step.after }

-- what a serve tells of the record sent: its place, its entry and its charge; the slot's clock, whether the slot began
-- with it, and the parts lost
pub record ServeTells : Type 0 where
  pub place : ℕ
  pub entry : ℕ
  pub bytes : ℕ
  pub clock : ℕ
  pub began : Bool
  pub lost : ℕ

abbrev pub untold : ServeTells
untold = record { place = 0; entry = 0; bytes = 0; clock = 0; began = false; lost = 0 }

abbrev pub step_of : (code : ℕ) → ServeTells → After → Step
step_of code t now =
    record {
      code = code;
      place = t.place;
      entry = t.entry;
      bytes = record { 0 = t.bytes };
      slot_clock = t.clock;
      began = t.began;
      lost = record { 0 = t.lost };
      after = now;
    }

-- nothing is served
abbrev pub stayed : (code : ℕ) → After → Step
stayed code now = step_of code untold now

-- a code and what is told; the rest is the engine's
abbrev pub within_of : (code : ℕ) → ServeTells → Engine → Within
within_of code t e = record { step = step_of code t e.now; starts = e.starts; counts = e.counts; queues = e.queues }

-- what came of a serve: what it tells, the step, and what it leaves of a board
abbrev pub told_in : Result Served Refusal → ServeTells
told_in (Err _) = untold
told_in (Ok served) =
    record {
      place = served.place;
      entry = served.entry;
      bytes = served.bytes.0;
      clock = served.slot_clock;
      began = served.began;
      lost = served.lost.0;
    }

abbrev pub step_in : Result Served Refusal → After → Step
step_in outcome now = step_of (outcome_code outcome) (told_in outcome) now

abbrev pub within_in : Result Served Refusal → Board → Within
within_in outcome b = within_of (outcome_code outcome) (told_in outcome) (engine_of b)

-- the record that is sent from a place in the slot of that clock
abbrev pub told_of : (shares lens : List ℕ) (largest place time : ℕ) → Engine → ServeTells
told_of shares lens largest place time e =
    let entry = lane_entry place (get_or e.starts place 0) 0 in
    record {
      place = place;
      entry = entry;
      bytes = charged (get_or lens entry 0);
      clock = time;
      began = eqb e.now.slot 0;
      lost = lost_from lens place (opened shares largest place time e);
    }

-- codes 1 and 11 as chosen; 14 without room; 13 where the record exceeds the bytes
abbrev pub served_by : (shares lens : List ℕ) (largest bytes room : ℕ) → Engine → Choice → Within
served_by shares lens largest bytes room e (Stop code) = within_of code untold e
served_by shares lens largest bytes room e (Go place time) =
    let told = told_of shares lens largest place time e in
    cond (eqb room 0) (within_of 14 untold e)
    (cond (ltb bytes told.bytes) (within_of 13 untold e)
    (within_of 0 told (enacted shares lens largest place time e)))

unfoldable pub served_within : (shares lens : List ℕ) (largest bytes room : ℕ) → Engine → Within
served_within shares lens largest bytes room e = served_by shares lens largest bytes room e (choice_of e)

pub record CanServe (shares lens : List ℕ) (largest : ℕ) (e : Engine) : Type 0 where
  pub chooses : CanChoose e.now.clock e.now.active e.now.pending e.now.slot e.queues.heads
  pub enacts : (place time : ℕ) → choice_of e ≡ Go place time → CanEnact shares lens largest place time e
