-- ONE FIELD DONE: what is held before a field and after it, and what the step tells. No line is written here.
use Rattle.std.specs.Prelude.{◌≡◌, ◌≤◌, ◌<◌, get_or, Bool, true, false, Result, Ok, Err, Option, Some, None}
use Rattle.numbers.specs.declared.refusal.Refusal.{Refusal}
use Rattle.rules.specs.Board.{Board, at, bytes_charged}
use Rattle.rules.specs.Choice.{Out, refused, done, taken, sent, Sending}
use Rattle.rules.specs.Calls.{told, code_of}
use Rattle.log_bytes.specs.declared.Event.{Event}
use Rattle.log_bytes.specs.declared.Event.TheVariants.{Largest, Open, Close, Rename, Arrive, Serve, Passed}
use Rattle.listing_rules.specs.Events.{turn_of}
use Rattle.board.specs.Reading.{view}
use Rattle.board.specs.Memory.{After, numbers_of, Holding}
use Rattle.board.specs.Leaving.{Known}
use Rattle.serving.specs.declared.Served.{Served}
use Rattle.serving.specs.Serving.{ServeTells, untold, Step, step_of, stayed, step_in}

-- What a step tells where the rules' turn came to this: of a record that was sent all, else nothing.
abbrev pub told_by : Out → ServeTells
told_by (refused code) = untold
told_by done = untold
told_by (taken a) = untold
told_by (sent x) =
    record {
      place = x.place;
      entry = x.entry;
      bytes = bytes_charged x.front;
      clock = x.clock;
      began = x.began;
      lost = x.lost;
    }

-- What stands in memory after a send from board m: place and entry are inside; the entry still has the record, and the
-- place the number and the share of its block. No record is charged more than 65,536 bytes.
pub record SendSeen (m : Board) (x : Sending) (n : Holding) : Type 0 where
  pub place : x.place < 64
  pub entry : x.entry < 2048
  pub number : get_or n.ids x.entry 0 ≡ x.front.number
  pub bytes : get_or n.lens x.entry 0 ≡ x.front.bytes
  pub block : get_or n.board.numbers x.place 0 ≡ (at m x.place).number
  pub share : get_or n.board.shares x.place 0 ≡ (at m x.place).share
  pub small : bytes_charged x.front ≤ 65536

-- A field is done: what is held after it is good and reads as the rules say, and the step tells what came of it.
pub record Acted (s : Holding) (e : Event) (n : Holding) (r : Step) : Type 0 where
  pub good : Known n.board n.ids n.lens
  pub next : view n.board n.ids n.lens ≡ (turn_of (view s.board s.ids s.lens) e).next
  pub tells : let m = view s.board s.ids s.lens in
      let out = (turn_of m e).out in
      r ≡ step_of (code_of (told m out)) (told_by out) (numbers_of n.board)
  pub sends : let m = view s.board s.ids s.lens in
      (x : Sending) → (turn_of m e).out ≡ sent x → SendSeen m x n

-- The step that the answer of the code tells, with the board's numbers after it: a field that is no serve tells of no
-- record.
abbrev pub step_of_act : Result (Option Served) Refusal → After → Step
step_of_act (Ok None) now = stayed 0 now
step_of_act (Ok (Some served)) now = step_in (Ok served) now
step_of_act (Err refusal) now = step_in (Err refusal) now

-- Of all fields only a serve that is done tells of a record.
abbrev pub serves : Event → Bool
serves (Largest l) = false
serves (Open opening) = false
serves (Close block) = false
serves (Rename old new) = false
serves (Arrive block number bytes) = false
serves Serve = true
serves Passed = false
