-- THE PROMISES of a serve and of a burst, from what the rules say of them (crate rules, specs/Calls.antt).
use Rattle.std.proofs.Math.Option.{Option, none, some}
use Rattle.std.specs.Prelude.{Result, Ok, Err, List, ◌++◌, ℕ, length, drop}
use Rattle.numbers.specs.declared.refusal.Refusal.{Refusal}
use Rattle.numbers.specs.Codes.{refusal_code}
use Rattle.units.specs.declared.Bytes.{Bytes}
use Rattle.rules.specs.Board
use Rattle.rules.specs.Choice.{serve}
use Rattle.rules.specs.Burst.{Burst, burst}
use Rattle.rules.specs.Calls.{serve!, one, burst!, Answer, gives, takes, sends, bursts, told, call}
use Rattle.board.specs.declared.Board as struct
use Rattle.board.specs.Reading.{encode, view}
use Rattle.board.specs.Leaving.{Returned, returned, ids_after, lens_after, spelt}
use Rattle.calls.specs.Promises.{lent}
use Rattle.calls.specs.declared.Sent.{Sent}
use Rattle.calls.specs.declared.Bursted.{Bursted}

-- ---- A serve. It is lent both tables and changes no entry

-- its answer: its code; the block that is served, the number and the length of the record sent, and the slot's clock;
-- and the board
pub record Served : Type 0 where
  pub code : ℕ
  pub block : ℕ
  pub number : ℕ
  pub length : ℕ
  pub clock : ℕ
  pub board : struct.Board

-- A refusal carries its code and no other number, and the board is the same value.
abbrev pub not_served : struct.Board → (code : ℕ) → Served
not_served b code = record { code = code; block = 0; number = 0; length = 0; clock = 0; board = b }

-- what the call comes to, and the board that it leaves
abbrev pub served_in : Result Sent Refusal → struct.Board → Served
served_in (Ok s) b =
    record { code = 0; block = s.block; number = s.number; length = s.length; clock = s.clock; board = b }
served_in (Err r) b = not_served b (refusal_code r)

-- what the rules tell, and their next board written
abbrev pub served_by : struct.Board → Answer → Board.Board → Served
served_by b (gives code) next = not_served b code
served_by b (takes a) next = not_served b 0
served_by b (sends s) next =
    record { code = 0; block = s.block; number = s.number; length = s.bytes; clock = s.clock; board = encode next }
served_by b (bursts r) next = not_served b 0

unfoldable pub good_serve : struct.Board → (ids lens : List ℕ) → Served
good_serve b ids lens = let m = view b ids lens in served_by b (told m (serve m).out) (serve m).next

-- ---- A burst. Of the lent list only the first entries, as many as the count, are written

-- its answer: how many records it sent, the bytes they total, and the code that stopped it; and the board
pub record BurstReply : Type 0 where
  pub count : ℕ
  pub bytes : Bytes
  pub code : ℕ
  pub board : struct.Board

pub record BurstOutcome : Type 0 where
  pub answer : BurstReply
  pub list : List ℕ

abbrev pub burst_now : BurstReply → (list : List ℕ) → BurstOutcome
burst_now answer list = record { answer = answer; list = list }

abbrev pub burst_reply : (count total code : ℕ) → struct.Board → BurstReply
burst_reply count total code b = record { count = count; bytes = record { 0 = total }; code = code; board = b }

-- what the call comes to, and the board that it leaves
abbrev pub bursted_in : Bursted → struct.Board → BurstReply
bursted_in r b = burst_reply r.count r.bytes.0 (refusal_code r.stopped) b

abbrev pub burst_by : Burst → (list : List ℕ) → BurstOutcome
burst_by r list =
    burst_now (burst_reply r.count r.total r.code (encode r.next))
    (r.numbers ++ drop (length r.numbers) list)

unfoldable pub good_burst : struct.Board → (ids lens : List ℕ) (bytes : ℕ) (list : List ℕ) → BurstOutcome
good_burst b ids lens bytes list = burst_by (burst (view b ids lens) bytes (length list)) list

-- ---- The same on any value: 3, then 2, then what the rules say, of the tables' entries too

-- the board that an outcome leaves; where it leaves none, the one that was read
abbrev pub board_or : Board.Board → Option Board.Board → Board.Board
board_or m none = m
board_or m (some next) = next

unfoldable pub called_serve : struct.Board → (ids lens : List ℕ) → Returned Served
called_serve b ids lens =
    let o = call (lent b ids lens) (one serve!) in
    let served = served_by b o.answer (board_or (view b ids lens) o.board) in
    returned served (ids_after o.entries ids) (lens_after o.entries lens)

-- A burst that is given 3 or 2 sends nothing and leaves board and list.
abbrev pub bursted_by : struct.Board → Answer → Option Board.Board → (list : List ℕ) → BurstOutcome
bursted_by b (gives code) next list = burst_now (burst_reply 0 0 code b) list
bursted_by b (takes a) next list = burst_now (burst_reply 0 0 0 b) list
bursted_by b (sends s) next list = burst_now (burst_reply 0 0 0 b) list
bursted_by b (bursts r) next list = burst_now (burst_reply r.count r.total r.code (spelt b next)) list

unfoldable pub called_burst : struct.Board → (ids lens : List ℕ) (bytes : ℕ) (list : List ℕ) → Returned BurstOutcome
called_burst b ids lens bytes list =
    let o = call (lent b ids lens) (burst! bytes list) in
    returned (bursted_by b o.answer o.board o.list) (ids_after o.entries ids) (lens_after o.entries lens)
