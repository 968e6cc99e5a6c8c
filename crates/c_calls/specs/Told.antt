-- WHAT C IS TOLD, as the answers of the calls
use Rattle.std.specs.Prelude.{ℕ}
use Rattle.board.specs.declared.Board.{Board}
use Rattle.calls.specs.declared.Sent.{Sent}
use Rattle.calls.specs.Contract.{Served, BurstReply, burst_reply}
use Rattle.c_calls.specs.declared.Total.{Total}

-- a serve's answer: its code, what was sent, and the board
abbrev pub served_of : (code : ℕ) → Sent → Board → Served
served_of code s b =
    record { code = code; block = s.block; number = s.number; length = s.length; clock = s.clock; board = b }

-- a burst's answer: its code, the total, and the board
abbrev pub bursted_of : (code : ℕ) → Total → Board → BurstReply
bursted_of code t b = burst_reply t.count t.bytes code b
