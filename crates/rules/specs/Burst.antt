-- A BURST (document 01, under that heading): serve repeatedly as long as the next record is no longer than what remains
-- of a number of bytes and the lent list has room.
use Rattle.std.specs.Prelude.{cond, List, [], ◌∷◌, ℕ, zero, suc, ◌+◌, ◌-◌, ltb}
use Rattle.rules.specs.Board.{Record, bytes_charged, Board}
use Rattle.rules.specs.Choice.{Out, refused, done, taken, sent, serve}

-- The count of records sent, the bytes they total, the code that stopped it, the record numbers written, in order, and
-- the next board.
pub record Burst : Type 0 where
  pub count : ℕ
  pub total : ℕ
  pub code : ℕ
  pub numbers : List ℕ
  pub next : Board

-- it stops here
abbrev pub stopped : Board → (code : ℕ) → Burst
stopped b code = record { count = 0; total = 0; code = code; numbers = []; next = b }

-- one more record is sent before the rest
abbrev pub sent_first : Record → Burst → Burst
sent_first r rest =
    record {
      count = suc rest.count;
      total = bytes_charged r + rest.total;
      code = rest.code;
      numbers = r.number ∷ rest.numbers;
      next = rest.next;
    }

-- The list has no room: codes 1 and 11 as a single call would give, else 14. (A serve is refused or sends; it does
-- nothing else.)
abbrev pub no_room : Board → Out → Burst
no_room b (refused code) = stopped b code
no_room b done = stopped b 14
no_room b (taken a) = stopped b 14
no_room b (sent s) = stopped b 14

-- It has room: 1 and 11; then 13 where the next record exceeds the bytes remaining; else that record is sent, and the
-- burst goes on.
abbrev pub with_room : Board → (bytes : ℕ) → Out → Burst → Burst
with_room b bytes (refused code) rest = stopped b code
with_room b bytes done rest = stopped b 14
with_room b bytes (taken a) rest = stopped b 14
with_room b bytes (sent s) rest = cond (ltb bytes (bytes_charged s.front)) (stopped b 13) (sent_first s.front rest)

-- what the record to be sent next takes of the bytes
abbrev pub charge_next : Out → ℕ
charge_next (refused code) = 0
charge_next done = 0
charge_next (taken a) = 0
charge_next (sent s) = bytes_charged s.front

-- a number of bytes, and a list with room for so many records
unfoldable pub burst : Board → (bytes room : ℕ) → Burst
burst b bytes zero = no_room b (serve b).out
burst b bytes (suc room) =
    let rest = burst (serve b).next (bytes - charge_next (serve b).out) room in with_room b bytes (serve b).out rest
