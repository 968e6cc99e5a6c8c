-- THE PROMISES of the calls: the answer, the board and both tables after a call, from what the rules say of it (crate
-- rules, specs/Calls.antt).
use Rattle.std.specs.Prelude.{cond, Result, Ok, Err, List, ℕ, length}
use Rattle.std.proofs.Math.Option.{none, some}
use Rattle.numbers.specs.declared.refusal.Refusal.{Refusal}
use Rattle.numbers.specs.Codes.{refusal_code}
use Rattle.rules.specs.Board.{fresh}
use Rattle.rules.specs.Calls.{Single, one, Lent, call, make}
use Rattle.board.specs.declared.Board as struct
use Rattle.board.specs.Reading.{encode, view, is_spelt}
use Rattle.board.specs.Leaving.{Reply, Returned, replied, written}

-- ---- A call on any value: 3, then 2, then what the rules say

-- what is lent: the tables' lengths, and the board that the value spells, or none where it spells none
abbrev pub lent : struct.Board → (ids lens : List ℕ) → Lent
lent b ids lens =
    let board = cond (is_spelt b ids lens) (some (view b ids lens)) none in
    record { numbers = length ids; lengths = length lens; board = board }

unfoldable pub called : struct.Board → (ids lens : List ℕ) → Single → Returned Reply
called b ids lens x = written b ids lens (call (lent b ids lens) (one x))

-- ---- A making is lent no board; where it is refused, it gives the board of all zeros

-- what the call comes to: of a refusal the code, and no board but that of all zeros
abbrev pub made_in : Result struct.Board Refusal → Reply
made_in (Ok b) = replied 0 b
made_in (Err r) = replied (refusal_code r) (encode (fresh 0))

unfoldable pub made : (ids lens : List ℕ) (L : ℕ) → Returned Reply
made ids lens L = written (encode (fresh 0)) ids lens (make (length ids) (length lens) L)
