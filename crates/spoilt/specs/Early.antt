-- THE CODE BEFORE ALL OTHERS: what each call but a making tests first.
use Rattle.std.specs.Prelude.{cond, List, ℕ, length}
use Rattle.rules.specs.Calls.{wrong_tables}
use Rattle.board.specs.declared.Board as struct
use Rattle.board.specs.Reading.{is_sound}

-- the code that comes before all others, or 0
unfoldable pub early_code : struct.Board → (ids lens : List ℕ) → ℕ
early_code b ids lens = cond (wrong_tables (length ids) (length lens)) 3 (cond (is_sound b ids lens) 0 2)
