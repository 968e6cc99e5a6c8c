-- `board::Board::blank` meets its contract: what is written of a fresh board is computed, and all of it but L is 0.
-- Assumes nothing.
use mathlib.Core.Path.{refl}
use Rattle.rules.specs.Board.{fresh, any_waits, any_due}
use Rattle.bits.specs.Sets.{set_below}
use Rattle.board.specs.Reading.{encode, tab, behind, last_link}
use Rattle.board.proofs.Board.blank.Goals as goal

pub returns : goal.returns
unfolding encode fresh tab behind last_link set_below any_waits any_due
returns c = refl
