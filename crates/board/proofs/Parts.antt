-- A board that is given back the parts that were taken of it is as it was: nothing else of it changes with a part.
use mathlib.Core.Path.{◌≡◌, refl}
use Rattle.board.specs.declared.Board.{Board}
use Rattle.board.specs.Memory.{blocks_of, with_blocks, engine_of, with_engine, orders_of, with_orders, taking_of, with_taking}

pub blocks_back : (b : Board) → with_blocks b (blocks_of b) ≡ b
blocks_back b = refl

pub engine_back : (b : Board) → with_engine b (engine_of b) ≡ b
engine_back b = refl

pub orders_back : (b : Board) → with_orders b (orders_of b) ≡ b
orders_back b = refl

pub taking_back : (b : Board) → with_taking b (taking_of b) ≡ b
taking_back b = refl
