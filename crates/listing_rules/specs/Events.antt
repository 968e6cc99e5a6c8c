-- WHAT A FIELD DOES to a board that is made: the turn of the call that it says.
use Rattle.rules.specs.Board.{Board}
use Rattle.rules.specs.Choice.{done, Turn}
use Rattle.rules.specs.Blocks.{meant}
use Rattle.rules.specs.Calls.{open!, rename!, close!, record!, serve!, step}
use Rattle.log_bytes.specs.declared.Event.{Event}
use Rattle.log_bytes.specs.declared.Event.TheVariants.{Largest, Open, Close, Rename, Arrive, Serve, Passed}

-- nothing is done
abbrev pub idle : Board → Turn
idle b = record { out = done; next = b }

-- Tags 128 to 255 are passed over. (L makes the board, and no log has it twice.)
abbrev pub turn_of : Board → Event → Turn
turn_of b (Largest l) = idle b
turn_of b (Open o) = step b (open! (meant o))
turn_of b (Close block) = step b (close! block)
turn_of b (Rename old new) = step b (rename! old new)
turn_of b (Arrive block number bytes) = step b (record! block (record { number = number; bytes = bytes }))
turn_of b Serve = step b serve!
turn_of b Passed = idle b
