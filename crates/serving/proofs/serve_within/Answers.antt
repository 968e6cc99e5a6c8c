-- `serving::serve_within` meets its contract: the lane that is read lies in the table (can_read), and what was chosen
-- can be served, as is asked; that each return is the definition's is found by search. Assumes nothing.
use Prim.Native.Nat.{◌<◌}
use lib.ListN.{length}
use mathlib.Core.Path.{◌≡◌, sym}
use native.Mathlib.Omega.{arith}
use borrow.Author.Rules.{rules}
use Rattle.board.specs.Memory.{engine_of}
use Rattle.slots.specs.Slots.{opened}
use Rattle.serving.specs.Serving.{CanEnact}
use Rattle.serving.proofs.Cases.{can_read}
use Rattle.serving.proofs.serve_within.Goals.{In_ok-turn}
use Rattle.serving.proofs.serve_within.Goals as goal

-- what was chosen can be served
can_enact : (c : In_ok-turn)
    → CanEnact c.args.b.now.shares c.args.lens.now c.args.b.now.largest c.in_ok-turn.turn.place c.in_ok-turn.turn.time (engine_of c.args.b.now)
can_enact c = c.requires.enacts _ _ (sym c.in_ok-turn.ensures)

-- its lane is in the table
in_table : (c : In_ok-turn) → (c.in_ok-turn.turn.place < 64) × (length c.args.lens.now ≡ 2048)
in_table c = can_read _ _ _ _ _ _ (can_enact c)

pub offset_bounds-b-place : goal.offset_bounds-b-place
offset_bounds-b-place c =
    let h = (in_table (goal.at.offset_bounds-b-place c).In_ok-turn).0 in search rules

pub bounds-b-place : goal.bounds-b-place
bounds-b-place c = (in_table (goal.at.bounds-b-place c).In_ok-turn).0

pub entry-entry-requires : goal.entry-entry-requires
entry-entry-requires c = (in_table (goal.at.entry-entry-requires c).In_ok-turn).0

pub bounds-lens-entry : goal.bounds-lens-entry
bounds-lens-entry c =
    omega (arith, c.entry-entry.ensures.1, (in_table (goal.at.bounds-lens-entry c).In_ok-turn).1)

pub open_slot-requires-clause-begins : goal.open_slot-requires-clause-begins
open_slot-requires-clause-begins c = (can_enact (goal.at.open_slot-requires-clause-begins c).In_ok-turn).begins

pub send-lost-requires-clause-open : goal.send-lost-requires-clause-open
unfolding opened
send-lost-requires-clause-open c = rw c.open_slot.ensures
