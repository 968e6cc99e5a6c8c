-- `calls::serve_board` meets its contract: a serve is one with room for a record and bytes for any. Assumes nothing.
use Prim.Native.Nat.{◌<◌}
use native.Mathlib.Omega.{arith}
use borrow.Author.Rules.{rules}
use Rattle.serving.proofs.Known.{can_known, sent_in}
use Rattle.calls.proofs.Promises.{serve_stops, serve_goes}
use Rattle.calls.proofs.serve_board.Goals.{In_ok-served}
use Rattle.calls.proofs.serve_board.Goals as goal

-- where a record was sent, its place and its entry
sent : (c : In_ok-served) → (c.in_ok-served.served.place < 64) × (c.in_ok-served.served.entry < 2048)
sent c =
    let g = sent_in _ _ _ c.requires c.serve_within.new.b _ _ _ c.in_ok-served.ensures.served in
    (g.inside, g.entry)

pub serve_within-requires : goal.serve_within-requires
serve_within-requires c = can_known _ _ _ c.requires

pub returns-in_err-served : goal.returns-in_err-served
returns-in_err-served c =
    serve_stops _ _ _ c.requires 65536 (omega arith) _ c.in_err-served.ensures.rest _ c.in_err-served.ensures.served _ (search rules)

pub offset_bounds-b-served : goal.offset_bounds-b-served
offset_bounds-b-served c = omega (arith, (sent (goal.at.offset_bounds-b-served c).In_ok-served).0)

pub bounds-b-served : goal.bounds-b-served
bounds-b-served c = (sent (goal.at.bounds-b-served c).In_ok-served).0

pub offset_bounds-ids-served : goal.offset_bounds-ids-served
offset_bounds-ids-served c = omega (arith, (sent (goal.at.offset_bounds-ids-served c).In_ok-served).1)

pub bounds-ids-served : goal.bounds-ids-served
bounds-ids-served c = omega (arith, (sent (goal.at.bounds-ids-served c).In_ok-served).1, c.requires.ids_all)

pub offset_bounds-lens-served : goal.offset_bounds-lens-served
offset_bounds-lens-served c = omega (arith, (sent (goal.at.offset_bounds-lens-served c).In_ok-served).1)

pub bounds-lens-served : goal.bounds-lens-served
bounds-lens-served c = omega (arith, (sent (goal.at.bounds-lens-served c).In_ok-served).1, c.requires.lens_all)

pub returns : goal.returns
returns c = serve_goes _ _ _ c.requires 65536 (omega arith) _ c.in_ok-served.ensures.rest _ c.in_ok-served.ensures.served
