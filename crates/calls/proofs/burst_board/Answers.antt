-- `calls::burst_board` meets its contract: what a burst gives from each round on is what it gives from the first.
-- Assumes nothing.
use mathlib.Core.Path.{refl, sym, ◌∙◌}
use Prim.Native.Nat.{◌-◌, ◌≤◌, ◌<◌}
use native.Mathlib.Omega.{arith}
use lib.ListN.{length, length-set}
use Rattle.serving.proofs.Known.{can_known}
use Rattle.calls.proofs.Promises.{burst_start, burst_stop, burst_on, on_inside, on_room, on_fits, on_known}
use Rattle.calls.proofs.burst_board.Goals.{In-Ok}
use Rattle.calls.proofs.burst_board.Goals as goal

-- the list had room for it, it was within the bytes that remained, and its entry is one of a table
room : (c : In-Ok) → c.rounds.count < length c.rounds.list
room c = on_room _ _ _ c.rounds.invariant.known _ _ _ _ _ c.in-Ok.ensures.rest _ c.in-Ok.ensures.served

fits : (c : In-Ok) → c.in-Ok.served.bytes.0 ≤ c.args.bytes.0 - c.rounds.total.0
fits c = on_fits _ _ _ c.rounds.invariant.known _ _ _ _ _ c.in-Ok.ensures.rest _ c.in-Ok.ensures.served

inside : (c : In-Ok) → c.in-Ok.served.entry < 2048
inside c = on_inside _ _ _ c.rounds.invariant.known _ _ _ _ _ c.in-Ok.ensures.rest _ c.in-Ok.ensures.served

pub rounds-init : goal.rounds-init
rounds-init c =
    record { within = omega arith; as_long = refl; spent = omega arith; known = c.requires; goes_on = burst_start _ _ _ _ _ }

pub serve_within-requires : goal.serve_within-requires
serve_within-requires c = can_known _ _ _ c.rounds.invariant.known

pub overflow_add-total : goal.overflow_add-total
overflow_add-total c = omega (arith, fits (goal.at.overflow_add-total c).In-Ok, c.rounds.invariant.spent)

pub offset_bounds-ids-served : goal.offset_bounds-ids-served
offset_bounds-ids-served c = omega (arith, inside (goal.at.offset_bounds-ids-served c).In-Ok)

pub bounds-ids-served : goal.bounds-ids-served
bounds-ids-served c = omega (arith, inside (goal.at.bounds-ids-served c).In-Ok, c.requires.ids_all)

pub bounds-list-count : goal.bounds-list-count
bounds-list-count c = room (goal.at.bounds-list-count c).In-Ok

pub rounds-smaller : goal.rounds-smaller
rounds-smaller c = omega (arith, room (goal.at.rounds-smaller c).In-Ok, c.rounds.invariant.as_long)

pub rounds-preserved : goal.rounds-preserved
rounds-preserved c =
    let i = c.rounds.invariant in
    let k = on_known _ _ _ i.known _ _ _ _ _ c.in-Ok.ensures.rest _ c.in-Ok.ensures.served in
    let on = burst_on _ _ _ i.known _ _ _ _ _ c.in-Ok.ensures.rest _ c.in-Ok.ensures.served in
    record {
      within = omega (arith, room (goal.at.rounds-preserved c).In-Ok, i.as_long);
      as_long = rw length-set i.as_long;
      spent = omega (arith, fits (goal.at.rounds-preserved c).In-Ok, i.spent);
      known = k;
      goes_on = i.goes_on ∙ on;
    }

pub returns-in-Err : goal.returns-in-Err
returns-in-Err c =
    burst_stop _ _ _ c.rounds.invariant.known _ _ _ _ _ c.in-Err.ensures.rest _ c.in-Err.ensures.served ∙ sym c.rounds.invariant.goes_on
