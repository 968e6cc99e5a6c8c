-- `reporting::show_places` meets its contract. What is written so far, and the lines of the places that follow, are what
-- was left at the beginning. Assumes nothing.
use Rattle.reporting.proofs.Shown.{showing_next, showing_more, showing_last}
use Rattle.reporting.proofs.show_places.Goals as goal

pub returns-then-out-used-lt-REPORT_ROOM : goal.returns-then-out-used-lt-REPORT_ROOM
returns-then-out-used-lt-REPORT_ROOM c =
    let i = c.loop-place.invariant in
    showing_more _ _ _ _ _ i.showing _ i.same_state c.requires.going c.requires.room c.if-out-used-lt-REPORT_ROOM.true

pub put_place-used-requires-clause-account_small : goal.put_place-used-requires-clause-account_small
put_place-used-requires-clause-account_small c = rw c.loop-place.invariant.same_state (c.requires.accounts_small _)

pub loop-place-preserved : goal.loop-place-preserved
loop-place-preserved c =
    let i = c.loop-place.invariant in record {
      same_state = i.same_state;
      showing =
          showing_next _ _ _ _ _ _ _ i.showing c.loop-place-test.true c.if-out-used-lt-REPORT_ROOM.false _ _ (rw i.same_state at c.put_place-used.ensures);
    }

pub returns : goal.returns
returns c =
    let i = c.loop-place.invariant in showing_last _ _ _ _ _ i.showing _ i.same_state c.loop-place-test.false
