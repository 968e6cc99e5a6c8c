-- From call to call the rest of the fragment gets shorter.
use Rattle.std.proofs.Common.{◌-◌, ◌≤◌, length}
use Rattle.feed_case.proofs.play.feed_all.Given as goal

abbrev pub invariant-loop-fed : goal.invariant-loop-fed
invariant-loop-fed g l = l.taken ≤ length l.fragment

abbrev pub decreases-loop-fed : goal.decreases-loop-fed
decreases-loop-fed g l = length l.fragment - l.taken
