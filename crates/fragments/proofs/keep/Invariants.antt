use Prim.Native.Nat.{◌≤◌}
use Rattle.fragments.specs.Kept.{Behind}
use Rattle.fragments.proofs.keep.Given as goal

abbrev pub invariant-loop-i : goal.invariant-loop-i
invariant-loop-i l = (l.came ≤ l.i) × Behind l.initial.kept l.came l.part l.i l.kept
