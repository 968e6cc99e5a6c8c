use mathlib.Core.Path.{◌≡◌}
use Prim.Native.Nat.{◌-◌}
use Rattle.slots.specs.Slots.{turned_of, with_turned, turned, turned_from}
use Rattle.slots.proofs.advance.Given as goal

abbrev pub invariant-loop-k : goal.invariant-loop-k
invariant-loop-k l =
    let b = l.fn.b in
    (l.b ≡ with_turned b l.to (turned_of l.b))
    × (turned b.clock l.to b.heads (turned_of b) ≡ turned_from (17 - l.k) l.k l.from l.to l.b.heads (turned_of l.b))
