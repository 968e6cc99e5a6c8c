use mathlib.Core.Bool.{Bool}
use mathlib.Core.Path.{◌≡◌}
use Prim.Native.Nat.{ℕ, ◌<◌}
use Rattle.bits.specs.Sets.{set_below}
use Rattle.spoilt_orders.proofs.set_of.Given as goal

abbrev pub invariant-loop-k : goal.invariant-loop-k
invariant-loop-k g l =
    (test : ℕ → Bool) → ((k : ℕ) (t : Bool) → k < 17 → goal.F-post g l.passes k t → t ≡ test k) → l.set ≡ set_below l.k test
