-- `units::class_of` meets its contract: a share of class k has k + 15 zero bits in front (class_zeros), and `class_of` is
-- its class (class_is). Assumes nothing.
use mathlib.Core.Path.{◌≡◌}
use Prim.Native.Nat.{ℕ, ◌+◌, ◌≤◌}
use native.Mathlib.Omega.{arith}
use lib.Count.{count_leading_zeros}
use Rattle.units.specs.Classes.{class_of}
use Rattle.units.proofs.Classes.{class_is, class_zeros}
use Rattle.units.proofs.class_of.Goals as goal

counted : (s : ℕ) → (1 ≤ s) × (s ≤ 65536) → count_leading_zeros 32 s ≡ class_of s + 15
counted s pre = class_zeros (class_of s) s (class_is s pre.0 pre.1)

pub overflow_sub-result : goal.overflow_sub-result
overflow_sub-result c = omega (arith, counted c.args.share c.requires)

pub returns : goal.returns
returns c = omega (arith, counted c.args.share c.requires)
