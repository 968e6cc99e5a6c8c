-- What a choice of a place says of a serve, as the code uses it.
use mathlib.Core.Path.{◌≡◌}
use mathlib.Core.Logic.{◌≢◌}
use mathlib.Core.List.{List}
use Prim.Native.Nat.{ℕ, ◌+◌, ◌-◌, ◌<◌}
use native.Mathlib.Omega.{arith}
use lib.ListN.{length}
use borrow.Author.Tests.{ne_eqb}
use Rattle.board.specs.Memory.{Engine}
use Rattle.slots.specs.Slots.{Go, opened_slot, opened, choice, choice_of}
use Rattle.serving.specs.Serving.{CanEnact}

-- where a slot can serve, its place's lane is in the table
pub can_read : (shares lens : List ℕ) (L p t : ℕ) (e : Engine) → CanEnact shares lens L p t e → (p < 64) × (length lens ≡ 2048)
can_read shares lens L p t e c = (c.sends.inside, c.sends.table)

-- a slot that is open serves on
pub opened_open : (shares : List ℕ) (L p t : ℕ) (e : Engine) → e.now.slot ≢ 0 → choice_of e ≡ Go p t → opened shares L p t e ≡ e
unfolding opened opened_slot choice
opened_open shares L p t e ne goes =
    let f = rw (ne_eqb e.now.slot 0 ne) at goes in
    let clock : t ≡ e.now.clock = cc in
    let less : e.now.slot - 1 ≡ p = cc in
    let slot : p + 1 ≡ e.now.slot = omega arith in
    rw (ne_eqb e.now.slot 0 ne, slot, clock)
