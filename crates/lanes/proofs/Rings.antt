-- Laws of rings, for any depth.
use mathlib.Core.Path.{◌≡◌, ap, ◌∙◌}
use mathlib.Core.Logic.{◌⊎◌, inl, inr}
use Prim.Native.Nat.{ℕ, suc, ◌+◌, ◌%◌, ◌/◌, ◌≤◌, ◌<◌}
use native.Mathlib.Nat.{mod-lt, mod-add-mod, div-add-mod, mul-le-mul_left}
use native.Mathlib.Omega.{arith}
use Rattle.base.proofs.Numbers.{split}
use Rattle.lanes.specs.Lanes.{ring_entry, ring_on}
use Rattle.lanes.specs.Laws.{RingFrom, RingBelow, RingOnInside, RingOwn, RingMoved, RingsApart}

pub ring_from : RingFrom
unfolding ring_entry
ring_from first depth start j = omega arith

pub ring_below : RingBelow
unfolding ring_entry
ring_below first depth start j h = omega (arith, mod-lt (start + j) {m = depth} h)

pub ring_on_inside : RingOnInside
unfolding ring_on
ring_on_inside depth start h = mod-lt (start + 1) h

-- two numbers with the same remainder are equal or at least the depth apart
same_mod : (a b d : ℕ) → a % d ≡ b % d → a < b → a + d ≤ b
same_mod a b d e l = go (split (b / d) (a / d))
  where
    go : (b / d ≤ a / d) ⊎ (a / d < b / d) → a + d ≤ b
    go (inl h) = absurd (omega (arith, e, l, div-add-mod a d, div-add-mod b d, mul-le-mul_left d h))
    go (inr h) = omega (arith, e, div-add-mod a d, div-add-mod b d, mul-le-mul_left d h)

pub ring_own : RingOwn
unfolding ring_entry
ring_own first depth start j n l h e =
    absurd (omega (arith, same_mod (start + j) (start + n) depth (omega (arith, e)) (omega (arith, l)), h))

pub ring_moved : RingMoved
unfolding ring_entry ring_on
ring_moved first depth start j =
    ap (λ (n : ℕ). first + n) (mod-add-mod (start + 1) depth j ∙ ap (λ (n : ℕ). n % depth) on)
  where
    on : start + 1 + j ≡ start + suc j
    on = omega arith

pub rings_apart : RingsApart
rings_apart first depth start j first' depth' start' n h o e =
    omega (arith, e, o, ring_below first depth start j h, ring_from first' depth' start' n)
