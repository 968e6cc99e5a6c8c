-- Comparisons of numbers: as cases, and as the tests that compute them.
use mathlib.Core.Path.{◌≡◌, refl}
use mathlib.Core.Bool.{Bool, true, false, not}
use mathlib.Core.Logic.{◌⊎◌, inl, inr, ◌≢◌}
use Prim.Native.Nat.{ℕ, ◌≤◌, ◌<◌}
use native.Mathlib.Omega.{arith}
use native.Mathlib.Decide.{dec_le}
use lib.Dec.{T, leb, eqb, le→leb, leb→le, nleb→lt, eqb→eq, eqb_refl}
use lib.Arith.{lt→nleb}

T_true : (b : Bool) → T b → b ≡ true
T_true true t = refl
T_true false t = absurd t

T_false : (b : Bool) → T (not b) → b ≡ false
T_false true t = absurd t
T_false false t = refl

-- of two numbers, the first is at most the second, or above it
pub split : (a b : ℕ) → (a ≤ b) ⊎ (b < a)
split a b = go (dec_le a b)
  where
    go : Dec (a ≤ b) → (a ≤ b) ⊎ (b < a)
    go (yes h) = inl h
    go (no h) = inr (omega arith)

-- the test 'at most', from and to the fact
pub leb_yes : (a b : ℕ) → a ≤ b → leb a b ≡ true
leb_yes a b h = T_true (leb a b) (le→leb a b h)

pub leb_no : (a b : ℕ) → b < a → leb a b ≡ false
leb_no a b h = T_false (leb a b) (lt→nleb a b h)

pub true_le : (a b : ℕ) → leb a b ≡ true → a ≤ b
true_le a b e = leb→le a b (rw e tt)

pub false_lt : (a b : ℕ) → leb a b ≡ false → b < a
false_lt a b e = nleb→lt a b (rw e tt)

-- the test 'equal', from and to the fact
pub eqb_yes : (a b : ℕ) → a ≡ b → eqb a b ≡ true
eqb_yes a b e = rw e (T_true (eqb b b) (eqb_refl b))

pub eqb_true : (a b : ℕ) → eqb a b ≡ true → a ≡ b
eqb_true a b e = eqb→eq a b (rw e tt)

pub eqb_no : (a b : ℕ) → a ≢ b → eqb a b ≡ false
eqb_no a b h = go (eqb a b) refl
  where
    go : (t : Bool) → eqb a b ≡ t → t ≡ false
    go true e = absurd (h (eqb_true a b e))
    go false e = refl
