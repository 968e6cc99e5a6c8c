-- Links that end never repeat; links that lead along a list end, and behind each place of a walk stands the place that its link leads to.
use mathlib.Core.Path.{◌≡◌, refl, ap, ◌∙◌}
use mathlib.Core.Bool.{Bool, true, false, false≢true}
use mathlib.Core.Logic.{◌⊎◌, inl, inr}
use mathlib.Core.List.{List, [], ◌∷◌}
use Prim.Native.Nat.{ℕ, zero, suc, ◌+◌, ◌≤◌, ◌<◌}
use native.Mathlib.Omega.{arith}
use native.Mathlib.Decide.{ℕ_discrete}
use lib.Dec.{eqb}
use lib.ListN.{length, get_or}
use Rattle.base.specs.Sums.{one_if}
use Rattle.base.proofs.Numbers.{eqb_no, eqb_yes, split}
use Rattle.rules.specs.Spoilt.{count}
use Rattle.board.specs.Reading.{follow, first_link, behind}
use Rattle.board.proofs.Lists.{Linked, behind_head, behind_tail}

-- the walk from h reaches no link within n steps
unfoldable pub ends : List ℕ → ℕ → ℕ → Bool
ends next zero zero = true
ends next zero (suc p) = false
ends next (suc n) zero = true
ends next (suc n) (suc p) = ends next n (get_or next p 0)

-- where it ends, its length doesn't hang on the fuel
ends_length : (next : List ℕ) (n m h : ℕ) → ends next n h ≡ true → ends next m h ≡ true → length (follow next n h) ≡ length (follow next m h)
unfolding ends follow
ends_length next zero zero zero a b = refl
ends_length next zero (suc m) zero a b = refl
ends_length next (suc n) zero zero a b = refl
ends_length next (suc n) (suc m) zero a b = refl
ends_length next zero m (suc p) a b = absurd (false≢true a)
ends_length next (suc n) zero (suc p) a b = absurd (false≢true b)
ends_length next (suc n) (suc m) (suc p) a b = ap suc (ends_length next n m (get_or next p 0) a b)

-- from a member on the walk is no longer, and ends too
ends_member : (next : List ℕ) (n h q : ℕ) → ends next n h ≡ true → 1 ≤ count q (follow next n h)
    → (m : ℕ) × (ends next m (suc q) ≡ true) × (length (follow next m (suc q)) ≤ length (follow next n h))
unfolding ends follow count
ends_member next zero zero q a c = absurd (omega arith)
ends_member next (suc n) zero q a c = absurd (omega arith)
ends_member next zero (suc p) q a c = absurd (false≢true a)
ends_member next (suc n) (suc p) q a c = go (ℕ_discrete q p) (ends_member next n (get_or next p 0) q a)
  where
    go : Dec (q ≡ p) → (1 ≤ count q (follow next n (get_or next p 0))
        → (m : ℕ) × (ends next m (suc q) ≡ true) × (length (follow next m (suc q)) ≤ length (follow next n (get_or next p 0))))
        → (m : ℕ) × (ends next m (suc q) ≡ true) × (length (follow next m (suc q)) ≤ suc (length (follow next n (get_or next p 0))))
    go (yes e) r = rw e (suc n, a, omega arith)
    go (no e) r = let w = r (omega (arith, ap one_if (eqb_no q p e))) in (w.0, w.1, omega (arith, w.2))

whole : (next : List ℕ) (n p q : ℕ) → q ≡ p → ends next n (get_or next p 0) ≡ true → (m : ℕ) → ends next m (suc q) ≡ true
    → length (follow next m (suc q)) ≤ length (follow next n (get_or next p 0))
    → suc (length (follow next n (get_or next p 0))) ≤ length (follow next n (get_or next p 0))
unfolding ends follow
whole next n p q e a m b l = omega (arith, l, ends_length next m (suc n) (suc p) (rw e at b) a, ap (λ (i : ℕ). length (follow next m (suc i))) e)

-- NO REPEAT
pub ends_once : (next : List ℕ) (n h : ℕ) → ends next n h ≡ true → (q : ℕ) → count q (follow next n h) ≤ 1
unfolding ends follow count
ends_once next zero zero a q = omega arith
ends_once next (suc n) zero a q = omega arith
ends_once next zero (suc p) a q = absurd (false≢true a)
ends_once next (suc n) (suc p) a q = go (ℕ_discrete q p) (ends_once next n (get_or next p 0) a q) (split 1 (count q (follow next n (get_or next p 0))))
  where
    go : Dec (q ≡ p) → count q (follow next n (get_or next p 0)) ≤ 1
        → (1 ≤ count q (follow next n (get_or next p 0))) ⊎ (count q (follow next n (get_or next p 0)) < 1)
        → one_if (eqb q p) + count q (follow next n (get_or next p 0)) ≤ 1
    go (no e) r c = omega (arith, ap one_if (eqb_no q p e))
    go (yes e) r (inr c) = omega (arith, ap one_if (eqb_yes q p e))
    go (yes e) r (inl c) = absurd (omega (arith, longer))
      where
        w : (m : ℕ) × (ends next m (suc q) ≡ true) × (length (follow next m (suc q)) ≤ length (follow next n (get_or next p 0)))
        w = ends_member next n (get_or next p 0) q a c

        longer : suc (length (follow next n (get_or next p 0))) ≤ length (follow next n (get_or next p 0))
        longer = whole next n p q e a w.0 w.1 w.2

-- ---- a walk that ends and its list

-- the walk's list begins at its link
pub ends_first : (next : List ℕ) (n h : ℕ) → ends next n h ≡ true → first_link (follow next n h) ≡ h
unfolding ends follow
ends_first next zero zero a = refl
ends_first next zero (suc p) a = absurd (false≢true a)
ends_first next (suc n) zero a = refl
ends_first next (suc n) (suc p) a = refl

pub first_follow : (next : List ℕ) (h : ℕ) → first_link (follow next 64 h) ≡ h
unfolding follow
first_follow next zero = refl
first_follow next (suc p) = refl

-- links that lead along a list end
pub linked_ends : (next : List ℕ) (n : ℕ) (xs : List ℕ) → length xs ≤ n → Linked next xs → ends next n (first_link xs) ≡ true
unfolding ends Linked
linked_ends next zero [] h k = refl
linked_ends next zero (x ∷ xs) h k = absurd (omega arith)
linked_ends next (suc n) [] h k = refl
linked_ends next (suc n) (x ∷ xs) h k = ap (ends next n) k.0 ∙ linked_ends next n xs (omega arith) k.1

-- behind a place that is met stands the one that its link leads to
pub ends_behind : (next : List ℕ) (n h q : ℕ) → ends next n h ≡ true → 1 ≤ count q (follow next n h) → behind q (follow next n h) ≡ get_or next q 0
unfolding ends follow count
ends_behind next zero zero q a c = absurd (omega arith)
ends_behind next zero (suc p) q a c = absurd (false≢true a)
ends_behind next (suc n) zero q a c = absurd (omega arith)
ends_behind next (suc n) (suc p) q a c = go (ℕ_discrete q p) (ends_behind next n (get_or next p 0) q a)
  where
    go : Dec (q ≡ p) → (1 ≤ count q (follow next n (get_or next p 0)) → behind q (follow next n (get_or next p 0)) ≡ get_or next q 0)
        → behind q (p ∷ follow next n (get_or next p 0)) ≡ get_or next q 0
    go (yes e) r = rw e (behind_head p (follow next n (get_or next p 0)) ∙ ends_first next n (get_or next p 0) a)
    go (no e) r = behind_tail q p (follow next n (get_or next p 0)) e ∙ r (omega (arith, ap one_if (eqb_no q p e)))

pub follow_length : (next : List ℕ) (n h : ℕ) → length (follow next n h) ≤ n
unfolding follow
follow_length next zero h = omega arith
follow_length next (suc n) zero = omega arith
follow_length next (suc n) (suc p) = omega (arith, follow_length next n (get_or next p 0))
