-- Numbers that stand at one place only: counted, and compared two by two.
use mathlib.Core.Path.{◌≡◌, refl, sym, ap, ◌∙◌}
use mathlib.Core.Bool.{cond}
use mathlib.Core.Logic.{◌⊎◌, inl, inr, ◌≢◌}
use mathlib.Core.List.{List}
use Prim.Native.Nat.{ℕ, suc, ◌≤◌, ◌<◌}
use native.Mathlib.Omega.{arith}
use native.Mathlib.Decide.{ℕ_discrete}
use lib.Dec.{eqb}
use lib.ListN.{length, get_or, get_or-eq_default}
use Rattle.base.specs.Sums.{one_if}
use Rattle.base.proofs.Numbers.{split, eqb_yes, eqb_no}
use Rattle.base.proofs.Sums.{below_one, below_zero}
use Rattle.base.specs.Tests.{Decides}
use Rattle.base.proofs.Decides.{d_iff, d_eqb, d_or, d_all}
use Rattle.spoilt_places.specs.Ranges.{times_found, numbers_apart, number_apart}
use Rattle.spoilt.proofs.Counts.{below_at}

module _ (numbers : List ℕ) (all64 : length numbers ≡ 64) where
  abbrev num : ℕ → ℕ
  num p = get_or numbers p 0

  twice : (p q : ℕ) → p < 64 → q < 64 → p ≢ q → num p ≡ num q → 2 ≤ times_found numbers (num p)
  unfolding times_found
  twice p q hp hq ne e = omega (arith, below_one here rest 64 p hp same, below_at rest 64 q hq, own, other)
    where
      here : ℕ → ℕ
      here j = one_if (eqb (num j) (num p))

      rest : ℕ → ℕ
      rest j = cond (eqb j p) 0 (here j)

      same : (j : ℕ) → j ≢ p → here j ≡ rest j
      same j n = rw (eqb_no j p n)

      own : here p ≡ suc (rest p)
      own = rw (eqb_yes p p refl, eqb_yes (num p) (num p) refl)

      other : rest q ≡ 1
      other = sym (same q (λ z. ne (sym z))) ∙ ap one_if (eqb_yes (num q) (num p) (sym e))

  once : (p : ℕ) → p < 64 → num p ≢ 0 → ((q : ℕ) → q < 64 → num p ≡ num q → p ≡ q) → times_found numbers (num p) ≡ 1
  unfolding times_found
  once p hp pos only =
      omega (
        arith,
        below_one (λ j. one_if (eqb (num j) (num p))) (λ j. 0) 64 p hp away,
        below_zero (λ j. 0) 64 (λ j l. refl),
        ap one_if (eqb_yes (num p) (num p) refl),
      )
    where
      away : (j : ℕ) → j ≢ p → one_if (eqb (num j) (num p)) ≡ 0
      away j ne = ap one_if (eqb_no (num j) (num p) (go (split 64 j)))
        where
          go : (64 ≤ j) ⊎ (j < 64) → num j ≢ num p
          go (inl l) e = pos (sym e ∙ get_or-eq_default numbers 0 (omega (arith, all64)))
          go (inr l) e = ne (sym (only j l (sym e)))

  -- no number but 0 stands at two places
  abbrev pub Apart : Type 0
  Apart = (p : ℕ) → p < 64 → (num p ≡ 0) ⊎ ((q : ℕ) → q < 64 → num p ≡ num q → p ≡ q)

  pub d_apart : Decides (numbers_apart numbers) Apart
  unfolding numbers_apart number_apart
  d_apart = d_iff (d_all 64 _ (λ p. (num p ≡ 0) ⊎ (times_found numbers (num p) ≡ 1)) (λ p. d_or (d_eqb (num p) 0) (d_eqb (times_found numbers (num p)) 1)))
      (λ w p h. to p h (w p h)) (λ w p h. from p h (ℕ_discrete (num p) 0) (w p h))
    where
      to : (p : ℕ) → p < 64 → (num p ≡ 0) ⊎ (times_found numbers (num p) ≡ 1) → (num p ≡ 0) ⊎ ((q : ℕ) → q < 64 → num p ≡ num q → p ≡ q)
      to p h (inl e) = inl e
      to p h (inr e) = inr (λ q g n. go q g n (ℕ_discrete p q))
        where
          go : (q : ℕ) → q < 64 → num p ≡ num q → Dec (p ≡ q) → p ≡ q
          go q g n (yes f) = f
          go q g n (no f) = absurd (omega (arith, e, twice p q h g f n))

      from : (p : ℕ) → p < 64 → Dec (num p ≡ 0) → (num p ≡ 0) ⊎ ((q : ℕ) → q < 64 → num p ≡ num q → p ≡ q) → (num p ≡ 0) ⊎ (times_found numbers (num p) ≡ 1)
      from p h (yes e) w = inl e
      from p h (no e) (inl f) = inl f
      from p h (no e) (inr f) = inr (once p h e f)
