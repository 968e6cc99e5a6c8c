-- What a loop over a list has done when it stands at an index, whatever the width of the numbers.
use mathlib.Core.Path.{◌≡◌, refl, sym, ap, ◌∙◌}
use mathlib.Core.List.{List, map, append-nil, ◌++◌}
use Prim.Native.Nat.{ℕ, ◌+◌, ◌*◌, ◌≤◌, ◌<◌}
use native.Mathlib.Omega.{arith}
use lib.ListN.{length, get_or, set, drop, replicate, length-set}
use lib.Seq.{drop-length}
use borrow.Author.Fill.{fill_none, fill_more}
use Rattle.std.proofs.lemmas.List.{length-map, get_or-map}
use Rattle.base.specs.Sums.{below}
use Rattle.base.proofs.Loops.{below_none, below_more}
use Rattle.arrays.specs.Lists.{total_of, zeroed}

-- ---- a sum: s is that of the first i numbers, none of which is above w
pub record Summed (w : ℕ) (l : List ℕ) (i s : ℕ) : Type 0 where
  pub inside : i ≤ length l
  pub is : s ≡ below (λ j. get_or l j 0) i
  pub fits : s ≤ i * w

pub summed_none : (w : ℕ) (l : List ℕ) → Summed w l 0 0
summed_none w l = record { inside = omega arith; is = sym (below_none _); fits = omega arith }

-- the number of the next element is added
pub summed_more : {A : Type 0} (f : A → ℕ) (w : ℕ) (l : List A) (i s : ℕ) (x : A) → Summed w (map f l) i s → i < length l → x ≡ get_or l i x → f x ≤ w
    → Summed w (map f l) (i + 1) (s + f x)
summed_more f w l i s x h in_row e low = record {
  inside = omega (arith, length-map l f);
  is = omega (arith, h.is, below_more (λ j. get_or (map f l) j 0) i, get_or-map f l i x 0 in_row, ap f e);
  fits = omega (arith, h.fits);
}

pub summed_all : {A : Type 0} (f : A → ℕ) (w : ℕ) (l : List A) (i s : ℕ) → Summed w (map f l) i s → length l ≤ i → s ≡ total_of (map f l)
unfolding total_of
summed_all f w l i s h end =
    let e : i ≡ length (map f l) = omega (arith, h.inside, length-map l f) in h.is ∙ ap (below (λ j. get_or (map f l) j 0)) e

-- ---- zeros: the list l₀ has become l, by a 0 at each of the first i places

pub record Cleared (l₀ : List ℕ) (i : ℕ) (l : List ℕ) : Type 0 where
  pub inside : i ≤ length l₀
  pub as_long : length l ≡ length l₀
  pub is : l ≡ replicate i 0 ++ drop i l₀

pub cleared_none : (l : List ℕ) → Cleared l 0 l
cleared_none l = record { inside = omega arith; as_long = refl; is = fill_none l 0 }

pub cleared_more : (l₀ : List ℕ) (i : ℕ) (l : List ℕ) → Cleared l₀ i l → i < length l → Cleared l₀ (i + 1) (set l i 0)
cleared_more l₀ i l h in_row = record {
  inside = omega (arith, h.as_long);
  as_long = rw length-set h.as_long;
  is = ap (λ (r : List ℕ). set r i 0) h.is ∙ fill_more i 0 l₀ (omega (arith, h.as_long));
}

pub cleared_all : (l₀ : List ℕ) (i : ℕ) (l : List ℕ) → Cleared l₀ i l → length l ≤ i → l ≡ zeroed l₀
cleared_all l₀ i l h end = let e : i ≡ length l₀ = omega (arith, h.inside, h.as_long) in h.is ∙ rw (e, drop-length l₀) (append-nil _)
