-- Orders that are as long in all as there are blocks to list, and list no block twice and none of another class, list each block once.
use mathlib.Core.Path.{◌≡◌, refl, sym, ◌∙◌}
use mathlib.Core.Bool.{Bool, true, false, ◌&&◌}
use mathlib.Core.Logic.{◌⊎◌, inl, inr}
use mathlib.Core.List.{List}
use Prim.Native.Nat.{ℕ, zero, suc, ◌+◌, ◌≤◌, ◌<◌}
use native.Mathlib.Omega.{arith}
use native.Mathlib.Decide.{ℕ_discrete}
use lib.Dec.{eqb}
use lib.ListN.{length}
use Rattle.base.specs.Sums.{one_if, below}
use Rattle.base.proofs.Numbers.{split}
use Rattle.base.proofs.Sums.{below_le, below_zero, below_add, below_ext}
use Rattle.units.proofs.Classes.{class_le}
use Rattle.rules.specs.Board.{Place, block_class}
use Rattle.rules.specs.Spoilt.{count, is_queued, in_class}
use Rattle.rules.proofs.Orders.{pl}
use Rattle.board.proofs.Lists.{one_below, count_length}

-- ---- sums

pub below_at : (f : ℕ → ℕ) (n p : ℕ) → p < n → f p ≤ below f n
unfolding below
below_at f zero p h = absurd (omega arith)
below_at f (suc n) p h = go (below_at f n p) (ℕ_discrete p n)
  where
    go : (p < n → f p ≤ below f n) → Dec (p ≡ n) → f p ≤ below f n + f n
    go r (yes e) = rw e (omega arith)
    go r (no e) = omega (arith, r (omega arith))

below_swap : (f : ℕ → ℕ → ℕ) (m n : ℕ) → below (λ i. below (f i) n) m ≡ below (λ j. below (λ i. f i j) m) n
unfolding below
below_swap f zero n = sym (below_zero (λ j. 0) n (λ j l. refl))
below_swap f (suc m) n = omega (arith, below_swap f m n, below_add (λ j. below (λ i. f i j) m) (f m) n)

-- where no term is above its partner and the sums are equal, so are the terms
below_equal : (f g : ℕ → ℕ) (n : ℕ) → ((j : ℕ) → j < n → f j ≤ g j) → below f n ≡ below g n → (j : ℕ) → j < n → f j ≡ g j
unfolding below
below_equal f g zero le e j h = absurd (omega arith)
below_equal f g (suc n) le e j h = go (below_equal f g n (λ i l. le i (omega arith))) (ℕ_discrete j n)
  where
    last : f n ≡ g n
    last = omega (arith, le n (omega arith), below_le f g n (λ i l. le i (omega arith)))

    go : (below f n ≡ below g n → (i : ℕ) → i < n → f i ≡ g i) → Dec (j ≡ n) → f j ≡ g j
    go r (yes q) = rw q last
    go r (no q) = r (omega (arith, last)) j (omega arith)

-- ---- blocks by class

module _ (l : List Place) where
  abbrev blocks : ℕ → ℕ
  blocks k = below (λ q. one_if (in_class k (pl l q))) 64

  abbrev pub all_blocks : ℕ
  all_blocks = below (λ q. one_if (is_queued (pl l q).stand)) 64

  one_class : (queued : Bool) (k : ℕ) → k < 17 → below (λ j. one_if (queued && eqb j k)) 17 ≡ one_if queued
  one_class true k h = one_below 17 k h
  one_class false k h = below_zero (λ j. 0) 17 (λ j l. refl)

  by_class : below blocks 17 ≡ all_blocks
  by_class =
      below_swap (λ k q. one_if (in_class k (pl l q))) 17 64
      ∙ below_ext (λ q. below (λ k. one_if (in_class k (pl l q))) 17) (λ q. one_if (is_queued (pl l q).stand)) 64
      (λ q h. one_class (is_queued (pl l q).stand) (block_class (pl l q)) (omega (arith, class_le (pl l q).share)))

  module _ (o : ℕ → List ℕ) (inside : (k : ℕ) → k < 17 → (q : ℕ) → 64 ≤ q → count q (o k) ≡ 0) where
    abbrev met : ℕ → ℕ
    met k = below (λ q. count q (o k)) 64

    lengths : below (λ k. length (o k)) 17 ≡ below met 17
    lengths = below_ext (λ k. length (o k)) met 17 (λ k h. sym (count_length 64 (o k) (inside k h)))

    -- ALL ARE LISTED
    pub all_listed : ((k : ℕ) → k < 17 → (q : ℕ) → count q (o k) ≤ 1) → ((k : ℕ) → k < 17 → (q : ℕ) → 1 ≤ count q (o k) → in_class k (pl l q) ≡ true)
        → below (λ k. length (o k)) 17 ≡ all_blocks → (k : ℕ) → k < 17 → (q : ℕ) → q < 64 → count q (o k) ≡ one_if (in_class k (pl l q))
    all_listed once member total k h = below_equal (λ q. count q (o k)) (λ q. one_if (in_class k (pl l q))) 64 (λ q g. at_most k h q)
        (below_equal met blocks 17 (λ j g. below_le (λ q. count q (o j)) (λ q. one_if (in_class j (pl l q))) 64 (λ q i. at_most j g q))
        (sym lengths ∙ total ∙ sym by_class) k h)
      where
        at_most : (j : ℕ) → j < 17 → (q : ℕ) → count q (o j) ≤ one_if (in_class j (pl l q))
        at_most j g q = go (split 1 (count q (o j)))
          where
            go : (1 ≤ count q (o j)) ⊎ (count q (o j) < 1) → count q (o j) ≤ one_if (in_class j (pl l q))
            go (inl c) = rw (member j g q c) (once j g q)
            go (inr c) = omega arith

    -- and where all are listed, the orders are as long
    pub all_met : ((k : ℕ) → k < 17 → (q : ℕ) → q < 64 → count q (o k) ≡ one_if (in_class k (pl l q))) → below (λ k. length (o k)) 17 ≡ all_blocks
    all_met listed = lengths ∙ below_ext met blocks 17 (λ k h. below_ext (λ q. count q (o k)) (λ q. one_if (in_class k (pl l q))) 64 (listed k h)) ∙ by_class
