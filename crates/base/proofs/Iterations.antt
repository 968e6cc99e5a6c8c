-- What `all` and `count` give over a list and over a range, as the definitions write it: of each number below a bound.
use mathlib.Core.Path.{◌≡◌, refl, sym, ap, ◌∙◌}
use mathlib.Core.Bool.{Bool, true, false, cond, ◌&&◌}
use mathlib.Core.List.{List, [], ◌∷◌}
use Prim.Native.Nat.{ℕ, zero, suc, ◌+◌, ◌<◌}
use native.Mathlib.Omega.{arith}
use lib.ListN.{length, get_or}
use Rattle.std.proofs.Math.Bool.{and_assoc}
use Rattle.std.specs.List.{list_all, filter, range_with_len}
use Rattle.std.proofs.lemmas.List.FromFn.{length-range_with_len, get_or-range_with_len}
use mir.Val.{bool_byte}
use Rattle.base.specs.Sums.{one_if, below}
use Rattle.base.proofs.Sums.{below_ext, below_first}
use Rattle.base.specs.Tests.{all_below}

all_ext : (t u : ℕ → Bool) (n : ℕ) → ((i : ℕ) → i < n → t i ≡ u i) → all_below n t ≡ all_below n u
unfolding all_below
all_ext t u zero e = refl
all_ext t u (suc n) e = rw (all_ext t u n (λ i h. e i (omega arith)), e n (omega arith))

all_first : (t : ℕ → Bool) (n : ℕ) → all_below (suc n) t ≡ t 0 && all_below n (λ i. t (suc i))
unfolding all_below
all_first t zero = go (t 0)
  where
    go : (a : Bool) → true && a ≡ a && true
    go true = refl
    go false = refl
all_first t (suc n) = rw (all_first t n) (and_assoc (t 0) _ _)

all_list_lem : {X : Type 0} (t : X → Bool) (xs : List X) (d : X) → list_all t xs ≡ all_below (length xs) (λ i. t (get_or xs i d))
unfolding all_below
all_list_lem t [] d = refl
all_list_lem t (x ∷ xs) d = ap (λ a. t x && a) (all_list_lem t xs d) ∙ sym (all_first (λ i. t (get_or (x ∷ xs) i d)) (length xs))

pub all_list : {X : Type 0} (t : X → Bool) (xs : List X) (d : X) (n : ℕ) → length xs ≡ n → list_all t xs ≡ all_below n (λ i. t (get_or xs i d))
all_list t xs d n e = all_list_lem t xs d ∙ ap (λ m. all_below m (λ i. t (get_or xs i d))) e

pub all_range : (t : ℕ → Bool) (n : ℕ) → list_all t (range_with_len 0 n) ≡ all_below n t
all_range t n = all_list t (range_with_len 0 n) 0 n (length-range_with_len 0 n) ∙ all_ext _ t n at
  where
    at : (i : ℕ) → i < n → t (get_or (range_with_len 0 n) i 0) ≡ t i
    at i h = ap t (get_or-range_with_len 0 n i 0 h ∙ omega arith)

-- how many pass
pub count_list : {X : Type 0} (t : X → Bool) (xs : List X) (d : X) → length (filter t xs) ≡ below (λ i. one_if (t (get_or xs i d))) (length xs)
unfolding below
count_list t [] d = refl
count_list t (x ∷ xs) d = step (t x) ∙ ap (λ n. one_if (t x) + n) (count_list t xs d) ∙ sym (below_first (λ i. one_if (t (get_or (x ∷ xs) i d))) (length xs))
  where
    step : (a : Bool) → length (cond a (x ∷ filter t xs) (filter t xs)) ≡ one_if a + length (filter t xs)
    step true = omega arith
    step false = omega arith

pub count_range : (t : ℕ → Bool) (n : ℕ) → length (filter t (range_with_len 0 n)) ≡ below (λ i. one_if (t i)) n
count_range t n =
    count_list t (range_with_len 0 n) 0
    ∙ ap (below (λ i. one_if (t (get_or (range_with_len 0 n) i 0)))) (length-range_with_len 0 n)
    ∙ below_ext _ (λ i. one_if (t i)) n (λ i h. ap (λ j. one_if (t j)) (get_or-range_with_len 0 n i 0 h ∙ omega arith))

-- a test as a number, as the code and as the definitions write it
pub byte_is : (b : Bool) → bool_byte b ≡ one_if b
byte_is true = refl
byte_is false = refl
