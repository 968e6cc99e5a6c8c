-- Tests as Bools: a list of them, one for each number below a bound, and the first number that passes one.
use Rattle.std.specs.Prelude.{◌≡◌, Bool, true, false, cond, not, ◌&&◌, List, [], ◌∷◌, ℕ, zero, suc, eqb}

-- A test decides a fact: it holds exactly where the fact does.
pub record Decides (t : Bool) (P : Type 0) : Type 0 where
  pub yes : t ≡ true → P
  pub no : P → t ≡ true

-- every test of the list holds
abbrev pub every : List Bool → Bool
every [] = true
every (t ∷ ts) = t && every ts

-- both tests hold, or neither does
abbrev pub alike : Bool → Bool → Bool
alike true t = t
alike false t = not t

-- two lists hold the same numbers in the same order
unfoldable pub same_list : List ℕ → List ℕ → Bool
same_list [] [] = true
same_list [] (y ∷ ys) = false
same_list (x ∷ xs) [] = false
same_list (x ∷ xs) (y ∷ ys) = eqb x y && same_list xs ys

-- the test holds at each number below n
unfoldable pub all_below : (n : ℕ) (test : ℕ → Bool) → Bool
all_below zero test = true
all_below (suc n) test = all_below n test && test n

-- the first of 0, 1, .., n - 1 that passes the test, and n where none does
unfoldable pub least : (test : ℕ → Bool) (n : ℕ) → ℕ
least test zero = 0
least test (suc n) = let later = least (λ i. test (suc i)) n in cond (test 0) 0 (suc later)
