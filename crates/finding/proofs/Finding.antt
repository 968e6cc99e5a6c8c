-- What is known of a number, from the array of numbers, is what the rules know of it; the place of 0 is the lowest free
-- one.
use mathlib.Core.Path.{◌≡◌, refl, sym, ap, ap₂, subst, ◌∙◌}
use mathlib.Core.Bool.{Bool, true, false, not, cond, ◌&&◌, ◌||◌, true≢false}
use mathlib.Core.Logic.{◌⊎◌, inl, inr, ◌≢◌}
use mathlib.Core.List.{List, [], ◌∷◌}
use Prim.Native.Nat.{ℕ, zero, suc, ◌+◌, ◌≤◌, ◌<◌}
use native.Mathlib.Nat.{add-zero, zero-add}
use native.Mathlib.Omega.{arith}
use native.Mathlib.Decide.{ℕ_discrete}
use lib.Dec.{eqb, leb, ltb}
use lib.ListN.{length, get_or}
use borrow.Author.Tests.{eq-eqb, ne_eqb}
use Rattle.base.specs.Tests.{least}
use Rattle.base.proofs.Numbers.{split, leb_yes, leb_no, true_le, eqb_true}
use Rattle.base.proofs.Tests.{least_le, least_true}
use Rattle.rules.specs.Board
use Rattle.rules.specs.Board.{Place, free_place, at}
use Rattle.rules.specs.Choice.{Turn, refuse, where_is, none_has, some_has}
use Rattle.rules.specs.Blocks.{free_at}
use Rattle.rules.proofs.Cases.{not_zero, or_left, or_right, where_has}
use Rattle.rules.proofs.Shape.{named_num}
use Rattle.rules.proofs.Tidy.{Tidy}
use Rattle.board.specs.Reading.{encode}
use Rattle.std.specs.Prelude.{Option, Some, None, is_some}
use Rattle.std.specs.List.{position_from}
use Rattle.finding.specs.Finding.{place_with, found_at, place_at, found_in, by_found, lowest_free}
use Rattle.board.proofs.Fields.{number_is}

place_le : (numbers : List ℕ) (n : ℕ) → place_with numbers n ≤ 64
unfolding place_with
place_le numbers n = least_le (λ i. eqb (get_or numbers i 0) n) 64

-- not 0, from a list of tests that fails
not_zeroth : (n : ℕ) (t : Bool) → eqb n 0 || t ≡ false → n ≢ 0
not_zeroth n t e q = true≢false (sym (eq-eqb n 0 q) ∙ or_left (eqb n 0) t e)

-- not 64 is below it
not_64 : (i : ℕ) → i ≤ 64 → i ≢ 64 → i < 64
not_64 i h ne = go (split 64 i)
  where
    go : (64 ≤ i) ⊎ (i < 64) → i < 64
    go (inl k) = absurd (ne (omega arith))
    go (inr k) = k

-- a variant's place
some_place : (i j : ℕ) → Some i ≡ Some j → i ≡ j
some_place i j e = cc

none_not : (j : ℕ) → None ≡ Some j → ⊥
none_not j e = let z : ◌≡◌ {A = ℕ} 1 0 = cc in omega arith

-- a place that is found among the 64 is one of them
placed : (p i : ℕ) → p ≤ 64 → place_at p ≡ Some i → (i ≡ p) × (i < 64)
placed p i h e = go (ℕ_discrete p 64) e
  where
    go : Dec (p ≡ 64) → place_at p ≡ Some i → (i ≡ p) × (i < 64)
    go (yes z) f = absurd (none_not i (rw (eq-eqb p 64 z) at f))
    go (no ne) f = let same = some_place p i (rw (ne_eqb p 64 ne) at f) in (sym same, omega (arith, same, not_64 p h ne))

pub free_in : (numbers : List ℕ) (i : ℕ) → place_at (lowest_free numbers) ≡ Some i → (i ≡ lowest_free numbers) × (i < 64)
unfolding lowest_free
free_in numbers i e = placed (place_with numbers 0) i (place_le numbers 0) e

pub free_none : (numbers : List ℕ) → place_at (lowest_free numbers) ≡ None → lowest_free numbers ≡ 64
unfolding lowest_free
free_none numbers e = go (ℕ_discrete (place_with numbers 0) 64) e
  where
    go : Dec (place_with numbers 0 ≡ 64) → place_at (place_with numbers 0) ≡ None → place_with numbers 0 ≡ 64
    go (yes z) f = z
    go (no ne) f = absurd (none_not (place_with numbers 0) (sym (rw (ne_eqb (place_with numbers 0) 64 ne) at f)))

-- ---- what is found

named_at : (numbers : List ℕ) (n : ℕ) → place_with numbers n < 64 → get_or numbers (place_with numbers n) 0 ≡ n
unfolding place_with
named_at numbers n h =
    let has : ℕ → Bool = λ j. eqb (get_or numbers j 0) n in
    eqb_true (get_or numbers (least has 64) 0) n (least_true has 64 h)

-- the place that is found is one of the 64 and has the number, which is not 0
pub record FoundAt (numbers : List ℕ) (n i : ℕ) : Type 0 where
  pub inside : i < 64
  pub number : n ≢ 0
  pub named : get_or numbers i 0 ≡ n

pub found_at_lem : (numbers : List ℕ) (n i : ℕ) → found_in numbers n ≡ Some i → FoundAt numbers n i
unfolding found_in
found_at_lem numbers n i e = go (eqb n 0 || eqb (place_with numbers n) 64) refl e
  where
    go : (t : Bool) → eqb n 0 || eqb (place_with numbers n) 64 ≡ t → found_at (not t) (place_with numbers n) ≡ Some i
        → FoundAt numbers n i
    go true q f = absurd (none_not i f)
    go false q f = subst (FoundAt numbers n) (some_place (place_with numbers n) i f) (record {
      inside = inside;
      number = not_zeroth n (eqb (place_with numbers n) 64) q;
      named = named_at numbers n inside;
    })
      where
        inside : place_with numbers n < 64
        inside = not_64 (place_with numbers n) (place_le numbers n)
            (λ z. true≢false (sym (eq-eqb (place_with numbers n) 64 z) ∙ or_right (eqb n 0) _ q))

-- it has a share
pub found_bought : (numbers shares : List ℕ) (n i : ℕ) → found_in numbers n ≡ Some i
    → ((j : ℕ) → 1 ≤ get_or numbers j 0 → 1 ≤ get_or shares j 0) → 1 ≤ get_or shares i 0
found_bought numbers shares n i e low =
    let f = found_at_lem numbers n i e in
    low i (rw f.named (not_zero n (ne_eqb n 0 f.number)))

-- ---- the first place with a number is the first at which the test passes

not_at_end : (later : ℕ) (xs : List ℕ) → eqb (suc later) (suc (length xs)) ≡ eqb later (length xs)
not_at_end later xs = go (ℕ_discrete later (length xs))
  where
    go : Dec (later ≡ length xs) → eqb (suc later) (suc (length xs)) ≡ eqb later (length xs)
    go (yes e) = eq-eqb (suc later) (suc (length xs)) (ap suc e) ∙ sym (eq-eqb later (length xs) e)
    go (no e) = ne_eqb (suc later) (suc (length xs)) (λ f. e (omega arith)) ∙ sym (ne_eqb later (length xs) e)

abbrev has : List ℕ → ℕ → ℕ → Bool
has xs n j = eqb (get_or xs j 0) n

first_from : (n i : ℕ) (xs : List ℕ)
    → position_from (λ (x : ℕ). eqb x n) i xs ≡ found_at (not (eqb (least (has xs n) (length xs)) (length xs))) (i + least (has xs n) (length xs))
unfolding least
first_from n i [] = refl
first_from n i (x ∷ xs) = go (eqb x n) refl (first_from n (i + 1) xs)
  where
    later : ℕ
    later = least (has xs n) (length xs)

    go : (t : Bool) → eqb x n ≡ t
        → position_from (λ (y : ℕ). eqb y n) (i + 1) xs ≡ found_at (not (eqb later (length xs))) (i + 1 + later)
        → cond t (Some i) (position_from (λ (y : ℕ). eqb y n) (i + 1) xs)
        ≡ found_at (not (eqb (cond t 0 (suc later)) (suc (length xs)))) (i + cond t 0 (suc later))
    go true e on = rw (ne_eqb 0 (suc (length xs)) (λ z. omega arith), add-zero i)
    go false e on = let moved : i + 1 + later ≡ i + suc later = omega arith in on ∙ rw (not_at_end later xs, moved)

pub first_place : (n : ℕ) (numbers : List ℕ) → length numbers ≡ 64
    → position_from (λ (x : ℕ). eqb x n) 0 numbers ≡ place_at (place_with numbers n)
unfolding place_with
first_place n numbers e =
    first_from n 0 numbers ∙ rw e (ap (found_at (not (eqb (least (has numbers n) 64) 64))) (zero-add (least (has numbers n) 64)))

-- what find answers, by its test
pub find_none : (numbers : List ℕ) (n : ℕ) → n ≡ 0 → None ≡ found_in numbers n
unfolding found_in
find_none numbers n e = rw (eq-eqb n 0 e)

pub find_first : (numbers : List ℕ) (n : ℕ) → n ≢ 0 → place_at (place_with numbers n) ≡ found_in numbers n
unfolding found_in
find_first numbers n ne = rw (ne_eqb n 0 ne)

-- ---- the rules

least_ext : (t u : ℕ → Bool) (n : ℕ) → ((i : ℕ) → t i ≡ u i) → least t n ≡ least u n
unfolding least
least_ext t u zero h = refl
least_ext t u (suc n) h = ap₂ (λ (a : Bool) (r : ℕ). cond a 0 (suc r)) (h 0) (least_ext (λ k. t (suc k)) (λ k. u (suc k)) n (λ i. h (suc i)))

eqb_turn : (a b : ℕ) → eqb a b ≡ eqb b a
eqb_turn a b = go (ℕ_discrete a b)
  where
    go : Dec (a ≡ b) → eqb a b ≡ eqb b a
    go (yes e) = rw e
    go (no e) = ne_eqb a b e ∙ sym (ne_eqb b a (λ f. e (sym f)))

module _ (m : Board.Board) (g : Tidy m) where
  place_is : (n : ℕ) → n ≢ 0 → place_with (encode m).numbers n ≡ where_is m n
  unfolding place_with where_is
  place_is n ne =
      least_ext _ _ 64 (λ i. ap (λ (a : ℕ). eqb a n) (number_is m i) ∙ by_name (at m i) (g.shape.place_ok i).named)
    where
      by_name : (x : Place) → (x ≡ free_place) ⊎ ((1 ≤ x.number) × (1 ≤ x.share)) → eqb x.number n ≡ (ltb 0 x.share && eqb n x.number)
      by_name x (inl e) = rw e (ne_eqb 0 n (λ f. ne (sym f)))
      by_name x (inr h) = rw (leb_yes 1 x.share h.1) (eqb_turn x.number n)

  where_le : (n : ℕ) → where_is m n ≤ 64
  unfolding where_is
  where_le n = least_le _ 64

  -- no open block has the number 0
  open_named : (n : ℕ) → where_is m n < 64 → n ≢ 0
  open_named n h e =
      let w = where_has m n h in
      omega (arith, named_num (at m (where_is m n)) w.bought (g.shape.place_ok (where_is m n)).named, w.named, e)

  -- what is known of a number is what the rules find
  pub found_is : (n : ℕ) → found_in (encode m).numbers n ≡ found_at (some_has m n) (where_is m n)
  unfolding found_in
  found_is n = go (ℕ_discrete n 0) (split 64 (where_is m n))
    where
      go : Dec (n ≡ 0) → (64 ≤ where_is m n) ⊎ (where_is m n < 64)
          → found_at (not (eqb n 0 || eqb (place_with (encode m).numbers n) 64)) (place_with (encode m).numbers n)
          ≡ found_at (ltb (where_is m n) 64) (where_is m n)
      go (yes z) (inr h) = absurd (open_named n h z)
      go (yes z) (inl h) = rw (eq-eqb n 0 z, leb_no (suc (where_is m n)) 64 (omega arith))
      go (no ne) (inl h) =
          let all = eq-eqb (where_is m n) 64 (omega (arith, where_le n)) in
          rw (ne_eqb n 0 ne, place_is n ne, all, leb_no (suc (where_is m n)) 64 (omega arith))
      go (no ne) (inr h) =
          let below = ne_eqb (where_is m n) 64 (λ e. omega arith) in
          rw (ne_eqb n 0 ne, place_is n ne, below, leb_yes (suc (where_is m n)) 64 h)

  pub free_is : lowest_free (encode m).numbers ≡ free_at m
  unfolding lowest_free place_with free_at
  free_is = least_ext _ _ 64 (λ i. ap (λ (a : ℕ). eqb a 0) (number_is m i) ∙ by_name (at m i) (g.shape.place_ok i).named)
    where
      by_name : (x : Place) → (x ≡ free_place) ⊎ ((1 ≤ x.number) × (1 ≤ x.share)) → eqb x.number 0 ≡ eqb x.share 0
      by_name x (inl e) = rw e
      by_name x (inr h) = ne_eqb x.number 0 (λ f. omega arith) ∙ sym (ne_eqb x.share 0 (λ f. omega arith))

-- ---- by what is known of a number, where the place itself does not matter

pub by_some : {A : Type 0} (o : Option ℕ) (a u : A) → is_some o ≡ true → by_found o (λ j. a) u ≡ a
by_some (Some p) a u e = refl
by_some None a u e = absurd (true≢false (sym e))

pub by_none : {A : Type 0} (o : Option ℕ) (f : ℕ → A) (u : A) → is_some o ≡ false → by_found o f u ≡ u
by_none (Some p) f u e = absurd (true≢false e)
by_none None f u e = refl

-- 64 is no place
pub none_is : (n : ℕ) → n ≤ 64 → eqb n 64 ≡ leb 64 n
none_is n h = go (split 64 n)
  where
    go : (64 ≤ n) ⊎ (n < 64) → eqb n 64 ≡ leb 64 n
    go (inl a) = eq-eqb n 64 (omega arith) ∙ sym (leb_yes 64 n a)
    go (inr a) = ne_eqb n 64 (λ e. omega arith) ∙ sym (leb_no 64 n a)

-- ---- By what is known of a number: the code's tests on it are the rules' checks
module _ (m : Board.Board) (g : Tidy m) where
  -- what is done with a number that must be open
  pub known_by : {A R : Type 0} (left : A → R) (came : Turn → R) (n : ℕ) (is_open : ℕ → A) (isUnknown : A) (u : Turn)
      → left isUnknown ≡ came (refuse m 6) → (where_is m n < 64 → left (is_open (where_is m n)) ≡ came u)
      → left (by_found (found_in (encode m).numbers n) is_open isUnknown) ≡ came (cond (none_has m n) (refuse m 6) u)
  known_by left came n is_open isUnknown u stopped later =
      ap (λ (x : Option ℕ). left (by_found x is_open isUnknown)) (found_is m g n) ∙ go (some_has m n) refl
    where
      go : (t : Bool) → some_has m n ≡ t
          → left (by_found (found_at t (where_is m n)) is_open isUnknown) ≡ came (cond (not t) (refuse m 6) u)
      go true e = later (true_le (suc (where_is m n)) 64 e)
      go false e = stopped

  -- and with one that must not
  pub unknown_by : {A R : Type 0} (left : A → R) (came : Turn → R) (n : ℕ) (is_open : ℕ → A) (isUnknown : A) (u : Turn)
      → left (is_open (where_is m n)) ≡ came (refuse m 5) → left isUnknown ≡ came u
      → left (by_found (found_in (encode m).numbers n) is_open isUnknown) ≡ came (cond (some_has m n) (refuse m 5) u)
  unknown_by left came n is_open isUnknown u stopped later =
      ap (λ (x : Option ℕ). left (by_found x is_open isUnknown)) (found_is m g n) ∙ go (some_has m n)
    where
      go : (t : Bool) → left (by_found (found_at t (where_is m n)) is_open isUnknown) ≡ came (cond t (refuse m 5) u)
      go true = stopped
      go false = later

pub free_le : (m : Board.Board) → free_at m ≤ 64
unfolding free_at
free_le m = least_le _ 64
