-- A number's digits: how many there are, and writing them from the last one on. Assumes nothing.
use mathlib.Core.Path.{◌≡◌, refl, sym, ap, ap₂, ◌∙◌}
use mathlib.Core.Bool.{Bool, true, false}
use mathlib.Core.List.{List, [], ◌∷◌, ◌++◌, append_assoc, append-nil}
use Prim.Native.Nat.{ℕ, zero, suc, ◌+◌, ◌-◌, ◌*◌, ◌/◌, ◌%◌, ◌^◌, ◌≤◌, ◌<◌}
use native.Mathlib.Nat.{pow-suc}
use native.Mathlib.Omega.{arith}
use borrow.Author.Tests.{ltb-true, ltb-false}
use lib.Dec.{ltb}
use lib.ListN.{length, set}
use lib.Seq.{sets, set_comm}
use Rattle.lines.specs.Text.{decimal, Written}
use Rattle.lines.proofs.Texts.{decimal_one, decimal_more, decimal_more_length, decimal_length}

-- ---- how many there are

decimal_some : (n : ℕ) → 1 ≤ length (decimal n)
decimal_some n = go (ltb n 10) refl
  where
    go : (t : Bool) → ltb n 10 ≡ t → 1 ≤ length (decimal n)
    go true e = omega (arith, ap length (decimal_one n (ltb-true n 10 e)))
    go false e = omega (arith, decimal_more_length n (ltb-false n 10 e))

power_some : (w : ℕ) → 1 ≤ 10 ^ w
power_some zero = omega arith
power_some (suc w) = omega (arith, pow-suc 10 w, power_some w)

-- a number from 10 ^ w on has more than w digits
decimal_least : (w n : ℕ) → 10 ^ w ≤ n → suc w ≤ length (decimal n)
decimal_least zero n h = decimal_some n
decimal_least (suc w) n h =
    let p : 10 ^ w * 10 ≤ n = omega (arith, pow-suc 10 w, h) in
    omega (arith, decimal_least w (n / 10) (omega (arith, p)), decimal_more_length n (omega (arith, p, power_some w)))

-- one below 10 has one, and one between two powers of 10 as many as the greater says
pub digits_one : (n : ℕ) → n < 10 → 1 ≡ length (decimal n)
digits_one n h = sym (ap length (decimal_one n h))

pub digits_between : (w n : ℕ) → 10 ^ w ≤ n → n < 10 ^ suc w → suc w ≡ length (decimal n)
digits_between w n l h = omega (arith, decimal_least w n l, decimal_length w n h)

-- ---- writing them from the last one on

-- a store in front of a run of stores
set_first : (xs l : List ℕ) (i j a : ℕ) → i < j → set (sets l j xs) i a ≡ sets (set l i a) j xs
set_first [] l i j a h = refl
set_first (x ∷ xs) l i j a h =
    set_first xs (set l j x) i (suc j) a (omega arith) ∙ ap (λ (m : List ℕ). sets m (suc j) xs) (set_comm l j i x a (λ e. omega (arith, e)))

-- what is written stands behind the digits that are left, and these are the rest's
pub record Filled (before : List ℕ) (at n rest i : ℕ) (after : List ℕ) : Type 0 where
  pub left : List ℕ
  pub text : List ℕ
  pub whole : decimal n ≡ left ++ text
  pub here : i ≡ at + length left
  pub list : after ≡ sets before i text
  pub spelt : 1 ≤ length left → left ≡ decimal rest

pub filled_none : (l : List ℕ) (at n end : ℕ) → end ≡ at + length (decimal n) → Filled l at n n end l
filled_none l at n end h =
    record { left = decimal n; text = []; whole = sym (append-nil (decimal n)); here = h; list = refl; spelt = λ _. refl }

module _ (l : List ℕ) (at n rest i : ℕ) (m : List ℕ) (f : Filled l at n rest i m) where
  pub filled_more : at < i → Filled l at n (rest / 10) (i - 1) (set m (i - 1) (48 + rest % 10))
  filled_more h = go (ltb rest 10) refl
    where
      spelt : f.left ≡ decimal rest
      spelt = f.spelt (omega (arith, f.here))

      list : set m (i - 1) (48 + rest % 10) ≡ sets l (i - 1) ((48 + rest % 10) ∷ f.text)
      list =
          ap (λ (k : List ℕ). set k (i - 1) (48 + rest % 10)) f.list
          ∙ set_first f.text l (i - 1) i (48 + rest % 10) (omega arith)
          ∙ ap (λ (j : ℕ). sets (set l (i - 1) (48 + rest % 10)) j f.text) (omega arith)

      go : (t : Bool) → ltb rest 10 ≡ t → Filled l at n (rest / 10) (i - 1) (set m (i - 1) (48 + rest % 10))
      go true e = record {
        left = [];
        text = (48 + rest % 10) ∷ f.text;
        whole = f.whole ∙ ap (λ (ds : List ℕ). ds ++ f.text) (spelt ∙ decimal_one rest (ltb-true rest 10 e));
        here = omega (arith, f.here, ap length spelt, ap length (decimal_one rest (ltb-true rest 10 e)));
        list = list;
        spelt = λ k. absurd (omega arith);
      }
      go false e = record {
        left = decimal (rest / 10);
        text = (48 + rest % 10) ∷ f.text;
        whole =
            f.whole ∙ ap (λ (ds : List ℕ). ds ++ f.text) (spelt ∙ decimal_more rest (ltb-false rest 10 e))
            ∙ append_assoc (decimal (rest / 10)) ((48 + rest % 10) ∷ []) f.text;
        here = omega (arith, f.here, ap length spelt, decimal_more_length rest (ltb-false rest 10 e));
        list = list;
        spelt = λ _. refl;
      }

  pub filled_all : i ≤ at → (end : ℕ) → end ≡ at + length (decimal n) → Written l at (decimal n) end m
  filled_all h end e = record {
    ends = e;
    list = f.list ∙ ap₂ (λ (j : ℕ) (ds : List ℕ). sets l j ds) (omega (arith, f.here)) (sym whole);
  }
    where
      empty : (ds : List ℕ) → length ds ≤ 0 → ds ≡ []
      empty [] k = refl
      empty (d ∷ ds) k = absurd (omega arith)

      whole : decimal n ≡ f.text
      whole = f.whole ∙ ap (λ (ds : List ℕ). ds ++ f.text) (empty f.left (omega (arith, f.here)))
