-- Tests that decide a fact.
use mathlib.Core.Path.{◌≡◌, refl, sym, ap, ap₂}
use mathlib.Core.Bool.{Bool, true, false, not, ◌&&◌, ◌||◌, false≢true}
use mathlib.Core.Logic.{◌⊎◌, inl, inr}
use mathlib.Core.List.{List, [], ◌∷◌}
use Prim.Native.Nat.{ℕ, ◌≤◌, ◌<◌}
use native.Mathlib.Omega.{arith}
use lib.Dec.{leb, eqb}
use lib.ListN.{length, get_or, drop}
use Rattle.base.specs.Tests.{Decides, every, alike, same_list, all_below}
use Rattle.base.proofs.Numbers.{leb_yes, true_le, eqb_yes, eqb_true}
use Rattle.base.proofs.Tests.{all_at, all_intro}

-- the same fact in other words
pub d_iff : {t : Bool} {P Q : Type 0} → Decides t P → (P → Q) → (Q → P) → Decides t Q
d_iff d f g = record { yes = λ h. f (d.yes h); no = λ q. d.no (g q) }

-- two tests of one fact are one
pub decided_alike : {t u : Bool} {P : Type 0} → Decides t P → Decides u P → t ≡ u
decided_alike {t = true} d e = sym (e.no (d.yes refl))
decided_alike {t = false} {u = true} d e = d.no (e.yes refl)
decided_alike {t = false} {u = false} d e = refl

-- ---- one test

pub d_true : (a : Bool) → Decides a (a ≡ true)
d_true a = record { yes = λ e. e; no = λ e. e }

pub d_leb : (a b : ℕ) → Decides (leb a b) (a ≤ b)
d_leb a b = record { yes = true_le a b; no = leb_yes a b }

pub d_eqb : (a b : ℕ) → Decides (eqb a b) (a ≡ b)
d_eqb a b = record { yes = eqb_true a b; no = eqb_yes a b }

pub d_alike : (a b : Bool) → Decides (alike a b) (a ≡ b)
d_alike true b = record { yes = λ e. sym e; no = λ e. sym e }
d_alike false true = record { yes = λ e. e; no = λ e. e }
d_alike false false = record { yes = λ e. refl; no = λ e. refl }

-- ---- tests of tests

pub d_not : {a : Bool} {P : Type 0} → Decides a P → Decides (not a) (P → ⊥)
d_not {a = true} d = record { yes = λ h p. false≢true h; no = λ f. absurd (f (d.yes refl)) }
d_not {a = false} d = record { yes = λ h p. false≢true (d.no p); no = λ f. refl }

pub d_and : {a b : Bool} {P Q : Type 0} → Decides a P → Decides b Q → Decides (a && b) (P × Q)
d_and {a = true} d e = record { yes = λ h. (d.yes refl, e.yes h); no = λ w. e.no w.1 }
d_and {a = false} d e = record { yes = λ h. absurd (false≢true h); no = λ w. d.no w.0 }

pub d_or : {a b : Bool} {P Q : Type 0} → Decides a P → Decides b Q → Decides (a || b) (P ⊎ Q)
d_or {a = true} d e = record { yes = λ h. inl (d.yes refl); no = λ w. refl }
d_or {a = false} {b} {P} {Q} d e = record { yes = λ h. inr (e.yes h); no = from }
  where
    from : P ⊎ Q → b ≡ true
    from (inl p) = absurd (false≢true (d.no p))
    from (inr q) = e.no q

-- where the first test holds, so does the second's fact
pub d_imp : (a : Bool) {b : Bool} {P : Type 0} → Decides b P → Decides (not a || b) (a ≡ true → P)
d_imp true d = record { yes = λ h e. d.yes h; no = λ f. d.no (f refl) }
d_imp false d = record { yes = λ h e. absurd (false≢true e); no = λ f. refl }

-- ---- rows of tests

pub d_all : (n : ℕ) (t : ℕ → Bool) (P : ℕ → Type 0) → ((i : ℕ) → Decides (t i) (P i)) → Decides (all_below n t) ((i : ℕ) → i < n → P i)
d_all n t P d = record { yes = λ h i l. (d i).yes (all_at t n i h l); no = λ f. all_intro t n (λ i l. (d i).no (f i l)) }

-- each test of a list holds
abbrev pub Each : List Bool → Type 0
Each [] = Unit {0}
Each (t ∷ ts) = (t ≡ true) × Each ts

pub d_every : (ts : List Bool) → Decides (every ts) (Each ts)
d_every [] = record { yes = λ e. tt; no = λ e. refl }
d_every (t ∷ ts) = d_and (d_true t) (d_every ts)

-- ---- lists

pub d_list : (xs ys : List ℕ) → Decides (same_list xs ys) (xs ≡ ys)
unfolding same_list
d_list [] [] = record { yes = λ e. refl; no = λ e. refl }
d_list [] (y ∷ ys) = record { yes = λ e. absurd (false≢true e); no = λ e. absurd (omega (arith, ap length e)) }
d_list (x ∷ xs) [] = record { yes = λ e. absurd (false≢true e); no = λ e. absurd (omega (arith, ap length e)) }
d_list (x ∷ xs) (y ∷ ys) =
    d_iff (d_and (d_eqb x y) (d_list xs ys)) (λ w. ap₂ (λ (z : ℕ) (zs : List ℕ). z ∷ zs) w.0 w.1)
    (λ e. (ap (λ (l : List ℕ). get_or l 0 0) e, ap (λ (l : List ℕ). drop 1 l) e))
