-- Checks go down the table: a call is refused with the code of the first check that holds, or every check fails and it is done.
use mathlib.Core.Path.{◌≡◌, refl}
use mathlib.Core.Bool.{Bool, true, false, cond}
use mathlib.Core.Logic.{◌⊎◌, inl, inr}
use mathlib.Core.List.{List, [], ◌∷◌}
use Prim.Native.Nat.{ℕ}
use Rattle.rules.specs.Board.{Board}
use Rattle.rules.specs.Choice.{Turn, refuse, Check, guarded}

-- no check of the list holds
abbrev pub Fail : List Check → Type 0
Fail [] = Unit {0}
Fail (c ∷ cs) = (c.holds ≡ false) × Fail cs

-- the first check that holds has that code
abbrev pub First : List Check → (code : ℕ) → Type 0
First [] code = ⊥
First (c ∷ cs) code = ((c.holds ≡ true) × (code ≡ c.code)) ⊎ ((c.holds ≡ false) × First cs code)

pub guarded_cases : (b : Board) (cs : List Check) (u : Turn) (P : Turn → Type 0)
    → ((code : ℕ) → First cs code → P (refuse b code)) → (Fail cs → P u) → P (guarded b cs u)
guarded_cases b [] u P stop go = go tt
guarded_cases b (c ∷ cs) u P stop go = by c.holds refl (guarded_cases b cs u P)
  where
    by : (t : Bool) → c.holds ≡ t → (((code : ℕ) → First cs code → P (refuse b code)) → (Fail cs → P u) → P (guarded b cs u))
        → P (cond t (refuse b c.code) (guarded b cs u))
    by true e rest = stop c.code (inl (e, refl))
    by false e rest = rest (λ code f. stop code (inr (e, f))) (λ f. go (e, f))
