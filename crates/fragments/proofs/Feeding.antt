-- What is written from fragment to fragment, joined, is what there is to tell of the joined log. Assumes nothing.
use mathlib.Core.Path.{refl, sym, ap, ◌∙◌}
use mathlib.Core.List.{List, [], ◌++◌}
use Prim.Native.Nat.{ℕ}
use native.Mathlib.Omega.{arith}
use lib.ListN.{take}
use Rattle.fragments.specs.Feeding.{Told, fed, closed, ended, TellsAll}

pub tells_all : TellsAll
tells_all S rest is_over none s log written (fed fragment later out taken used after out' t more) =
    ap (λ (w : List ℕ). take used out' ++ w) (tells_all S rest is_over none after _ _ more) ∙ t.joined later
tells_all S rest is_over none s log written (closed out used after out' c more) =
    ap (λ (w : List ℕ). take used out' ++ w) (tells_all S rest is_over none after [] _ more) ∙ c.joined
tells_all S rest is_over none s log written (ended over) = sym (none s over)

-- a call that does nothing tells what there was
pub told_nothing : {S : Type 0} (rest : S → List ℕ → List ℕ) (s : S) (fragment out : List ℕ) → Told rest s fragment out 0 0 s out
told_nothing rest s fragment out = record { within = omega arith; fits = omega arith; joined = λ later. refl; untouched = refl }
