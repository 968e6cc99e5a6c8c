-- A board that is not spoilt stays so: under every call, under a burst, and so over every run.
use mathlib.Core.Path.{◌≡◌, refl}
use mathlib.Core.Bool.{true}
use mathlib.Core.List.{List, [], ◌∷◌}
use Prim.Native.Nat.{ℕ, ◌≤◌}
use native.Mathlib.Omega.{arith}
use lib.ListN.{replicate}
use Rattle.rules.specs.Board.{Board, Seventeen, fresh}
use Rattle.rules.specs.Burst.{burst}
use Rattle.rules.specs.Spoilt.{unspoilt}
use Rattle.rules.specs.Calls.{Single, serve!, step}
use Rattle.rules.specs.Runs.{play}
use Rattle.rules.proofs.Run.{good_fresh}
use Rattle.rules.proofs.Burst.{burst_serves}
use Rattle.rules.proofs.Tidy.{Tidy}
use Rattle.rules.proofs.TidyCalls.{tidy_step}
use Rattle.rules.proofs.Spoilt.{unspoilt_tidy, tidy_unspoilt}

pub tidy_fresh : (L : ℕ) → 64 ≤ L → L ≤ 2048 → Tidy (fresh L)
unfolding fresh
tidy_fresh L lo hi = record { shape = (good_fresh L lo hi).fine.shape; one = (good_fresh L lo hi).one; calm = λ _ j. refl; time = omega arith }

pub tidy_play : (b : Board) (xs : List Single) → Tidy b → Tidy (play b xs)
unfolding play
tidy_play b [] g = g
tidy_play b (x ∷ xs) g = tidy_play (step b x).next xs (tidy_step b x g)

-- ---- the same in the words of the test

pub unspoilt_step : (b : Board) (x : Single) → Seventeen b → unspoilt b ≡ true → unspoilt (step b x).next ≡ true
unspoilt_step b x high h = tidy_unspoilt (step b x).next (tidy_step b x (unspoilt_tidy b high h))

pub unspoilt_burst : (b : Board) (bytes room : ℕ) → Seventeen b → unspoilt b ≡ true → unspoilt (burst b bytes room).next ≡ true
unspoilt_burst b bytes room high h = rw (burst_serves b bytes room).next (tidy_unspoilt (play b serves) (tidy_play b serves (unspoilt_tidy b high h)))
  where
    serves : List Single
    serves = replicate (burst b bytes room).count serve!
