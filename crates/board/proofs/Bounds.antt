-- What is known of the arrays that are written for a board that is not spoilt.
use mathlib.Core.Path.{◌≡◌, refl, ap}
use mathlib.Core.Logic.{◌⊎◌, inl, inr}
use Prim.Native.Nat.{ℕ, zero, suc, ◌≤◌, ◌<◌}
use native.Mathlib.Omega.{arith}
use lib.ListN.{get_or}
use Rattle.base.specs.Sums.{below}
use Rattle.base.proofs.Sums.{below_mono}
use Rattle.base.proofs.Numbers.{split}
use Rattle.rules.specs.Board
use Rattle.rules.specs.Board.{Place, free_place, at}
use Rattle.board.specs.Reading.{tab, last_link, encode}
use Rattle.board.proofs.Lists.{get_d_tab, get_d_tab_out, last_in}
use Rattle.board.proofs.Reading.{Fit, small}
use Rattle.board.proofs.Fields.{number_is, share_is}

module _ (m : Board.Board) (f : Fit m) where
  pub bought : (i : ℕ) → 1 ≤ get_or (encode m).numbers i 0 → 1 ≤ get_or (encode m).shares i 0
  bought i h = rw (share_is m i) (go (f.tidy.shape.place_ok i).named (rw (number_is m i) at h))
    where
      go : (at m i ≡ free_place) ⊎ ((1 ≤ (at m i).number) × (1 ≤ (at m i).share)) → 1 ≤ (at m i).number → 1 ≤ (at m i).share
      go (inl e) k = absurd (omega (arith, ap (λ (y : Place). y.number) e))
      go (inr e) k = e.1

  pub within : (i : ℕ) → get_or (encode m).shares i 0 ≤ 65536
  within i = rw (share_is m i) (f.tidy.shape.place_ok i).most

  pub linked : (k : ℕ) → k < 17 → get_or (encode m).tails k 0 ≤ 64
  unfolding encode
  linked k h = rw (get_d_tab 17 (λ j. last_link (m.orders j)) k 0 h) (go (last_link (m.orders k)) refl)
    where
      go : (n : ℕ) → last_link (m.orders k) ≡ n → n ≤ 64
      go zero e = omega arith
      go (suc q) e = small m f.tidy k q (last_in (m.orders k) q e)

  pub held_most : (k : ℕ) → get_or (encode m).held k 0 ≤ 65536
  unfolding encode below
  held_most k = go (split 17 k)
    where
      go : (17 ≤ k) ⊎ (k < 17) → get_or (tab 17 m.held) k 0 ≤ 65536
      go (inl h) = rw (get_d_tab_out 17 m.held k 0 h) (omega arith)
      go (inr h) = rw (get_d_tab 17 m.held k 0 h) (omega (arith, below_at m.held k, below_mono m.held (suc k) 17 h, f.tidy.shape.used_share))
        where
          below_at : (H : ℕ → ℕ) (j : ℕ) → H j ≤ below H (suc j)
          below_at H j = omega arith
