-- Laws of a log's first field, by which a player begins: it is L in its range, by what may stand before L. Assumes nothing.
use mathlib.Core.Path.{◌≡◌, sym, ap, ◌∙◌}
use mathlib.Core.Bool.{true, ◌&&◌, true≢false}
use Prim.Native.Nat.{ℕ}
use lib.Dec.{leb}
use Rattle.log_bytes.specs.declared.Stage.TheVariants.{BeforeL}
use Rattle.log_bytes.specs.declared.Event.{Event}
use Rattle.log_bytes.specs.declared.Event.TheVariants.{Largest}
use Rattle.log_bytes.specs.Format.{is_l, in_turn}
use Rattle.log_bytes.proofs.Stages.{no_l, turn_first}

-- L is in its range
pub largest_range : (l : ℕ) → in_turn (Largest l) BeforeL ≡ true → (leb 64 l && leb l 2048) ≡ true
unfolding in_turn
largest_range l e = e

-- nothing but L is in turn before L
pub not_largest : (e : Event) → in_turn e BeforeL ≡ true → ((l : ℕ) → e ≡ Largest l → ⊥) → ⊥
not_largest e h k = true≢false (sym (ap is_l (turn_first e h).1.0) ∙ no_l e k)
