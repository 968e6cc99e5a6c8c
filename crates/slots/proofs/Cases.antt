-- The definitions of a slot's steps case by case, as the code goes through them.
use mathlib.Core.Path.{◌≡◌}
use mathlib.Core.Logic.{◌≢◌}
use mathlib.Core.List.{List, [], ◌∷◌}
use Prim.Native.Nat.{ℕ, zero, suc, ◌+◌, ◌-◌, ◌/◌, ◌^◌, ◌≤◌, ◌<◌}
use native.Mathlib.Omega.{arith}
use lib.ListN.{get_or, set}
use borrow.Author.Tests.{eq-eqb, ne_eqb}
use Rattle.slots.specs.Slots.{Turned, passed, turned_from}

-- a list's new element is as small as what is put there
pub set_bound : (l : List ℕ) (k v n : ℕ) → v ≤ n → get_or (set l k v) k 0 ≤ n
set_bound [] k v n h = omega arith
set_bound (x ∷ xs) zero v n h = h
set_bound (x ∷ xs) (suc k) v n h = set_bound xs k v n h

-- ---- The loop over the classes, as the clock goes on

down : (n k : ℕ) → k < n → n - k ≡ suc (n - (k + 1))
down n k h = omega arith

module _ (from to : ℕ) (heads : List ℕ) (s : Turned) (k : ℕ) (h : k < 17) where
  pub turn_stop : from / 2 ^ k ≡ to / 2 ^ k → turned_from (17 - k) k from to heads s ≡ s
  unfolding turned_from
  turn_stop e = rw (down 17 k h, eq-eqb (from / 2 ^ k) (to / 2 ^ k) e)

  pub turn_on : from / 2 ^ k ≢ to / 2 ^ k → turned_from (17 - k) k from to heads s ≡ turned_from (17 - (k + 1)) (k + 1) from to heads (passed k heads s)
  unfolding turned_from
  turn_on e = rw (down 17 k h, ne_eqb (from / 2 ^ k) (to / 2 ^ k) e)

pub turn_out : (from to : ℕ) (heads : List ℕ) (s : Turned) (k n : ℕ) → n ≡ 0 → turned_from n k from to heads s ≡ s
unfolding turned_from
turn_out from to heads s k n e = rw e

pub ruleset turns = (turn_stop, turn_on, turn_out)
