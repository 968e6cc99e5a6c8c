-- Both class sets, as a board is written: bit k is set exactly when class k is active, and pending; at any clock the first block of an order tells
-- whether its class is pending; a block that joins sets its class's active bit and no pending one; the last that waits clears its class's active bit.
use mathlib.Core.Path.{◌≡◌, refl, sym, ap, ◌∙◌}
use mathlib.Core.Bool.{Bool, true, false, ◌&&◌}
use mathlib.Core.Logic.{◌≢◌}
use mathlib.Core.List.{List, [], ◌∷◌, ◌++◌}
use Prim.Native.Nat.{ℕ, ◌<◌}
use native.Mathlib.Omega.{arith}
use native.Mathlib.Decide.{ℕ_discrete}
use lib.Dec.{leb, eqb}
use lib.ListN.{length, set, length-set}
use lib.Seq.{get_or-set_same}
use Rattle.base.specs.Sums.{one_if}
use Rattle.base.proofs.Numbers.{leb_yes, true_le, eqb_yes, eqb_no}
use Rattle.bits.specs.Sets.{in_set, with_bit, without_bit, set_below}
use Rattle.bits.proofs.Sets.{set_bit, set_ext, set_more, set_less}
use Rattle.units.proofs.Classes.{class_le}
use Rattle.rules.specs.Board
use Rattle.rules.specs.Board.{Place, free_place, block_class, waits, due_by, any_due, any_waits, active, pending}
use Rattle.rules.specs.Choice.{upd, joining}
use Rattle.rules.specs.Spoilt.{count, is_queued}
use Rattle.rules.proofs.Orders.{pl, ready, Rising, first_due, due_any, in_head, upd_same, upd_other}
use Rattle.board.specs.Reading.{encode}
use Rattle.board.specs.Laws.{ActiveBit, PendingBit}
use Rattle.board.proofs.Moves.{due_away, due_snoc, is_active, active_here, active_set}

-- ---- BIT k EXACTLY WHEN

bit_is : (t : ℕ → Bool) (k : ℕ) → k < 17 → in_set (set_below 17 t) k ≡ t k
bit_is t k h = ap (λ (n : ℕ). eqb n 1) (set_bit t 17 k h) ∙ go (t k)
  where
    go : (b : Bool) → eqb (one_if b) 1 ≡ b
    go true = refl
    go false = refl

pub active_bit : ActiveBit
unfolding encode
active_bit m k h = bit_is (active m) k h

pub pending_bit : PendingBit
unfolding encode
pending_bit m k h = bit_is (pending m) k h

-- two tests that hold together are one
pub both_ways : (s t : Bool) → (s ≡ true → t ≡ true) → (t ≡ true → s ≡ true) → s ≡ t
both_ways true t f g = sym (f refl)
both_ways false true f g = g refl
both_ways false false f g = refl

-- ---- A MOVE OF THE CLOCK: at any clock the first block of an order tells
pub due_first : (l : List Place) (t q : ℕ) (qs : List ℕ) → Rising l (q ∷ qs) → is_queued (pl l q).stand ≡ true → any_due l t (q ∷ qs) ≡ leb (ready l q) t
due_first l t q qs r e =
    both_ways (any_due l t (q ∷ qs)) (leb (ready l q) t) (λ d. leb_yes (ready l q) t (first_due l t q qs r d))
    (λ d. due_any l t q (q ∷ qs) (in_head q qs) e (true_le (ready l q) t d))

pub and_never : (t : Bool) → t && false ≡ false
and_never true = refl
and_never false = refl

other_class : (j : ℕ) (x : Place) → j ≢ block_class x → is_active j x ≡ false
other_class j x ne = rw (eqb_no j (block_class x) ne) (and_never (waits x))

-- ---- JOINING
module _ (m : Board.Board) (p : ℕ) (x : Place) (inside : p < length m.places) where
  k17 : block_class x < 17
  k17 = omega (arith, class_le x.share)

  -- a block that waits now, of the class that the place had
  pub active_join : waits x ≡ true → block_class (pl m.places p) ≡ block_class x
      → with_bit (set_below 17 (active m)) (block_class x) ≡ set_below 17 (active (joining m p x))
  active_join w same = set_more (active m) (active (joining m p x)) 17 (block_class x) k17
      (active_here (block_class x) p (set m.places p x) (rw (length-set m.places p x) inside)
      (rw (get_or-set_same m.places p x free_place inside) (rw (w, eqb_yes (block_class x) (block_class x) refl))))
      (λ j ne. active_set j p m.places x (other_class j x ne ∙ sym (other_class j (pl m.places p) (λ e. ne (e ∙ same)))))

  -- and whose ready time is above the clock
  pub pending_join : due_by m.clock x.stand ≡ false → ((k : ℕ) → count p (m.orders k) ≡ 0)
      → set_below 17 (pending m) ≡ set_below 17 (pending (joining m p x))
  pending_join late away = set_ext (pending m) (pending (joining m p x)) 17 (λ k h. sym (go k (ℕ_discrete k (block_class x))))
    where
      l' : List Place
      l' = set m.places p x

      grown : List ℕ
      grown = m.orders (block_class x) ++ (p ∷ [])

      go : (k : ℕ) → Dec (k ≡ block_class x) → any_due l' m.clock (upd m.orders (block_class x) grown k) ≡ any_due m.places m.clock (m.orders k)
      go k (yes e) =
          rw (e, upd_same m.orders (block_class x) grown)
          (due_snoc l' m.clock p (m.orders (block_class x)) (rw (get_or-set_same m.places p x free_place inside) late)
          ∙ due_away m.places m.clock p x (m.orders (block_class x)) (away (block_class x)))
      go k (no e) = rw (upd_other m.orders (block_class x) grown k e) (due_away m.places m.clock p x (m.orders k) (away k))

-- ---- LEAVING: the block at p no longer waits, and no other of its class does
pub active_leave : (m n : Board.Board) (p : ℕ) (x : Place) → n.places ≡ set m.places p x → waits x ≡ false
    → active n (block_class (pl m.places p)) ≡ false
    → without_bit (set_below 17 (active m)) (block_class (pl m.places p)) ≡ set_below 17 (active n)
active_leave m n p x e w none = set_less (active m) (active n) 17 (block_class (pl m.places p)) (omega (arith, class_le (pl m.places p).share)) none
    (λ j ne. ap (any_waits j) e ∙ active_set j p m.places x (ap (λ (t : Bool). t && eqb j (block_class x)) w ∙ sym (other_class j (pl m.places p) ne)))
