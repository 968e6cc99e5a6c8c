-- The clock goes on: the engine's pending classes and held shares after it are the rules'.
use mathlib.Core.Path.{◌≡◌, refl, sym, ap, ap₂, ◌∙◌}
use mathlib.Core.Bool.{Bool, true, false, cond, not, ◌&&◌, ◌||◌, true≢false}
use mathlib.Core.Logic.{◌⊎◌, inl, inr, ◌≢◌}
use mathlib.Core.List.{List, [], ◌∷◌}
use Prim.Native.Nat.{ℕ, zero, suc, ◌+◌, ◌*◌, ◌/◌, ◌^◌, ◌≤◌, ◌<◌}
use native.Mathlib.Nat.{lt-div-mul-add, div-mul-le_self, lt_of_mul-lt-mul_right}
use native.Mathlib.Omega.{arith}
use native.Mathlib.Decide.{ℕ_discrete}
use lib.Pow.{pow_pos}
use lib.Dec.{eqb, leb}
use lib.ListN.{get_or}
use borrow.Author.Tests.{eq-eqb, ne_eqb}
use Rattle.base.proofs.Numbers.{split, leb_yes, leb_no, eqb_yes, eqb_no}
use Rattle.bits.specs.Sets.{with_bit, set_below}
use Rattle.bits.proofs.Sets.{set_ext, set_more}
use Rattle.units.specs.Classes.{Start, next_start}
use Rattle.units.proofs.Starts.{next_gt, next_is, next_align}
use Rattle.rules.specs.Board.{Place, block_class, any_due}
use Rattle.rules.specs.Choice.{release}
use Rattle.rules.specs.Spoilt.{count, is_queued}
use Rattle.rules.proofs.Orders.{pl, ready, InOrders, any_due_lem, due_any, in_head}
use Rattle.rules.proofs.Shape.{SeatP, listed_in}
use Rattle.board.specs.Reading.{tab, first_link}
use Rattle.board.proofs.Lists.{get_d_tab, tab_ext, tab_set}
use Rattle.slots.specs.Slots.{turned_now, passed, turned_from, turned}
use Rattle.slots.proofs.Sets.{true_or}

-- ---- Of which classes a start is passed

pub same_interval : (k c t : ℕ) → c / 2 ^ k ≡ t / 2 ^ k → t < next_start k c
unfolding next_start
same_interval k c t e = rw e (next_gt k t)

next_same : (k c t : ℕ) → c ≤ t → t < next_start k c → c / 2 ^ k ≡ t / 2 ^ k
unfolding next_start
next_same k c t h l =
    let a : t / 2 ^ k * 2 ^ k < (c / 2 ^ k + 1) * 2 ^ k = omega (arith, div-mul-le_self t (2 ^ k)) in
    let b : c / 2 ^ k * 2 ^ k < (t / 2 ^ k + 1) * 2 ^ k = omega (arith, div-mul-le_self c (2 ^ k), lt-div-mul-add {a = t} (pow_pos k)) in
    omega (arith, lt_of_mul-lt-mul_right (2 ^ k) a, lt_of_mul-lt-mul_right (2 ^ k) b)

other_interval : (k c t : ℕ) → c ≤ t → c / 2 ^ k ≢ t / 2 ^ k → next_start k c ≤ t
other_interval k c t h e = go (split (next_start k c) t)
  where
    go : (next_start k c ≤ t) ⊎ (t < next_start k c) → next_start k c ≤ t
    go (inl l) = l
    go (inr l) = absurd (e (next_same k c t h l))

or_false : (b : Bool) → b || false ≡ b
or_false true = refl
or_false false = refl

and_false : (b : Bool) → b && false ≡ false
and_false true = refl
and_false false = refl

module _ (c t : ℕ) (h : c ≤ t) (full : ℕ → Bool) (heads : List ℕ) (here : (k : ℕ) → k < 17 → eqb (get_or heads k 0) 0 ≡ not (full k)) where
  abbrev gone : ℕ → Bool
  gone j = leb (next_start j c) t

  -- from class k on
  abbrev due : ℕ → (ℕ → Bool) → ℕ → Bool
  due k f j = f j || (leb k j && (gone j && full j))

  abbrev rest : ℕ → (ℕ → ℕ) → ℕ → ℕ
  rest k H j = cond (leb k j && gone j) 0 (H j)

  -- one class
  more : ℕ → (ℕ → Bool) → ℕ → Bool
  more k f j = f j || (eqb j k && full j)

  less : ℕ → (ℕ → ℕ) → ℕ → ℕ
  less k H j = cond (eqb j k) 0 (H j)

  one_class : (k : ℕ) → k < 17 → (f : ℕ → Bool) (H : ℕ → ℕ)
      → passed k heads (turned_now (set_below 17 f) (tab 17 H)) ≡ turned_now (set_below 17 (more k f)) (tab 17 (less k H))
  unfolding more less
  one_class k l f H =
      ap₂ turned_now (rw (here k l) (go (full k) refl))
      (tab_set 17 H (less k H) k 0 l (ap (λ (b : Bool). cond b 0 (H k)) (eqb_yes k k refl)) (λ j m ne. ap (λ (b : Bool). cond b 0 (H j)) (eqb_no j k ne)))
    where
      other : (j : ℕ) → j ≢ k → f j || (eqb j k && full j) ≡ f j
      other j ne = ap (λ (b : Bool). f j || (b && full j)) (eqb_no j k ne) ∙ or_false (f j)

      own : f k || (eqb k k && full k) ≡ f k || full k
      own = ap (λ (b : Bool). f k || (b && full k)) (eqb_yes k k refl)

      or_true : (b : Bool) → b || true ≡ true
      or_true true = refl
      or_true false = refl

      go : (b : Bool) → full k ≡ b → cond (not b) (set_below 17 f) (with_bit (set_below 17 f) k) ≡ set_below 17 (more k f)
      go true e = set_more f (more k f) 17 k l (own ∙ ap (λ (b : Bool). f k || b) e ∙ or_true (f k)) other
      go false e = set_ext f (more k f) 17 (λ j m. same j (ℕ_discrete j k))
        where
          same : (j : ℕ) → Dec (j ≡ k) → f j ≡ f j || (eqb j k && full j)
          same j (yes q) = rw q (sym (own ∙ ap (λ (b : Bool). f k || b) e ∙ or_false (f k)))
          same j (no q) = sym (other j q)

  -- a class below k, or one of which no start is passed, is as it was
  idle : (k : ℕ) (f : ℕ → Bool) (H : ℕ → ℕ) → ((j : ℕ) → j < 17 → leb k j && gone j ≡ false)
      → turned_now (set_below 17 f) (tab 17 H) ≡ turned_now (set_below 17 (due k f)) (tab 17 (rest k H))
  idle k f H e =
      ap₂ turned_now (set_ext f (due k f) 17 (λ j l. sym (and_or (f j) (leb k j) (gone j) (full j) (e j l))))
      (tab_ext 17 H (rest k H) (λ j l. sym (ap (λ (b : Bool). cond b 0 (H j)) (e j l))))
    where
      and_or : (a b d w : Bool) → b && d ≡ false → a || (b && (d && w)) ≡ a
      and_or a true true w q = absurd (true≢false q)
      and_or a true false w q = or_false a
      and_or a false d w q = or_false a

  -- a start of class k is passed: what is left to do from the next class on
  onward : (k : ℕ) → gone k ≡ true → (f : ℕ → Bool) (H : ℕ → ℕ)
      → turned_now (set_below 17 (due (k + 1) (more k f))) (tab 17 (rest (k + 1) (less k H))) ≡ turned_now (set_below 17 (due k f)) (tab 17 (rest k H))
  unfolding more less
  onward k p f H = ap₂ turned_now (set_ext _ _ 17 (λ j l. sets j (ℕ_discrete j k) (split k j))) (tab_ext 17 _ _ (λ j l. shares j (ℕ_discrete j k) (split k j)))
    where
      above : (j : ℕ) → j ≢ k → k ≤ j → (leb (k + 1) j ≡ true) × (leb k j ≡ true) × (eqb j k ≡ false)
      above j ne l = (leb_yes (k + 1) j (omega arith), leb_yes k j l, eqb_no j k ne)

      under : (j : ℕ) → j < k → (leb (k + 1) j ≡ false) × (leb k j ≡ false) × (eqb j k ≡ false)
      under j l = (leb_no (k + 1) j (omega arith), leb_no k j l, eqb_no j k (λ q. omega arith))

      sets : (j : ℕ) → Dec (j ≡ k) → (k ≤ j) ⊎ (j < k)
          → (f j || (eqb j k && full j)) || (leb (k + 1) j && (gone j && full j)) ≡ f j || (leb k j && (gone j && full j))
      sets j (yes q) s = rw (q, eqb_yes k k refl, leb_no (k + 1) k (omega arith), leb_yes k k (omega arith), p) (or_false (f k || full k))
      sets j (no q) (inl s) = rw ((above j q s).0, (above j q s).1, (above j q s).2) (ap (λ (b : Bool). b || (gone j && full j)) (or_false (f j)))
      sets j (no q) (inr s) = rw ((under j s).0, (under j s).1, (under j s).2) (or_false (f j || false))

      shares : (j : ℕ) → Dec (j ≡ k) → (k ≤ j) ⊎ (j < k) → cond (leb (k + 1) j && gone j) 0 (cond (eqb j k) 0 (H j)) ≡ cond (leb k j && gone j) 0 (H j)
      shares j (yes q) s = rw (q, eqb_yes k k refl, leb_no (k + 1) k (omega arith), leb_yes k k (omega arith), p)
      shares j (no q) (inl s) = rw ((above j q s).0, (above j q s).1, (above j q s).2)
      shares j (no q) (inr s) = rw ((under j s).0, (under j s).1, (under j s).2)

  -- n classes from class k on
  all_classes : (n k : ℕ) → n + k ≡ 17 → (f : ℕ → Bool) (H : ℕ → ℕ)
      → turned_from n k c t heads (turned_now (set_below 17 f) (tab 17 H)) ≡ turned_now (set_below 17 (due k f)) (tab 17 (rest k H))
  unfolding turned_from
  all_classes zero k e f H = idle k f H (λ j l. ap (λ (b : Bool). b && gone j) (leb_no k j (omega arith)))
  all_classes (suc n) k e f H = go (all_classes n (k + 1) (omega arith)) (ℕ_discrete (c / 2 ^ k) (t / 2 ^ k))
    where
      go : ((f' : ℕ → Bool) (H' : ℕ → ℕ)
          → turned_from n (k + 1) c t heads (turned_now (set_below 17 f') (tab 17 H')) ≡ turned_now (set_below 17 (due (k + 1) f')) (tab 17 (rest (k + 1) H')))
          → Dec (c / 2 ^ k ≡ t / 2 ^ k)
          → cond (eqb (c / 2 ^ k) (t / 2 ^ k)) (turned_now (set_below 17 f) (tab 17 H))
          (turned_from n (k + 1) c t heads (passed k heads (turned_now (set_below 17 f) (tab 17 H)))) ≡ turned_now (set_below 17 (due k f)) (tab 17 (rest k H))
      go r (yes q) = rw (eq-eqb (c / 2 ^ k) (t / 2 ^ k) q) (idle k f H (λ j l. none j (split k j)))
        where
          none : (j : ℕ) → (k ≤ j) ⊎ (j < k) → leb k j && gone j ≡ false
          none j (inl l) =
              ap (λ (b : Bool). leb k j && b) (leb_no (next_start j c) t (omega (arith, same_interval k c t q, next_align k j c l))) ∙ and_false (leb k j)
          none j (inr l) = ap (λ (b : Bool). b && gone j) (leb_no k j l)
      go r (no q) =
          rw (ne_eqb (c / 2 ^ k) (t / 2 ^ k) q)
          (ap (turned_from n (k + 1) c t heads) (one_class k (omega arith) f H) ∙ r (more k f) (less k H)
          ∙ onward k (leb_yes (next_start k c) t (other_interval k c t h q)) f H)

  turned_is : (f : ℕ → Bool) (H : ℕ → ℕ)
      → turned c t heads (turned_now (set_below 17 f) (tab 17 H)) ≡ turned_now (set_below 17 (λ j. f j || (gone j && full j))) (tab 17 (release c t H))
  unfolding turned release
  turned_is f H =
      all_classes 17 0 refl f H
      ∙ ap₂ turned_now (set_ext _ _ 17 (λ j l. ap (λ (b : Bool). f j || (b && (gone j && full j))) (leb_yes 0 j (omega arith))))
      (tab_ext 17 _ _ (λ j l. ap (λ (b : Bool). cond (b && gone j) 0 (H j)) (leb_yes 0 j (omega arith))))

-- ---- So the pending classes and the held shares after it are the rules'

-- what the clock meets: ready times are starts of the class, and none is above the next start above the old clock
due_later : (l : List Place) (o : ℕ → List ℕ) (c t : ℕ) → InOrders l o → ((q : ℕ) → SeatP c (pl l q)) → c ≤ t → (k : ℕ)
    → any_due l c (o k) || (leb (next_start k c) t && not (eqb (first_link (o k)) 0)) ≡ any_due l t (o k)
unfolding any_due
due_later l o c t listed seat h k = go (true_or (any_due l c (o k)))
  where
    is_in : (q : ℕ) → 1 ≤ count q (o k) → (is_queued (pl l q).stand ≡ true) × (k ≡ block_class (pl l q))
    is_in q i = listed_in l o listed k q i

    -- where none is due yet, each is ready at the next start
    at_next : any_due l c (o k) ≡ false → (q : ℕ) → 1 ≤ count q (o k) → ready l q ≡ next_start k c
    at_next e q i = late (split (ready l q) c)
      where
        s : (Start (block_class (pl l q)) (ready l q)) × (ready l q ≤ next_start (block_class (pl l q)) c)
        s = seat q (is_in q i).0

        late : (ready l q ≤ c) ⊎ (c < ready l q) → ready l q ≡ next_start k c
        late (inl d) = absurd (true≢false (sym (due_any l c q (o k) i (is_in q i).0 d) ∙ e))
        late (inr d) = next_is k c (ready l q) (rw (is_in q i).1 s.0) d (rw (is_in q i).1 s.1)

    later : any_due l c (o k) ≡ false → (xs : List ℕ) → o k ≡ xs → leb (next_start k c) t && not (eqb (first_link xs) 0) ≡ any_due l t (o k)
    later e [] q = and_false (leb (next_start k c) t) ∙ sym (ap (any_due l t) q)
    later e (p ∷ ps) q = rw (ne_eqb (suc p) 0 (λ z. omega arith)) (reached (split (next_start k c) t))
      where
        is_first : 1 ≤ count p (o k)
        is_first = rw q (in_head p ps)

        not_yet : t < next_start k c → (b : Bool) → any_due l t (o k) ≡ b → b ≡ false
        not_yet d false f = refl
        not_yet d true f = let w = any_due_lem l t (o k) f in absurd (omega (arith, w.2, at_next e w.0 w.1))

        reached : (next_start k c ≤ t) ⊎ (t < next_start k c) → leb (next_start k c) t && true ≡ any_due l t (o k)
        reached (inl d) = rw (leb_yes (next_start k c) t d) (sym (due_any l t p (o k) is_first (is_in p is_first).0 (omega (arith, at_next e p is_first))))
        reached (inr d) = rw (leb_no (next_start k c) t d) (sym (not_yet d (any_due l t (o k)) refl))

    go : (any_due l c (o k) ≡ true) ⊎ (any_due l c (o k) ≡ false)
        → any_due l c (o k) || (leb (next_start k c) t && not (eqb (first_link (o k)) 0)) ≡ any_due l t (o k)
    go (inl e) = let w = any_due_lem l c (o k) e in rw e (sym (due_any l t w.0 (o k) w.1 (is_in w.0 w.1).0 (omega (arith, w.2))))
    go (inr e) = rw e (later e (o k) refl)

pub clock_is : (l : List Place) (o : ℕ → List ℕ) (H : ℕ → ℕ) (c t : ℕ) → InOrders l o → ((q : ℕ) → SeatP c (pl l q)) → c ≤ t
    → turned c t (tab 17 (λ k. first_link (o k))) (turned_now (set_below 17 (λ k. any_due l c (o k))) (tab 17 H))
    ≡ turned_now (set_below 17 (λ k. any_due l t (o k))) (tab 17 (release c t H))
clock_is l o H c t listed seat h =
    turned_is c t h (λ k. not (eqb (first_link (o k)) 0)) (tab 17 (λ k. first_link (o k)))
    (λ k i. ap (λ (n : ℕ). eqb n 0) (get_d_tab 17 (λ j. first_link (o j)) k 0 i) ∙ sym (not_not (eqb (first_link (o k)) 0))) (λ k. any_due l c (o k)) H
    ∙ ap (λ (s : ℕ). turned_now s (tab 17 (release c t H))) (set_ext _ _ 17 (λ k i. due_later l o c t listed seat h k))
  where
    not_not : (b : Bool) → not (not b) ≡ b
    not_not true = refl
    not_not false = refl
