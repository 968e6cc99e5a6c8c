-- The class sets as they are computed are the sets of the active and of the pending classes, where the orders list each waiting block but the slot's.
use mathlib.Core.Path.{◌≡◌, refl, sym, ap, ap₂, ◌∙◌}
use mathlib.Core.Bool.{Bool, true, false, cond, not, ◌&&◌, ◌||◌, true≢false, false≢true}
use mathlib.Core.Logic.{◌⊎◌, inl, inr, ◌≢◌}
use mathlib.Core.Option.{Option, none, some}
use mathlib.Core.List.{List, [], ◌∷◌}
use Prim.Native.Nat.{ℕ, zero, suc, ◌+◌, ◌*◌, ◌-◌, ◌^◌, ◌≤◌, ◌<◌}
use native.Mathlib.Omega.{arith}
use native.Mathlib.Nat.{mul-le-mul_left, mul_assoc, pow-suc}
use native.Mathlib.Decide.{ℕ_discrete}
use lib.Dec.{leb, ltb, eqb}
use lib.ListN.{length, get_or}
use lib.Pow.{pow_mono}
use borrow.Author.Tests.{ne_eqb, eqb-false, le-leb, lt-leb, not-true}
use Rattle.base.specs.Sums.{one_if}
use Rattle.base.proofs.Numbers.{split, eqb_yes, eqb_no, eqb_true}
use Rattle.base.proofs.Sums.{one_if_true}
use Rattle.base.proofs.Tests.{and_left, and_right, and_both}
use Rattle.bits.specs.Sets.{set_below, bit_at}
use Rattle.bits.proofs.Sets.{set_ext, set_bit}
use Rattle.bits.proofs.Bits.{bit_high}
use Rattle.units.specs.Classes.{class_of}
use Rattle.units.proofs.Classes.{class_lo, class_hi, class_le}
use Rattle.rules.specs.Board
use Rattle.rules.specs.Board.{Place, at, block_class, waits, any_waits, active, pending, any_due}
use Rattle.rules.specs.Blocks.{quiet}
use Rattle.rules.specs.Choice.{is_none, least_ready}
use Rattle.rules.specs.Spoilt.{count, is_queued, in_class, ready_num}
use Rattle.rules.proofs.Orders.{pl, Rising, ready, in_head}
use Rattle.rules.proofs.Shape.{LeastIs, least_is, queued_in}
use Rattle.board.specs.declared.Board as struct
use Rattle.board.specs.Reading.{first_link, slot_by, view}
use Rattle.board.proofs.Moves.{is_active, active_here, active_none}
use Rattle.board.proofs.Walks.{first_follow}
use Rattle.board.proofs.ClassSets.{and_never, both_ways, due_first}
use Rattle.spoilt_places.specs.Ranges.{in_order}
use Rattle.spoilt_orders.specs.Walks.{of_class, class_active, class_pending}
use Rattle.spoilt.proofs.Walk.{less}
use Rattle.spoilt.proofs.Places.{inner, beyond, waits_is, ready_is, share_at, queued_at, all_64}

-- ---- the class of a share, multiplied out

pub in_class_lem : (s k : ℕ) → 1 ≤ s → s ≤ 65536 → of_class k s ≡ eqb k (class_of s)
unfolding of_class
in_class_lem s k low high = go (ℕ_discrete k (class_of s))
  where
    up : (m n : ℕ) → m < n → s * 2 ^ m + s * 2 ^ m ≤ s * 2 ^ n
    up m n h = omega (arith, mul-le-mul_left s (pow_mono {i = suc m} {j = n} h), ap (λ (x : ℕ). s * x) (pow-suc 2 m) ∙ sym (mul_assoc s (2 ^ m) 2))

    apart : (k ≤ class_of s) ⊎ (class_of s < k) → k ≢ class_of s → leb 65536 (s * 2 ^ k) && ltb (s * 2 ^ k) 131072 ≡ false
    apart (inl l) ne = rw (lt-leb 65536 (s * 2 ^ k) (omega (arith, up k (class_of s) (omega arith), class_hi s high)))
    apart (inr l) ne =
        let no : leb (suc (s * 2 ^ k)) 131072 ≡ false = lt-leb (suc (s * 2 ^ k)) 131072 (omega (arith, up (class_of s) k l, class_lo s low)) in
        rw no (and_never (leb 65536 (s * 2 ^ k)))

    go : Dec (k ≡ class_of s) → leb 65536 (s * 2 ^ k) && ltb (s * 2 ^ k) 131072 ≡ eqb k (class_of s)
    go (yes e) =
        rw (
          e,
          eqb_yes (class_of s) (class_of s) refl,
          le-leb 65536 (s * 2 ^ class_of s) (class_lo s low),
          le-leb (suc (s * 2 ^ class_of s)) 131072 (class_hi s high),
        )
    go (no e) = apart (split k (class_of s)) e ∙ sym (eqb_no k (class_of s) e)

-- ---- what holds of the orders and the slot, from the test's rules and from the rules' clauses alike

pub record Ordered (b : struct.Board) (ids lens : List ℕ) : Type 0 where
  pub listed : (k : ℕ) → k < 17 → (p : ℕ) → p < 64 → count p ((view b ids lens).orders k) ≡ one_if (in_class k (at (view b ids lens) p))
  pub inside : (k : ℕ) → k < 17 → (p : ℕ) → 1 ≤ count p ((view b ids lens).orders k) → p < 64
  pub rising : (k : ℕ) → k < 17 → Rising (view b ids lens).places ((view b ids lens).orders k)
  pub slot : (p : ℕ) → b.slot ≡ suc p → (p < 64) × (eqb (get_or b.counts p 0) 0 ≡ false)
  pub share : (p : ℕ) → p < 64 → get_or b.shares p 0 ≤ 65536
  pub is_open : (p : ℕ) → p < 64 → eqb (get_or b.counts p 0) 0 ≡ false → 1 ≤ get_or b.shares p 0

any_active : (k : ℕ) (l : List Place) → any_waits k l ≡ true → (p : ℕ) × (p < length l) × (is_active k (pl l p) ≡ true)
unfolding any_waits
any_active k [] e = absurd (false≢true e)
any_active k (x ∷ xs) e = go (is_active k x) refl e (any_active k xs)
  where
    go : (t : Bool) → is_active k x ≡ t → t || any_waits k xs ≡ true → (any_waits k xs ≡ true → (p : ℕ) × (p < length xs) × (is_active k (pl xs p) ≡ true))
        → (p : ℕ) × (p < suc (length xs)) × (is_active k (pl (x ∷ xs) p) ≡ true)
    go true f h r = (0, omega arith, f)
    go false f h r = let w = r h in (suc w.0, omega (arith, w.1), w.2)

-- a list with a place in it has a first link, and one with a first link a place
some_first : (p : ℕ) (qs : List ℕ) → 1 ≤ count p qs → first_link qs ≢ 0
unfolding count
some_first p [] c z = absurd (omega arith)
some_first p (q ∷ qs) c z = absurd (omega arith)

first_some : (qs : List ℕ) → first_link qs ≢ 0 → (q : ℕ) × (1 ≤ count q qs)
first_some [] h = absurd (h refl)
first_some (q ∷ qs) h = (q, in_head q qs)

module _ (b : struct.Board) (ids lens : List ℕ) (w : Ordered b ids lens) where
  abbrev v : Board.Board
  v = view b ids lens

  head_is : (k : ℕ) → first_link ((view b ids lens).orders k) ≡ get_or b.heads k 0
  unfolding view
  head_is k = first_follow b.next (get_or b.heads k 0)

  class_at_lem : (k p : ℕ) → p < 64 → eqb (get_or b.counts p 0) 0 ≡ false → of_class k (get_or b.shares p 0) ≡ eqb k (block_class (at v p))
  class_at_lem k p h c =
      in_class_lem (get_or b.shares p 0) k (w.is_open p h c) (w.share p h) ∙ ap (λ (s : ℕ). eqb k (class_of s)) (sym (share_at b ids lens p h))

  -- a block that is in an order waits
  queued_waits : (p : ℕ) → p < 64 → is_queued (at v p).stand ≡ true → waits (at v p) ≡ true
  unfolding in_order
  queued_waits p h e =
      ap waits (inner b ids lens p h) ∙ waits_is b ids lens p ∙ and_left (not (eqb (get_or b.counts p 0) 0)) _ (sym (queued_at b ids lens p h) ∙ e)

  waits_count : (p : ℕ) → p < 64 → waits (at v p) ≡ true → eqb (get_or b.counts p 0) 0 ≡ false
  waits_count p h e = not-true _ (sym (ap waits (inner b ids lens p h) ∙ waits_is b ids lens p) ∙ e)

  count_waits : (p : ℕ) → p < 64 → eqb (get_or b.counts p 0) 0 ≡ false → waits (at v p) ≡ true
  count_waits p h e = ap waits (inner b ids lens p h) ∙ waits_is b ids lens p ∙ ap not e

  -- a block that waits is in an order or has the slot
  waits_where : (p : ℕ) → p < 64 → waits (at v p) ≡ true → (is_queued (at v p).stand ≡ true) ⊎ (b.slot ≡ p + 1)
  unfolding in_order
  waits_where p h e = go (eqb b.slot (p + 1)) refl
    where
      go : (t : Bool) → eqb b.slot (p + 1) ≡ t → (is_queued (at v p).stand ≡ true) ⊎ (b.slot ≡ p + 1)
      go true f = inr (eqb_true b.slot (p + 1) f)
      go false f = inl (queued_at b ids lens p h ∙ ap₂ (λ (s t : Bool). not s && not t) (waits_count p h e) f)

  -- ACTIVE
  pub active_is : (k : ℕ) → k < 17 → active v k ≡ class_active b.slot b.shares b.heads k
  unfolding class_active
  active_is k hk = both_ways (active v k) _ to (from (eqb h 0) refl)
    where
      h : ℕ
      h = get_or b.heads k 0

      slot_in : Bool
      slot_in = not (eqb b.slot 0) && (leb b.slot 64 && of_class k (get_or b.shares (b.slot - 1) 0))

      by_slot : (s : Bool) → slot_in ≡ true → s || slot_in ≡ true
      by_slot true e = refl
      by_slot false e = e

      listed_head : (p : ℕ) → 1 ≤ count p (v.orders k) → not (eqb h 0) || slot_in ≡ true
      listed_head p c = rw (ne_eqb h 0 (λ z. some_first p (v.orders k) c (head_is k ∙ z)))

      place : (p : ℕ) → p < 64 → is_active k (at v p) ≡ true → (is_queued (at v p).stand ≡ true) ⊎ (b.slot ≡ p + 1) → not (eqb h 0) || slot_in ≡ true
      place p l e (inl q) =
          listed_head p (omega (
            arith,
            w.listed k hk p l,
            ap one_if (ap₂ (λ (s t : Bool). s && t) q (and_right (waits (at v p)) (eqb k (block_class (at v p))) e)),
          ))
      place p l e (inr s) =
          by_slot (not (eqb h 0))
          (rw (s, ne_eqb (p + 1) 0 (λ z. omega arith), le-leb (p + 1) 64 (omega arith), back p)
          (class_at_lem k p l (waits_count p l (and_left (waits (at v p)) _ e)) ∙ and_right (waits (at v p)) (eqb k (block_class (at v p))) e))
        where
          back : (q : ℕ) → q + 1 - 1 ≡ q
          back q = omega arith

      to : active v k ≡ true → not (eqb h 0) || slot_in ≡ true
      to e =
          let f = any_active k v.places e in let l : f.0 < 64 = omega (arith, f.1, all_64 b ids lens) in
          place f.0 l f.2 (waits_where f.0 l (and_left (waits (at v f.0)) _ f.2))

      first : (q : ℕ) → 1 ≤ count q (v.orders k) → active v k ≡ true
      first q c =
          let l : q < 64 = w.inside k hk q c in
          let e : in_class k (at v q) ≡ true = one_if_true (in_class k (at v q)) (omega (arith, w.listed k hk q l)) in
          active_here k q v.places (omega (arith, all_64 b ids lens))
          (and_both (waits (at v q)) (eqb k (block_class (at v q))) (queued_waits q l (and_left (is_queued (at v q).stand) _ e))
          (and_right (is_queued (at v q).stand) (eqb k (block_class (at v q))) e))

      by_mark : (s : ℕ) → b.slot ≡ s → not (eqb s 0) && (leb s 64 && of_class k (get_or b.shares (s - 1) 0)) ≡ true → active v k ≡ true
      by_mark zero e f = absurd (false≢true f)
      by_mark (suc p) e f =
          let l = w.slot p e in
          let c : of_class k (get_or b.shares p 0) ≡ true =
          rw (less p) at (and_right (leb (suc p) 64) (of_class k (get_or b.shares (suc p - 1) 0)) (and_right (not (eqb (suc p) 0)) _ f)) in
          active_here k p v.places (omega (arith, l.0, all_64 b ids lens))
          (and_both (waits (at v p)) (eqb k (block_class (at v p))) (count_waits p l.0 l.1) (sym (class_at_lem k p l.0 l.1) ∙ c))

      from : (t : Bool) → eqb h 0 ≡ t → not t || slot_in ≡ true → active v k ≡ true
      from true f e = by_mark b.slot refl e
      from false f e = let q = first_some (v.orders k) (λ z. eqb-false h 0 f (sym (head_is k) ∙ z)) in first q.0 q.1

  -- PENDING
  clock_is : (view b ids lens).clock ≡ b.clock
  unfolding view
  clock_is = refl

  module _ (k q : ℕ) (qs : List ℕ) (hk : k < 17) (first : (view b ids lens).orders k ≡ q ∷ qs) where
    first_met : 1 ≤ count q (v.orders k)
    first_met = rw first (in_head q qs)

    first_in : q < 64
    first_in = w.inside k hk q first_met

    first_queued : is_queued (at v q).stand ≡ true
    first_queued = and_left (is_queued (at v q).stand) _ (one_if_true (in_class k (at v q)) (omega (arith, w.listed k hk q first_in, first_met)))

    first_ready : ready v.places q ≡ get_or b.ready q 0
    first_ready = ap (λ (x : Place). ready_num x.stand) (inner b ids lens q first_in) ∙ ready_is b ids lens q
        ∙ ap (λ (t : Bool). cond t (get_or b.ready q 0) 0) (sym (queued_at b ids lens q first_in) ∙ first_queued)

    first_pending : any_due v.places v.clock (q ∷ qs) ≡ leb (get_or b.ready q 0) b.clock
    first_pending = due_first v.places v.clock q qs (rw first at (w.rising k hk)) first_queued ∙ ap₂ leb first_ready clock_is

  pub pending_is : (k : ℕ) → k < 17 → pending v k ≡ class_pending b.clock b.ready b.heads k
  unfolding class_pending any_due
  pending_is k hk = go (v.orders k) refl
    where
      test : ℕ → Bool
      test h = not (eqb h 0) && (leb h 64 && leb (get_or b.ready (h - 1) 0) b.clock)

      go : (qs : List ℕ) → v.orders k ≡ qs → pending v k ≡ test (get_or b.heads k 0)
      go [] e = ap (any_due v.places v.clock) e ∙ ap test (sym (ap first_link e) ∙ head_is k)
      go (q ∷ qs) e = ap (any_due v.places v.clock) e ∙ first_pending k q qs hk e ∙ sym is ∙ ap test (sym (ap first_link e) ∙ head_is k)
        where
          is : test (suc q) ≡ leb (get_or b.ready q 0) b.clock
          is = rw (ne_eqb (suc q) 0 (λ z. omega arith), le-leb (suc q) 64 (omega (arith, first_in k q qs hk e)), less q)

  -- NONE WAITS
  waiting_active : (p : ℕ) → p < 64 → waits (at v p) ≡ true → active v (block_class (at v p)) ≡ true
  waiting_active p h e =
      active_here (block_class (at v p)) p v.places (omega (arith, all_64 b ids lens))
      (and_both (waits (at v p)) _ e (eqb_yes (block_class (at v p)) (block_class (at v p)) refl))

  no_slot : is_none v.slot ≡ true → b.slot ≡ 0
  unfolding view
  no_slot e = go b.slot e
    where
      go : (s : ℕ) → is_none (slot_by s) ≡ true → s ≡ 0
      go zero e = refl
      go (suc p) e = absurd (false≢true e)

  no_order_lem : (m : Option ℕ) → LeastIs v.places m → is_none m ≡ true → (p : ℕ) → is_queued (at v p).stand ≡ false
  unfolding LeastIs
  no_order_lem none l e = l
  no_order_lem (some r) l e = absurd (false≢true e)

  quiet_none : is_none v.slot ≡ true → is_none (least_ready v.places) ≡ true → (k p : ℕ) → is_active k (at v p) ≡ false
  quiet_none s m k p = go (split 64 p)
    where
      not_waits : p < 64 → (t : Bool) → waits (at v p) ≡ t → t ≡ false
      not_waits l false e = refl
      not_waits l true e = absurd (no_where (waits_where p l e))
        where
          no_where : (is_queued (at v p).stand ≡ true) ⊎ (b.slot ≡ p + 1) → ⊥
          no_where (inl q) = true≢false (sym q ∙ no_order_lem (least_ready v.places) (least_is v.places) m p)
          no_where (inr q) = absurd (omega (arith, no_slot s))

      go : (64 ≤ p) ⊎ (p < 64) → is_active k (at v p) ≡ false
      go (inl l) = ap (is_active k) (beyond b ids lens p l)
      go (inr l) = rw (not_waits l (waits (at v p)) refl)

  quiet_zero : is_none v.slot ≡ true → is_none (least_ready v.places) ≡ true → set_below 17 (active v) ≡ 0
  unfolding set_below
  quiet_zero s m = set_ext (active v) (λ k. false) 17 (λ k l. active_none k v.places (quiet_none s m k))

  module _ (zero! : set_below 17 (active v) ≡ 0) where
    none_active : (k : ℕ) → k < 17 → active v k ≡ false
    none_active k h = go (active v k) (sym (set_bit (active v) 17 k h) ∙ ap (λ (s : ℕ). bit_at s k) zero! ∙ bit_high 0 0 k (omega arith) (omega arith))
      where
        go : (t : Bool) → one_if t ≡ 0 → t ≡ false
        go true e = absurd (omega arith)
        go false e = refl

    none_waits : (p : ℕ) → p < 64 → waits (at v p) ≡ true → ⊥
    none_waits p h e = true≢false (sym (waiting_active p h e) ∙ none_active (block_class (at v p)) (omega (arith, class_le (at v p).share)))

    zero_slot : is_none v.slot ≡ true
    unfolding view
    zero_slot = go b.slot refl
      where
        go : (s : ℕ) → b.slot ≡ s → is_none (slot_by s) ≡ true
        go zero e = refl
        go (suc p) e = absurd (none_waits p (w.slot p e).0 (count_waits p (w.slot p e).0 (w.slot p e).1))

    zero_order : (m : Option ℕ) → LeastIs v.places m → is_none m ≡ true
    unfolding LeastIs
    zero_order none l = refl
    zero_order (some r) l =
        let h : l.1.0 < 64 = omega (arith, queued_in v.places l.1.0 l.1.1, all_64 b ids lens) in
        absurd (none_waits l.1.0 h (queued_waits l.1.0 h l.1.1))

  pub quiet_is : quiet v ≡ eqb (set_below 17 (active v)) 0
  unfolding quiet
  quiet_is = both_ways (quiet v) (eqb (set_below 17 (active v)) 0)
      (λ e. eqb_yes (set_below 17 (active v)) 0
      (quiet_zero (and_left (is_none v.slot) _ e) (and_right (is_none v.slot) (is_none (least_ready v.places)) e)))
      (λ e. let z = eqb_true (set_below 17 (active v)) 0 e in
      and_both (is_none v.slot) (is_none (least_ready v.places)) (zero_slot z) (zero_order z (least_ready v.places) (least_is v.places)))
