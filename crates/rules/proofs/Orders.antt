-- Orders as lists of places: what they list, and that ready times never fall along them.
use mathlib.Core.Path.{◌≡◌, refl, sym, ap, ◌∙◌}
use mathlib.Core.Bool.{Bool, true, false, ◌&&◌, ◌||◌, false≢true}
use mathlib.Core.Logic.{◌≢◌}
use mathlib.Core.List.{List, [], ◌∷◌, ◌++◌, map}
use Prim.Native.Nat.{ℕ, zero, suc, ◌+◌, ◌-◌, ◌≤◌, ◌<◌}
use native.Mathlib.Omega.{arith}
use native.Mathlib.Decide.{ℕ_discrete}
use lib.Dec.{eqb}
use lib.ListN.{length, get_or, set, drop}
use lib.Seq.{get_or-set_same, get_or-set_other}
use Rattle.base.proofs.Numbers.{leb_yes, true_le, eqb_yes, eqb_no, eqb_true}
use Rattle.base.proofs.Sums.{one_if_le, one_if_true}
use Rattle.base.specs.Sums.{one_if}
use Rattle.rules.specs.Board.{Stand, out, queued, serving, Place, free_place, block_class, due_by, any_due}
use Rattle.rules.specs.Choice.{upd}
use Rattle.rules.specs.Spoilt.{count, in_class, is_queued, ready_num}

pub upd_same : {A : Type 0} (f : ℕ → A) (k : ℕ) (v : A) → upd f k v k ≡ v
unfolding upd
upd_same f k v = rw (eqb_yes k k refl)

pub upd_other : {A : Type 0} (f : ℕ → A) (k : ℕ) (v : A) (j : ℕ) → j ≢ k → upd f k v j ≡ f j
unfolding upd
upd_other f k v j h = rw (eqb_no j k h)

pub map_set : {A B : Type 0} (f : A → B) (l : List A) (p : ℕ) (y : A) → map f (set l p y) ≡ set (map f l) p (f y)
map_set f [] p y = refl
map_set f (x ∷ xs) zero y = refl
map_set f (x ∷ xs) (suc p) y = ap (λ r. f x ∷ r) (map_set f xs p y)

pub count_snoc : (p : ℕ) (l : List ℕ) (q : ℕ) → count p (l ++ (q ∷ [])) ≡ count p l + one_if (eqb p q)
unfolding count
count_snoc p [] q = omega arith
count_snoc p (x ∷ xs) q = omega (arith, count_snoc p xs q)

abbrev pub pl : List Place → ℕ → Place
pl l p = get_or l p free_place

-- the order of class k lists each waiting block of the class that is not in the slot, once, and nothing else
abbrev pub InOrders : List Place → (ℕ → List ℕ) → Type 0
InOrders l o = (k q : ℕ) → count q (o k) ≡ one_if (in_class k (pl l q))

-- a block has one class
not_both : (b : Bool) (j k m : ℕ) → j ≢ k → b && eqb k m ≡ true → b && eqb j m ≡ false
not_both false j k m n e = refl
not_both true j k m n e = eqb_no j m (λ f. n (f ∙ sym (eqb_true k m e)))

pub listed_same : (l : List Place) (o : ℕ → List ℕ) (p : ℕ) (x : Place) → p < length l → ((k : ℕ) → in_class k x ≡ in_class k (pl l p)) → InOrders l o
    → InOrders (set l p x) o
listed_same l o p x h e li k q = go (ℕ_discrete q p)
  where
    go : Dec (q ≡ p) → count q (o k) ≡ one_if (in_class k (pl (set l p x) q))
    go (yes w) = rw (w, get_or-set_same l p x free_place h, e k) (li k p)
    go (no w) = rw (get_or-set_other l p q x free_place w) (li k q)

pub listed_join : (l : List Place) (o : ℕ → List ℕ) (p : ℕ) (x : Place) → p < length l → is_queued (pl l p).stand ≡ false → is_queued x.stand ≡ true
    → InOrders l o → InOrders (set l p x) (upd o (block_class x) (o (block_class x) ++ (p ∷ [])))
listed_join l o p x h was is li k q = go (ℕ_discrete k (block_class x)) (ℕ_discrete q p)
  where
    o' : ℕ → List ℕ
    o' = upd o (block_class x) (o (block_class x) ++ (p ∷ []))

    here : (j : ℕ) → count j (o' (block_class x)) ≡ count j (o (block_class x)) + one_if (eqb j p)
    here j = rw (upd_same o (block_class x) (o (block_class x) ++ (p ∷ []))) (count_snoc j (o (block_class x)) p)

    there : k ≢ block_class x → o' k ≡ o k
    there e = upd_other o (block_class x) (o (block_class x) ++ (p ∷ [])) k e

    none : count p (o k) ≡ 0
    none = rw (li k p, was)

    go : Dec (k ≡ block_class x) → Dec (q ≡ p) → count q (o' k) ≡ one_if (in_class k (pl (set l p x) q))
    go (yes a) (yes b) =
        rw (a, b, get_or-set_same l p x free_place h, is, eqb_yes (block_class x) (block_class x) refl)
        (omega (arith, here p, rw a at none, ap one_if (eqb_yes p p refl)))
    go (yes a) (no b) = rw (a, get_or-set_other l p q x free_place b) (omega (arith, here q, li (block_class x) q, ap one_if (eqb_no q p b)))
    go (no a) (yes b) = rw (there a, b, get_or-set_same l p x free_place h, is, eqb_no k (block_class x) a) none
    go (no a) (no b) = rw (there a, get_or-set_other l p q x free_place b) (li k q)

-- the first of an order leaves it
pub listed_leave : (l : List Place) (o : ℕ → List ℕ) (k p : ℕ) (ps : List ℕ) (x : Place) → p < length l → o k ≡ p ∷ ps → is_queued x.stand ≡ false
    → InOrders l o → InOrders (set l p x) (upd o k ps)
unfolding count
listed_leave l o k p ps x h first is li j q = go (ℕ_discrete j k) (ℕ_discrete q p)
  where
    whole : (i : ℕ) → one_if (eqb i p) + count i ps ≡ one_if (in_class k (pl l i))
    whole i = rw first at (li k i)

    is_in : in_class k (pl l p) ≡ true
    is_in = one_if_true (in_class k (pl l p)) (omega (arith, whole p, ap one_if (eqb_yes p p refl)))

    go : Dec (j ≡ k) → Dec (q ≡ p) → count q (upd o k ps j) ≡ one_if (in_class j (pl (set l p x) q))
    go (yes a) (yes b) =
        rw (a, b, upd_same o k ps, get_or-set_same l p x free_place h, is)
        (omega (arith, whole p, ap one_if (eqb_yes p p refl), one_if_le (in_class k (pl l p))))
    go (yes a) (no b) = rw (a, upd_same o k ps, get_or-set_other l p q x free_place b) (omega (arith, whole q, ap one_if (eqb_no q p b)))
    go (no a) (yes b) = rw (upd_other o k ps j a, b, get_or-set_same l p x free_place h, is) (rw (other a) at (li j p))
      where
        other : j ≢ k → in_class j (pl l p) ≡ false
        other n = not_both (is_queued (pl l p).stand) j k (block_class (pl l p)) n is_in
    go (no a) (no b) = rw (upd_other o k ps j a, get_or-set_other l p q x free_place b) (li j q)

abbrev pub ready : List Place → ℕ → ℕ
ready l p = ready_num (pl l p).stand

-- ready times never fall along an order
unfoldable pub Rising : List Place → List ℕ → Type 0
Rising l [] = Unit {0}
Rising l (p ∷ ps) = ((q : ℕ) → 1 ≤ count q ps → ready l p ≤ ready l q) × Rising l ps

pub rising_ext : (l l' : List Place) (ps : List ℕ) → ((q : ℕ) → 1 ≤ count q ps → ready l' q ≡ ready l q) → Rising l ps → Rising l' ps
unfolding Rising count
rising_ext l l' [] e r = tt
rising_ext l l' (p ∷ ps) e r =
    (λ q h. rw (e q (omega arith), e p (omega (arith, ap one_if (eqb_yes p p refl)))) (r.0 q h), rising_ext l l' ps (λ q h. e q (omega arith)) r.1)

pub rising_snoc : (l : List Place) (ps : List ℕ) (p : ℕ) → ((q : ℕ) → 1 ≤ count q ps → ready l q ≤ ready l p) → Rising l ps → Rising l (ps ++ (p ∷ []))
unfolding Rising count
rising_snoc l [] p h r = (λ q a. absurd (omega arith), tt)
rising_snoc l (x ∷ ps) p h r = (low, rising_snoc l ps p (λ q a. h q (omega arith)) r.1)
  where
    low : (q : ℕ) → 1 ≤ count q (ps ++ (p ∷ [])) → ready l x ≤ ready l q
    low q a = go (ℕ_discrete q p)
      where
        go : Dec (q ≡ p) → ready l x ≤ ready l q
        go (yes e) = rw e (h x (omega (arith, ap one_if (eqb_yes x x refl))))
        go (no e) = r.0 q (omega (arith, count_snoc q ps p, ap one_if (eqb_no q p e)))

-- a change at a place that the order doesn't list
pub rising_away : (l : List Place) (ps : List ℕ) (p : ℕ) (x : Place) → count p ps ≡ 0 → Rising l ps → Rising (set l p x) ps
rising_away l ps p x z r = rising_ext l (set l p x) ps same r
  where
    same : (q : ℕ) → 1 ≤ count q ps → ready (set l p x) q ≡ ready l q
    same q h = go (ℕ_discrete q p)
      where
        go : Dec (q ≡ p) → ready (set l p x) q ≡ ready l q
        go (yes e) = omega (arith, rw e at h)
        go (no e) = rw (get_or-set_other l p q x free_place e)

pub rising_kept : (l : List Place) (ps : List ℕ) (p : ℕ) (x : Place) → p < length l → ready_num x.stand ≡ ready l p → Rising l ps → Rising (set l p x) ps
rising_kept l ps p x h z r = rising_ext l (set l p x) ps same r
  where
    same : (q : ℕ) → 1 ≤ count q ps → ready (set l p x) q ≡ ready l q
    same q a = go (ℕ_discrete q p)
      where
        go : Dec (q ≡ p) → ready (set l p x) q ≡ ready l q
        go (yes e) = rw (e, get_or-set_same l p x free_place h) z
        go (no e) = rw (get_or-set_other l p q x free_place e)

due_ready : (t : ℕ) (s : Stand) → due_by t s ≡ true → ready_num s ≤ t
due_ready t out e = absurd (false≢true e)
due_ready t (queued r) e = true_le r t e
due_ready t (serving n) e = absurd (false≢true e)

ready_due : (t : ℕ) (s : Stand) → is_queued s ≡ true → ready_num s ≤ t → due_by t s ≡ true
ready_due t out e h = absurd (false≢true e)
ready_due t (queued r) e h = leb_yes r t h
ready_due t (serving n) e h = absurd (false≢true e)

-- an order with a pending block has one that is due
pub any_due_lem : (l : List Place) (t : ℕ) (qs : List ℕ) → any_due l t qs ≡ true → (q : ℕ) × (1 ≤ count q qs) × (ready l q ≤ t)
unfolding any_due count
any_due_lem l t [] e = absurd (false≢true e)
any_due_lem l t (p ∷ ps) e = go (any_due_lem l t ps) (due_by t (pl l p).stand) refl e
  where
    go : (any_due l t ps ≡ true → (q : ℕ) × (1 ≤ count q ps) × (ready l q ≤ t)) → (b : Bool) → due_by t (pl l p).stand ≡ b → b || any_due l t ps ≡ true
        → (q : ℕ) × (1 ≤ one_if (eqb q p) + count q ps) × (ready l q ≤ t)
    go r true f g = (p, omega (arith, ap one_if (eqb_yes p p refl)), due_ready t (pl l p).stand f)
    go r false f g = let w = r g in (w.0, omega (arith, w.1), w.2)

-- the first of an order with a pending block is pending
pub first_due : (l : List Place) (t p : ℕ) (ps : List ℕ) → Rising l (p ∷ ps) → any_due l t (p ∷ ps) ≡ true → ready l p ≤ t
unfolding Rising count
first_due l t p ps r e = let w = any_due_lem l t (p ∷ ps) e in go w.0 w.1 w.2 (ℕ_discrete w.0 p)
  where
    go : (q : ℕ) → 1 ≤ one_if (eqb q p) + count q ps → ready l q ≤ t → Dec (q ≡ p) → ready l p ≤ t
    go q a h (yes f) = rw (← f) h
    go q a h (no f) = omega (arith, r.0 q (omega (arith, ap one_if (eqb_no q p f))))

-- a pending block makes its order's test true
pub due_any : (l : List Place) (t q : ℕ) (ps : List ℕ) → 1 ≤ count q ps → is_queued (pl l q).stand ≡ true → ready l q ≤ t → any_due l t ps ≡ true
unfolding any_due count
due_any l t q [] h i r = absurd (omega arith)
due_any l t q (p ∷ ps) h i r = go (due_any l t q ps) (ℕ_discrete q p)
  where
    or_right : (b : Bool) → b || true ≡ true
    or_right true = refl
    or_right false = refl

    go : (1 ≤ count q ps → is_queued (pl l q).stand ≡ true → ready l q ≤ t → any_due l t ps ≡ true) → Dec (q ≡ p)
        → due_by t (pl l p).stand || any_due l t ps ≡ true
    go f (yes e) = rw (← e, ready_due t (pl l q).stand i r)
    go f (no e) = rw (f (omega (arith, ap one_if (eqb_no q p e))) i r) (or_right (due_by t (pl l p).stand))

pub in_head : (p : ℕ) (ps : List ℕ) → 1 ≤ count p (p ∷ ps)
unfolding count
in_head p ps = omega (arith, ap one_if (eqb_yes p p refl))

pub count_head : (p : ℕ) (ps : List ℕ) → count p (p ∷ ps) ≡ suc (count p ps)
unfolding count
count_head p ps = omega (arith, ap one_if (eqb_yes p p refl))

pub rising_tail : (l : List Place) (ps : List ℕ) → Rising l ps → Rising l (drop 1 ps)
unfolding Rising
rising_tail l [] r = tt
rising_tail l (p ∷ ps) r = r.1
