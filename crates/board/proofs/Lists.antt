-- Lists by their values; links behind, first and last; no list of distinct places below n is longer than n.
use mathlib.Core.Path.{◌≡◌, refl, sym, ap, ap₂, ◌∙◌}
use mathlib.Core.Bool.{cond}
use mathlib.Core.Logic.{◌⊎◌, inl, inr, ◌≢◌}
use mathlib.Core.List.{List, [], ◌∷◌, ◌++◌}
use Prim.Native.Nat.{ℕ, zero, suc, ◌≤◌, ◌<◌}
use native.Mathlib.Omega.{arith}
use native.Mathlib.Nat.{suc_inj}
use native.Mathlib.Decide.{ℕ_discrete}
use lib.Dec.{eqb}
use lib.ListN.{length, get_or, set}
use lib.Seq.{ext_get_or}
use Rattle.base.specs.Sums.{one_if, below}
use Rattle.base.proofs.Numbers.{eqb_yes, eqb_no, split}
use Rattle.base.proofs.Sums.{below_zero, below_le, below_one, below_add}
use Rattle.rules.specs.Spoilt.{count}
use Rattle.board.specs.Reading.{tab, first_link, last_link, behind, follow}

-- ---- TABLES
pub length_tab : {A : Type 0} (n : ℕ) (f : ℕ → A) → length (tab n f) ≡ n
unfolding tab
length_tab zero f = refl
length_tab (suc n) f = ap suc (length_tab n (λ i. f (suc i)))

pub get_d_tab : {A : Type 0} (n : ℕ) (f : ℕ → A) (i : ℕ) (d : A) → i < n → get_or (tab n f) i d ≡ f i
unfolding tab
get_d_tab zero f i d h = absurd (omega arith)
get_d_tab (suc n) f zero d h = refl
get_d_tab (suc n) f (suc i) d h = get_d_tab n (λ j. f (suc j)) i d (omega arith)

pub get_d_tab_out : {A : Type 0} (n : ℕ) (f : ℕ → A) (i : ℕ) (d : A) → n ≤ i → get_or (tab n f) i d ≡ d
unfolding tab
get_d_tab_out zero f i d h = refl
get_d_tab_out (suc n) f zero d h = absurd (omega arith)
get_d_tab_out (suc n) f (suc i) d h = get_d_tab_out n (λ j. f (suc j)) i d (omega arith)

pub tab_ext : {A : Type 0} (n : ℕ) (f g : ℕ → A) → ((i : ℕ) → i < n → f i ≡ g i) → tab n f ≡ tab n g
unfolding tab
tab_ext zero f g h = refl
tab_ext (suc n) f g h = ap₂ (λ x xs. x ∷ xs) (h 0 (omega arith)) (tab_ext n (λ i. f (suc i)) (λ i. g (suc i)) (λ i l. h (suc i) (omega arith)))

-- a function that differs at p
pub tab_set : {A : Type 0} (n : ℕ) (f g : ℕ → A) (p : ℕ) (y : A) → p < n → g p ≡ y → ((i : ℕ) → i < n → i ≢ p → g i ≡ f i) → set (tab n f) p y ≡ tab n g
unfolding tab
tab_set zero f g p y h e o = absurd (omega arith)
tab_set (suc n) f g zero y h e o =
    ap₂ (λ x xs. x ∷ xs) (sym e) (tab_ext n (λ i. f (suc i)) (λ i. g (suc i)) (λ i l. sym (o (suc i) (omega arith) (omega arith))))
tab_set (suc n) f g (suc p) y h e o =
    ap₂ (λ x xs. x ∷ xs) (sym (o 0 (omega arith) (omega arith)))
    (tab_set n (λ i. f (suc i)) (λ i. g (suc i)) p y (omega arith) e (λ i l k. o (suc i) (omega arith) (λ q. k (suc_inj q))))

-- a list is the table of its values
pub tab_of : {A : Type 0} (d : A) (l : List A) (n : ℕ) (f : ℕ → A) → length l ≡ n → ((i : ℕ) → i < n → get_or l i d ≡ f i) → l ≡ tab n f
tab_of d l n f e h = ext_get_or d l (tab n f) (e ∙ sym (length_tab n f)) (λ i k. h i (omega arith) ∙ sym (get_d_tab n f i d (omega arith)))

-- ---- LINKS
pub behind_none : (p : ℕ) (xs : List ℕ) → count p xs ≡ 0 → behind p xs ≡ 0
unfolding behind count
behind_none p [] h = refl
behind_none p (q ∷ qs) h = go (behind_none p qs) (ℕ_discrete p q)
  where
    go : (count p qs ≡ 0 → behind p qs ≡ 0) → Dec (p ≡ q) → cond (eqb p q) (first_link qs) (behind p qs) ≡ 0
    go r (yes e) = absurd (omega (arith, ap one_if (eqb_yes p q e)))
    go r (no e) = rw (eqb_no p q e) (r (omega arith))

pub behind_head : (p : ℕ) (ps : List ℕ) → behind p (p ∷ ps) ≡ first_link ps
unfolding behind
behind_head p ps = rw (eqb_yes p p refl)

pub behind_tail : (i p : ℕ) (ps : List ℕ) → i ≢ p → behind i (p ∷ ps) ≡ behind i ps
unfolding behind
behind_tail i p ps e = rw (eqb_no i p e)

pub last_none : (xs : List ℕ) → last_link xs ≡ 0 → xs ≡ []
unfolding last_link
last_none [] e = refl
last_none (x ∷ []) e = absurd (omega arith)
last_none (x ∷ (y ∷ ys)) e = go (last_none (y ∷ ys) e)
  where
    go : (y ∷ ys) ≡ [] → (x ∷ (y ∷ ys)) ≡ []
    go f = absurd (omega (arith, ap length f))

pub last_snoc : (xs : List ℕ) (p : ℕ) → last_link (xs ++ (p ∷ [])) ≡ suc p
unfolding last_link
last_snoc [] p = refl
last_snoc (x ∷ []) p = refl
last_snoc (x ∷ (y ∷ ys)) p = last_snoc (y ∷ ys) p

pub last_in : (xs : List ℕ) (i : ℕ) → last_link xs ≡ suc i → 1 ≤ count i xs
unfolding last_link count
last_in [] i e = absurd (omega arith)
last_in (x ∷ []) i e = omega (arith, ap one_if (eqb_yes i x (suc_inj (sym e))))
last_in (x ∷ (y ∷ ys)) i e = omega (arith, last_in (y ∷ ys) i e)

-- p is put at the end: the last one's link leads to it, and no other's changes
pub behind_snoc : (i : ℕ) (xs : List ℕ) (p : ℕ) → i ≢ p → last_link xs ≢ suc i → behind i (xs ++ (p ∷ [])) ≡ behind i xs
unfolding behind last_link
behind_snoc i [] p n l = rw (eqb_no i p n)
behind_snoc i (x ∷ []) p n l = rw (eqb_no i x (λ e. l (ap suc (sym e))), eqb_no i p n)
behind_snoc i (x ∷ (y ∷ ys)) p n l = ap (λ (r : ℕ). cond (eqb i x) (suc y) r) (behind_snoc i (y ∷ ys) p n l)

pub behind_last : (i : ℕ) (xs : List ℕ) (p : ℕ) → last_link xs ≡ suc i → count i xs ≤ 1 → behind i (xs ++ (p ∷ [])) ≡ suc p
unfolding behind last_link count
behind_last i [] p l c = absurd (omega arith)
behind_last i (x ∷ []) p l c = rw (eqb_yes i x (suc_inj (sym l)))
behind_last i (x ∷ (y ∷ ys)) p l c = go (behind_last i (y ∷ ys) p l) (ℕ_discrete i x)
  where
    go : (count i (y ∷ ys) ≤ 1 → behind i ((y ∷ ys) ++ (p ∷ [])) ≡ suc p) → Dec (i ≡ x) → cond (eqb i x) (suc y) (behind i ((y ∷ ys) ++ (p ∷ []))) ≡ suc p
    go r (yes e) = absurd (omega (arith, last_in (y ∷ ys) i l, ap one_if (eqb_yes i x e)))
    go r (no e) = rw (eqb_no i x e) (r (omega arith))

pub behind_own : (p : ℕ) (xs : List ℕ) → count p xs ≡ 0 → behind p (xs ++ (p ∷ [])) ≡ 0
unfolding count
behind_own p [] h = behind_head p []
behind_own p (x ∷ xs) h = behind_tail p x (xs ++ (p ∷ [])) (λ q. omega (arith, ap one_if (eqb_yes p x q))) ∙ behind_own p xs (omega arith)

-- ---- FOLLOWING
unfoldable pub Linked : List ℕ → List ℕ → Type 0
Linked next [] = Unit {0}
Linked next (x ∷ xs) = (get_or next x 0 ≡ first_link xs) × Linked next xs

pub follow_linked : (next : List ℕ) (n : ℕ) (xs : List ℕ) → length xs ≤ n → Linked next xs → follow next n (first_link xs) ≡ xs
unfolding follow Linked
follow_linked next zero [] h k = refl
follow_linked next zero (x ∷ xs) h k = absurd (omega arith)
follow_linked next (suc n) [] h k = refl
follow_linked next (suc n) (x ∷ xs) h k = ap (λ (r : List ℕ). x ∷ r) (ap (follow next n) k.0 ∙ follow_linked next n xs (omega arith) k.1)

pub linked_behind : (next : List ℕ) (xs : List ℕ) → ((q : ℕ) → count q xs ≤ 1) → ((q : ℕ) → 1 ≤ count q xs → get_or next q 0 ≡ behind q xs) → Linked next xs
unfolding Linked count
linked_behind next [] once h = tt
linked_behind next (x ∷ xs) once h = (h x (omega (arith, here)) ∙ behind_head x xs, linked_behind next xs (λ q. omega (arith, once q)) rest)
  where
    here : one_if (eqb x x) ≡ 1
    here = ap one_if (eqb_yes x x refl)

    rest : (q : ℕ) → 1 ≤ count q xs → get_or next q 0 ≡ behind q xs
    rest q c = h q (omega arith) ∙ behind_tail q x xs (λ e. omega (arith, once q, ap one_if (eqb_yes q x e)))

-- ---- NO LONGER THAN n
pub one_below : (n x : ℕ) → x < n → below (λ q. one_if (eqb q x)) n ≡ 1
one_below n x h =
    omega (
      arith,
      below_one (λ q. one_if (eqb q x)) (λ q. 0) n x h (λ j e. ap one_if (eqb_no j x e)),
      below_zero (λ q. 0) n (λ j l. refl),
      ap one_if (eqb_yes x x refl),
    )

pub count_length : (n : ℕ) (xs : List ℕ) → ((q : ℕ) → n ≤ q → count q xs ≡ 0) → below (λ q. count q xs) n ≡ length xs
unfolding count
count_length n [] h = below_zero (λ q. 0) n (λ j l. refl)
count_length n (x ∷ xs) h =
    omega (arith, below_add (λ q. one_if (eqb q x)) (λ q. count q xs) n, count_length n xs (λ q l. omega (arith, h q l)), one_below n x small)
  where
    small : x < n
    small = go (split n x)
      where
        go : (n ≤ x) ⊎ (x < n) → x < n
        go (inl l) = absurd (omega (arith, h x l, ap one_if (eqb_yes x x refl)))
        go (inr l) = l

ones : (n : ℕ) → below (λ q. 1) n ≡ n
unfolding below
ones zero = refl
ones (suc n) = omega (arith, ones n)

pub short_list : (n : ℕ) (xs : List ℕ) → ((q : ℕ) → n ≤ q → count q xs ≡ 0) → ((q : ℕ) → count q xs ≤ 1) → length xs ≤ n
short_list n xs h once = omega (arith, count_length n xs h, below_le (λ q. count q xs) (λ q. 1) n (λ j l. once j), ones n)
