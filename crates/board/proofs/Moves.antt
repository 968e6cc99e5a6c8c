-- What joining an order, leaving it and a change at one place do to the arrays that are written.
use mathlib.Core.Path.{◌≡◌, refl, sym, ap, ap₂, ◌∙◌}
use mathlib.Core.Bool.{Bool, true, false, cond, ◌&&◌, ◌||◌, true≢false}
use mathlib.Core.Logic.{◌≢◌}
use mathlib.Core.Option.{Option, none, some}
use mathlib.Core.List.{List, [], ◌∷◌, ◌++◌}
use Prim.Native.Nat.{ℕ, zero, suc, ◌-◌, ◌≤◌, ◌<◌}
use native.Mathlib.Omega.{arith}
use native.Mathlib.Nat.{suc_inj}
use native.Mathlib.Decide.{ℕ_discrete}
use lib.Dec.{eqb}
use lib.ListN.{length, get_or, set}
use lib.Seq.{get_or-set_same, get_or-set_other}
use borrow.Author.Tests.{eq-eqb, ne_eqb}
use Rattle.base.specs.Sums.{one_if}
use Rattle.base.proofs.Numbers.{eqb_true, eqb_yes, eqb_no}
use Rattle.rules.specs.Board.{any_waits, any_due, Place, due_by, waits, free_place, block_class}
use Rattle.rules.specs.Spoilt.{count, is_at}
use Rattle.rules.specs.Choice.{upd, left_of}
use Rattle.rules.proofs.Orders.{upd_same, upd_other, pl}
use Rattle.board.specs.Reading.{tab, first_link, last_link, behind, slot_left}
use Rattle.board.proofs.Lists.{get_d_tab, tab_ext, tab_set, behind_none, behind_head, behind_tail, behind_snoc, behind_last, behind_own, last_none}
use Rattle.board.proofs.Lists.{last_snoc, last_in}

-- ---- ORDERS, as lists by class; kj j is the class of place j
module _ (o : ℕ → List ℕ) (kj : ℕ → ℕ) where
  abbrev pub nexts : List ℕ
  nexts = tab 64 (λ j. behind j (o (kj j)))

  abbrev pub heads : List ℕ
  heads = tab 17 (λ k. first_link (o k))

  abbrev pub tails : List ℕ
  tails = tab 17 (λ k. last_link (o k))

-- p, which is in no order, joins the one of class k
module _ (o : ℕ → List ℕ) (kj : ℕ → ℕ) (p k : ℕ) (p64 : p < 64) (k17 : k < 17) (own : kj p ≡ k) (away : count p (o k) ≡ 0)
    (class : (q : ℕ) → 1 ≤ count q (o k) → kj q ≡ k) (once : (q : ℕ) → count q (o k) ≤ 1) (few : (q : ℕ) → 1 ≤ count q (o k) → q < 64) where
  o_join : ℕ → List ℕ
  o_join = upd o k (o k ++ (p ∷ []))

  at_k : o_join k ≡ o k ++ (p ∷ [])
  unfolding o_join
  at_k = upd_same o k (o k ++ (p ∷ []))

  off_k : (j : ℕ) → j ≢ k → o_join j ≡ o j
  unfolding o_join
  off_k j e = upd_other o k (o k ++ (p ∷ [])) j e

  pub tails_join : set (tails o kj) k (suc p) ≡ tails (upd o k (o k ++ (p ∷ []))) kj
  unfolding o_join
  tails_join =
      tab_set 17 (λ j. last_link (o j)) (λ j. last_link (o_join j)) k (suc p) k17 (ap last_link at_k ∙ last_snoc (o k) p) (λ j l e. ap last_link (off_k j e))

  pub heads_join : (t : Bool) → eqb (last_link (o k)) 0 ≡ t → cond t (set (heads o kj) k (suc p)) (heads o kj) ≡ heads (upd o k (o k ++ (p ∷ []))) kj
  unfolding o_join last_link
  heads_join true e =
      tab_set 17 (λ j. first_link (o j)) (λ j. first_link (o_join j)) k (suc p) k17
      (ap first_link (at_k ∙ ap (λ (r : List ℕ). r ++ (p ∷ [])) (last_none (o k) (eqb_true (last_link (o k)) 0 e)))) (λ j l ne. ap first_link (off_k j ne))
  heads_join false e = tab_ext 17 (λ j. first_link (o j)) (λ j. first_link (o_join j)) (λ j l. go j (ℕ_discrete j k))
    where
      grown : (xs : List ℕ) → eqb (last_link xs) 0 ≡ false → first_link xs ≡ first_link (xs ++ (p ∷ []))
      grown [] f = absurd (true≢false f)
      grown (x ∷ xs) f = refl

      go : (j : ℕ) → Dec (j ≡ k) → first_link (o j) ≡ first_link (o_join j)
      go j (yes q) = rw (q, at_k) (grown (o k) e)
      go j (no q) = ap first_link (sym (off_k j q))

  pub nexts_join : (t : Bool) → eqb (last_link (o k)) 0 ≡ t
      → set (cond t (nexts o kj) (set (nexts o kj) (last_link (o k) - 1) (suc p))) p 0 ≡ nexts (upd o k (o k ++ (p ∷ []))) kj
  unfolding o_join
  nexts_join true e = tab_set 64 (λ j. behind j (o (kj j))) (λ j. behind j (o_join (kj j))) p 0 p64 here (λ j l ne. there j ne (ℕ_discrete (kj j) k))
    where
      none! : o k ≡ []
      none! = last_none (o k) (eqb_true (last_link (o k)) 0 e)

      single : o_join k ≡ p ∷ []
      single = at_k ∙ ap (λ (r : List ℕ). r ++ (p ∷ [])) none!

      here : behind p (o_join (kj p)) ≡ 0
      here = rw (own, single) (behind_head p [])

      there : (j : ℕ) → j ≢ p → Dec (kj j ≡ k) → behind j (o_join (kj j)) ≡ behind j (o (kj j))
      there j ne (yes q) = rw (q, single, none!) (behind_tail j p [] ne)
      there j ne (no q) = ap (behind j) (off_k (kj j) q)
  nexts_join false e = go (last_link (o k)) refl
    where
      go : (t : ℕ) → last_link (o k) ≡ t → set (set (nexts o kj) (t - 1) (suc p)) p 0 ≡ nexts o_join kj
      go zero f = absurd (true≢false (sym (eq-eqb (last_link (o k)) 0 f) ∙ e))
      go (suc z) f =
          ap (λ (i : ℕ). set (set (nexts o kj) i (suc p)) p 0) less
          ∙ ap (λ (r : List ℕ). set r p 0)
          (tab_set 64 (λ j. behind j (o (kj j))) mid z (suc p) z64 mid_z (λ j l ne. ap (λ (b : Bool). cond b (suc p) (behind j (o (kj j)))) (eqb_no j z ne)))
          ∙ tab_set 64 mid (λ j. behind j (o_join (kj j))) p 0 p64 here (λ j l ne. there j ne (ℕ_discrete (kj j) k) (ℕ_discrete j z))
        where
          less : suc z - 1 ≡ z
          less = omega arith

          is_in : 1 ≤ count z (o k)
          is_in = last_in (o k) z f

          z64 : z < 64
          z64 = few z is_in

          kz : kj z ≡ k
          kz = class z is_in

          mid : ℕ → ℕ
          mid j = cond (eqb j z) (suc p) (behind j (o (kj j)))

          mid_z : mid z ≡ suc p
          mid_z = ap (λ (b : Bool). cond b (suc p) (behind z (o (kj z)))) (eqb_yes z z refl)

          here : behind p (o_join (kj p)) ≡ 0
          here = rw (own, at_k) (behind_own p (o k) away)

          there : (j : ℕ) → j ≢ p → Dec (kj j ≡ k) → Dec (j ≡ z) → behind j (o_join (kj j)) ≡ mid j
          there j ne (yes q) (yes w) =
              ap₂ (λ (i n : ℕ). behind i (o_join n)) w q ∙ ap (behind z) at_k ∙ behind_last z (o k) p f (once z) ∙ sym (ap mid w ∙ mid_z)
          there j ne (yes q) (no w) =
              rw (q, at_k) (behind_snoc j (o k) p ne (λ h. w (suc_inj (sym (sym f ∙ h))))
              ∙ sym (ap (λ (b : Bool). cond b (suc p) (behind j (o k))) (eqb_no j z w)))
          there j ne (no q) (yes w) = absurd (q (ap kj w ∙ kz))
          there j ne (no q) (no w) = ap (behind j) (off_k (kj j) q) ∙ sym (ap (λ (b : Bool). cond b (suc p) (behind j (o (kj j)))) (eqb_no j z w))

-- the first of the order of class k leaves it
module _ (o : ℕ → List ℕ) (kj : ℕ → ℕ) (p k : ℕ) (ps : List ℕ) (p64 : p < 64) (k17 : k < 17) (own : kj p ≡ k) (first : o k ≡ p ∷ ps)
    (away : count p ps ≡ 0) where
  o_left : ℕ → List ℕ
  o_left = upd o k ps

  left_k : o_left k ≡ ps
  unfolding o_left
  left_k = upd_same o k ps

  left_off : (j : ℕ) → j ≢ k → o_left j ≡ o j
  unfolding o_left
  left_off j e = upd_other o k ps j e

  pub after_first : get_or (nexts o kj) p 0 ≡ first_link ps
  after_first = get_d_tab 64 (λ j. behind j (o (kj j))) p 0 p64 ∙ ap (λ (j : ℕ). behind p (o j)) own ∙ ap (behind p) first ∙ behind_head p ps

  pub nexts_leave : set (nexts o kj) p 0 ≡ nexts (upd o k ps) kj
  unfolding o_left
  nexts_leave =
      tab_set 64 (λ j. behind j (o (kj j))) (λ j. behind j (o_left (kj j))) p 0 p64 (rw (own, left_k) (behind_none p ps away))
      (λ j l ne. there j ne (ℕ_discrete (kj j) k))
    where
      there : (j : ℕ) → j ≢ p → Dec (kj j ≡ k) → behind j (o_left (kj j)) ≡ behind j (o (kj j))
      there j ne (yes q) = rw (q, left_k, first) (sym (behind_tail j p ps ne))
      there j ne (no q) = ap (behind j) (left_off (kj j) q)

  pub heads_leave : set (heads o kj) k (first_link ps) ≡ heads (upd o k ps) kj
  unfolding o_left
  heads_leave =
      tab_set 17 (λ j. first_link (o j)) (λ j. first_link (o_left j)) k (first_link ps) k17 (ap first_link left_k) (λ j l e. ap first_link (left_off j e))

  pub tails_leave : cond (eqb (first_link ps) 0) (set (tails o kj) k 0) (tails o kj) ≡ tails (upd o k ps) kj
  unfolding o_left last_link
  tails_leave = go ps refl
    where
      go : (qs : List ℕ) → ps ≡ qs → cond (eqb (first_link qs) 0) (set (tails o kj) k 0) (tails o kj) ≡ tails o_left kj
      go [] e = tab_set 17 (λ j. last_link (o j)) (λ j. last_link (o_left j)) k 0 k17 (ap last_link (left_k ∙ e)) (λ j l ne. ap last_link (left_off j ne))
      go (q ∷ qs) e = rw (ne_eqb (suc q) 0 (λ z. omega arith)) (tab_ext 17 (λ j. last_link (o j)) (λ j. last_link (o_left j)) (λ j l. same j (ℕ_discrete j k)))
        where
          same : (j : ℕ) → Dec (j ≡ k) → last_link (o j) ≡ last_link (o_left j)
          same j (yes w) = rw (w, left_k, first, e)
          same j (no w) = ap last_link (sym (left_off j w))

-- ---- CLASSES THAT ARE PENDING
pub due_ext : (l l' : List Place) (t : ℕ) (ps : List ℕ) → ((q : ℕ) → 1 ≤ count q ps → due_by t (pl l' q).stand ≡ due_by t (pl l q).stand)
    → any_due l' t ps ≡ any_due l t ps
unfolding any_due count
due_ext l l' t [] h = refl
due_ext l l' t (p ∷ ps) h = ap₂ (λ (a b : Bool). a || b) (h p (omega (arith, ap one_if (eqb_yes p p refl)))) (due_ext l l' t ps (λ q c. h q (omega arith)))

pub due_away : (l : List Place) (t p : ℕ) (x : Place) (ps : List ℕ) → count p ps ≡ 0 → any_due (set l p x) t ps ≡ any_due l t ps
due_away l t p x ps z =
    due_ext l (set l p x) t ps (λ q c. ap (λ (y : Place). due_by t y.stand) (get_or-set_other l p q x free_place (λ e. omega (arith, z, rw e at c))))

pub due_snoc : (l : List Place) (t p : ℕ) (ps : List ℕ) → due_by t (pl l p).stand ≡ false → any_due l t (ps ++ (p ∷ [])) ≡ any_due l t ps
unfolding any_due
due_snoc l t p [] e = rw e
due_snoc l t p (q ∷ qs) e = ap (λ (b : Bool). due_by t (pl l q).stand || b) (due_snoc l t p qs e)

-- ---- CLASSES THAT ARE ACTIVE
abbrev pub is_active : ℕ → Place → Bool
is_active k x = waits x && eqb k (block_class x)

pub active_here : (k p : ℕ) (l : List Place) → p < length l → is_active k (pl l p) ≡ true → any_waits k l ≡ true
unfolding any_waits
active_here k p [] h e = absurd (omega arith)
active_here k zero (x ∷ xs) h e = rw e
active_here k (suc p) (x ∷ xs) h e = ap (λ (b : Bool). is_active k x || b) (active_here k p xs (omega arith) e) ∙ or_true (is_active k x)
  where
    or_true : (a : Bool) → a || true ≡ true
    or_true true = refl
    or_true false = refl

pub active_none : (k : ℕ) (l : List Place) → ((p : ℕ) → is_active k (pl l p) ≡ false) → any_waits k l ≡ false
unfolding any_waits
active_none k [] h = refl
active_none k (x ∷ xs) h = rw (h 0) (active_none k xs (λ p. h (suc p)))

pub active_set : (k p : ℕ) (l : List Place) (x : Place) → is_active k x ≡ is_active k (pl l p) → any_waits k (set l p x) ≡ any_waits k l
unfolding any_waits
active_set k p [] x e = refl
active_set k zero (y ∷ ys) x e = ap (λ (b : Bool). b || any_waits k ys) e
active_set k (suc p) (y ∷ ys) x e = ap (λ (b : Bool). is_active k y || b) (active_set k p ys x e)

-- ---- WHAT IS LEFT OF THE SLOT
pub left_away : (l : List Place) (p : ℕ) (x : Place) (s : Option ℕ) → is_at p s ≡ false → slot_left (set l p x) s ≡ slot_left l s
left_away l p x none e = refl
left_away l p x (some q) e = ap (λ (y : Place). left_of y.stand) (get_or-set_other l p q x free_place (λ f. true≢false (sym (eqb_yes p q (sym f)) ∙ e)))

pub left_same : (l : List Place) (p : ℕ) (x : Place) (s : Option ℕ) → p < length l → left_of x.stand ≡ left_of (pl l p).stand
    → slot_left (set l p x) s ≡ slot_left l s
left_same l p x none h e = refl
left_same l p x (some q) h e = go (ℕ_discrete q p)
  where
    go : Dec (q ≡ p) → left_of (pl (set l p x) q).stand ≡ left_of (pl l q).stand
    go (yes f) = rw (f, get_or-set_same l p x free_place h) e
    go (no f) = ap (λ (y : Place). left_of y.stand) (get_or-set_other l p q x free_place f)
