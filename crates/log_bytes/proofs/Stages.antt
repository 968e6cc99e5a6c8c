-- Laws of the stages of a log: what may come before L, what after it, and that L has been read after every whole field.
-- Assumes nothing.
use mathlib.Core.Path.{◌≡◌, refl, sym, ap, subst, ◌∙◌}
use mathlib.Core.Bool.{true, false, not, ◌&&◌, ◌||◌}
use mathlib.Core.Logic.{◌⊎◌, inl, inr, ⊎_elim}
use mathlib.Core.List.{List}
use Prim.Native.Nat.{ℕ, ◌≤◌}
use native.Mathlib.Omega.{arith}
use borrow.Author.Tests.{leb-true, le-leb, ne_eqb}
use lib.Dec.{leb, eqb}
use Rattle.base.proofs.Tests.{and_left, and_right}
use Rattle.log_bytes.specs.declared.Stage.{Stage}
use Rattle.log_bytes.specs.declared.Stage.TheVariants.{BeforeL}
use Rattle.log_bytes.specs.declared.Event.{Event}
use Rattle.log_bytes.specs.declared.Event.TheVariants.{Largest, Open, Close, Rename, Arrive, Serve, Passed}
use Rattle.log_bytes.specs.Format.{last_tag, is_l, past_l, stage_after, right_tag, in_turn}
use Rattle.log_bytes.specs.Spelling.{Says}
use Rattle.log_bytes.specs.Laws.{PastAfter}
use Rattle.log_bytes.proofs.Fields.{differ}

-- An event is L, or it is in turn once L has been read. The laws here go by this, so that an event more is one line.
abbrev pub LOrLater : Event → Type 0
LOrLater e = ((l : ℕ) × (e ≡ Largest l)) ⊎ ((is_l e ≡ false) × ((stage : Stage) → past_l stage ≡ in_turn e stage))

l_or_later : (e : Event) → LOrLater e
unfolding in_turn
l_or_later (Largest l) = inl (l, refl)
l_or_later (Open o) = inr (refl, λ stage. refl)
l_or_later (Close a) = inr (refl, λ stage. refl)
l_or_later (Rename a b) = inr (refl, λ stage. refl)
l_or_later (Arrive a b n) = inr (refl, λ stage. refl)
l_or_later Serve = inr (refl, λ stage. refl)
l_or_later Passed = inr (refl, λ stage. refl)

pub no_l : (e : Event) → ((l : ℕ) → e ≡ Largest l → ⊥) → is_l e ≡ false
no_l e k = ⊎_elim (λ w. absurd (k w.0 w.1)) (λ w. w.0) (l_or_later e)

-- what is asked of L
turn_l : (l : ℕ) (e : Event) (stage : Stage) → e ≡ Largest l → in_turn e stage ≡ true
    → (not (past_l stage) ≡ true) × ((64 ≤ l) × (l ≤ 2048))
unfolding in_turn
turn_l l e stage q h =
    let t : not (past_l stage) && (leb 64 l && leb l 2048) ≡ true = subst (λ (x : Event). in_turn x stage ≡ true) q h in
    let r = and_right (not (past_l stage)) _ t in
    let least = leb-true 64 l (and_left _ (leb l 2048) r) in
    (and_left _ (leb 64 l && leb l 2048) t, (least, leb-true l 2048 (and_right (leb 64 l) _ r)))

-- L is not in turn once it has been read
pub turn_later : (e : Event) (stage : Stage) → past_l stage ≡ true → in_turn e stage ≡ true → is_l e ≡ false
turn_later e stage p h =
    ⊎_elim (λ w. differ (sym (turn_l w.0 e stage w.1 h).0 ∙ ap not p)) (λ w. w.0) (l_or_later e)

-- and before it nothing else is
pub turn_first : (e : Event) → in_turn e BeforeL ≡ true → (l : ℕ) × ((e ≡ Largest l) × ((64 ≤ l) × (l ≤ 2048)))
turn_first e h =
    ⊎_elim (λ w. (w.0, (w.1, (turn_l w.0 e BeforeL w.1 h).1)))
    (λ w. differ (sym (w.1 BeforeL ∙ h))) (l_or_later e)

pub past_after : PastAfter
unfolding stage_after
past_after e stage h = ⊎_elim (λ w. rw w.1) (λ w. rw w.0 (w.1 stage ∙ h)) (l_or_later e)

-- ---- the tag that an event in its turn is spelt with

-- it is one of the log's, and is 6 where the event is L
said_tag : (e : Event) (tag : ℕ) (value : List ℕ) → Says e tag value → (leb 128 tag || (leb 1 tag && leb tag last_tag) ≡ true) × (eqb tag 6 ≡ is_l e)
said_tag (Largest l) tag value h = rw h.0 (refl, refl)
said_tag (Open o) tag value h = rw h.0 (refl, refl)
said_tag (Close a) tag value h = rw h.0 (refl, refl)
said_tag (Rename a b) tag value h = rw h.0 (refl, refl)
said_tag (Arrive a b n) tag value h = rw h.0 (refl, refl)
said_tag Serve tag value h = rw h.0 (refl, refl)
said_tag Passed tag value h = rw (le-leb 128 tag h.0.0, ne_eqb tag 6 (λ e. omega (arith, h.0.0))) (refl, refl)

-- so it may stand there
pub tag_turn : (e : Event) (tag : ℕ) (value : List ℕ) (stage : Stage) → Says e tag value → in_turn e stage ≡ true → right_tag tag stage ≡ true
unfolding right_tag
tag_turn e tag value stage h t =
    let s = said_tag e tag value h in
    ⊎_elim (λ w. rw (s.0, s.1, ap is_l w.1) (turn_l w.0 e stage w.1 t).0)
    (λ w. rw (s.0, s.1, w.0, w.1 stage, t)) (l_or_later e)
