-- Laws of what is kept of a field: its bytes one by one, and how many they are. Assumes nothing.
use mathlib.Core.Path.{◌≡◌, refl, sym, ap, ◌∙◌}
use mathlib.Core.Bool.{true}
use mathlib.Core.Logic.{◌⊎◌, inl, inr}
use mathlib.Core.List.{List, ◌++◌}
use Prim.Native.Nat.{ℕ, ◌+◌, ◌-◌, ◌^◌, ◌≤◌, ◌<◌}
use native.Mathlib.Omega.{arith}
use borrow.Author.Tests.{le-leb, leb-true}
use lib.Dec.{leb}
use Rattle.std.proofs.lemmas.Bool.Decides.{nat_tests}
use lib.ListN.{length, drop, get_or, set, replicate, length-append, length-replicate, length-set}
use lib.Seq.{length-take-le, get_or-take, take-append_seam, drop-append_seam, drop-append-le, drop-append-add, get_or-append-add}
use lib.Seq.{get_or-set_same, get_or-set_other}
use Rattle.base.proofs.Numbers.{split}
use Rattle.base.proofs.Tests.{and_left, and_right, and_both}
use Rattle.log_bytes.specs.declared.Stage.{Stage}
use Rattle.log_bytes.specs.declared.Next.{Next}
use Rattle.log_bytes.specs.declared.Next.TheVariants.{GoesOn, Ends, Unfinished}
use Rattle.log_bytes.specs.Format.{tag_in, length_in, next_in}
use Rattle.log_bytes.specs.Laws.{LooksAt}
use Rattle.log_bytes.proofs.Fields.{differ, read_is, length_most, right_room}
use Rattle.log_bytes.proofs.Wholes.{part_is, sound}
use Rattle.fragments.specs.Kept.{kept_bytes, kept_of, wanted_of, not_finished, is_fit, Behind}
use Rattle.fragments.specs.Reading.{joined}

-- ---- lists one behind the other

pub front : (xs ys : List ℕ) (i : ℕ) → i < length xs → get_or (xs ++ ys) i 0 ≡ get_or xs i 0
front xs ys i l = sym (get_or-take (length xs) (xs ++ ys) i 0 l) ∙ ap (λ (z : List ℕ). get_or z i 0) (take-append_seam xs ys)

back : (xs ys : List ℕ) (n i : ℕ) → length xs ≡ n → n ≤ i → get_or (xs ++ ys) i 0 ≡ get_or ys (i - n) 0
back xs ys n i q l =
    let e : i ≡ length xs + (i - n) = omega (arith, q, l) in
    ap (λ (k : ℕ). get_or (xs ++ ys) k 0) e ∙ get_or-append-add xs ys (i - n) 0

-- ---- the bytes that have come

pub kept_length : (kept : List ℕ) (came : ℕ) → length (kept_bytes kept came) ≡ came
unfolding kept_bytes
kept_length kept came =
    length-take-le came (kept ++ replicate came 0) (omega (arith, length-append kept (replicate came 0), length-replicate {A = ℕ} came 0))

kept_at : (kept : List ℕ) (came i : ℕ) → i < came → i < length kept → get_or (kept_bytes kept came) i 0 ≡ get_or kept i 0
unfolding kept_bytes
kept_at kept came i l m = get_or-take came (kept ++ replicate came 0) i 0 l ∙ front kept (replicate came 0) i m

pub kept_none : (kept : List ℕ) (bytes : List ℕ) → kept_bytes kept 0 ++ bytes ≡ bytes
unfolding kept_bytes
kept_none kept bytes = refl

-- behind so many bytes stands what is left of the part, and what comes later
pub rest_joined : (kept : List ℕ) (came : ℕ) (part later : List ℕ) (now : ℕ) → came ≤ now → now ≤ came + length part
    → drop now (joined kept came part later) ≡ drop (now - came) part ++ later
rest_joined kept came part later now l fits =
    let e : now ≡ length (kept_bytes kept came) + (now - came) = omega (arith, l, kept_length kept came) in
    ap (λ (k : ℕ). drop k (joined kept came part later)) e
    ∙ drop-append-add (kept_bytes kept came) (part ++ later) (now - came)
    ∙ drop-append-le (now - came) part later (omega (arith, fits, l))

-- ---- how many are kept

pub kept_of_most : (tag came : ℕ) → kept_of tag came ≤ came
unfolding kept_of
kept_of_most tag came = grind (arith, nat_tests)

pub kept_of_small : (tag came : ℕ) → (tag < 128 → came ≤ 13) → (kept_of tag came ≤ 13) × (kept_of tag came ≤ came)
unfolding kept_of
kept_of_small tag came h = (grind (arith, nat_tests), grind (arith, nat_tests))

-- all that is looked at is kept
pub kept_of_in : (tag came i : ℕ) → i < came → (i < 3) ⊎ (tag < 128) → i < kept_of tag came
unfolding kept_of
kept_of_in tag came i l h = grind (arith, nat_tests)

-- ---- a field that is not finished

-- unless it is passed over, fewer than thirteen of its bytes have come, and no more than thirteen are wanted
pub part_small : (at : ℕ) (bytes : List ℕ) (came : ℕ) (stage : Stage) → next_in at bytes came stage ≡ Unfinished came → tag_in bytes < 128
    → (came < 3) ⊎ (length_in bytes ≤ 10)
part_small at bytes came stage h t = go (split 3 came)
  where
    go : (3 ≤ came) ⊎ (came < 3) → (came < 3) ⊎ (length_in bytes ≤ 10)
    go (inr l) = inl l
    go (inl l) =
        let p = part_is at bytes came stage came h in
        let right = (sound at bytes came stage p.sane).sized (read_is at came 2 (omega (arith, l)) (omega (arith, l, p.low))) in
        let room = right_room (tag_in bytes) (length_in bytes) right in
        let most = length_most (tag_in bytes) in
        inr (grind arith)

pub part_most : (at : ℕ) (bytes : List ℕ) (came : ℕ) (stage : Stage) → next_in at bytes came stage ≡ Unfinished came → tag_in bytes < 128 → came ≤ 13
part_most at bytes came stage h t =
    let small = part_small at bytes came stage h t in
    let p = part_is at bytes came stage came h in
    grind arith

-- it wants at least one
pub wants_some : (at : ℕ) (kept : List ℕ) (came : ℕ) (stage : Stage) → next_in at kept came stage ≡ Unfinished came → 0 < wanted_of kept came
unfolding wanted_of
wants_some at kept came stage h =
    let p = part_is at kept came stage came h in
    grind (arith, nat_tests)

-- and with what it wants no more than thirteen are kept
pub wants_few : (at : ℕ) (kept : List ℕ) (came : ℕ) (stage : Stage) → next_in at kept came stage ≡ Unfinished came → tag_in kept < 128
    → came + wanted_of kept came ≤ 13
unfolding wanted_of
wants_few at kept came stage h t =
    let p = part_is at kept came stage came h in
    let small = part_small at kept came stage h t in
    grind (arith, nat_tests)

-- ---- what can be kept

pub fit_only : (at : ℕ) (kept : List ℕ) (came : ℕ) (stage : Stage) → is_fit at kept came stage ≡ true
    → (next_in at kept came stage ≡ Unfinished came) × (at ≤ 2 ^ 48)
unfolding is_fit
fit_only at kept came stage h =
    (go (next_in at kept came stage) refl (and_left _ (leb at (2 ^ 48)) h), leb-true at (2 ^ 48) (and_right (not_finished (next_in at kept came stage)) _ h))
  where
    go : (x : Next) → next_in at kept came stage ≡ x → not_finished x ≡ true → x ≡ Unfinished came
    go (GoesOn e size) q t = differ (sym t)
    go (Ends e) q t = differ (sym t)
    go (Unfinished n) q t = ap Unfinished (part_is at kept came stage n q).same

pub fit_is : (at : ℕ) (kept : List ℕ) (came : ℕ) (stage : Stage) → next_in at kept came stage ≡ Unfinished came → at ≤ 2 ^ 48
    → is_fit at kept came stage ≡ true
unfolding is_fit
fit_is at kept came stage q l = and_both _ _ (ap not_finished q) (le-leb at (2 ^ 48) l)

-- ---- what is looked at of the log from the field's first byte on

module _ (kept : List ℕ) (came : ℕ) (part : List ℕ) (now tag : ℕ) (after : List ℕ) (room : length kept ≡ 13) (few : tag < 128 → now ≤ 13)
    (fits : now ≤ came + length part) (tagged : tag_in after ≡ tag) (b : Behind kept came part (kept_of tag now) after) where
  pub looks_on : (later : List ℕ) → LooksAt now after (joined kept came part later)
  looks_on later i l h = go (split came i)
    where
      look : (i < 3) ⊎ (tag_in after < 128) → (i < 3) ⊎ (tag < 128)
      look (inl k) = inl k
      look (inr k) = inr (omega (arith, k, tagged))

      within : i < kept_of tag now
      within = kept_of_in tag now i l (look h)

      go : (came ≤ i) ⊎ (i < came) → get_or after i 0 ≡ get_or (joined kept came part later) i 0
      go (inl k) =
          b.behind i k within
          ∙ sym (front part later (i - came) (omega (arith, k, l, fits)))
          ∙ sym (back (kept_bytes kept came) (part ++ later) came i (kept_length kept came) k)
      go (inr k) =
          b.before i k
          ∙ sym (kept_at kept came i k (omega (arith, within, (kept_of_small tag now few).0, room)))
          ∙ sym (front (kept_bytes kept came) (part ++ later) i (omega (arith, k, kept_length kept came)))

-- the same of what is kept itself
pub looks_kept : (kept : List ℕ) (came : ℕ) (bytes : List ℕ) → length kept ≡ 13 → (tag_in kept < 128 → came ≤ 13)
    → LooksAt came kept (kept_bytes kept came ++ bytes)
looks_kept kept came bytes room few i l h =
    sym (kept_at kept came i l (omega (arith, small h, room))) ∙ sym (front (kept_bytes kept came) bytes i (omega (arith, l, kept_length kept came)))
  where
    small : (i < 3) ⊎ (tag_in kept < 128) → i < 13
    small (inl k) = omega (arith, k)
    small (inr k) = omega (arith, few k, l)

pub rest_kept : (kept : List ℕ) (came : ℕ) (bytes : List ℕ) → drop came (kept_bytes kept came ++ bytes) ≡ bytes
rest_kept kept came bytes =
    ap (λ (k : ℕ). drop k (kept_bytes kept came ++ bytes)) (sym (kept_length kept came)) ∙ drop-append_seam (kept_bytes kept came) bytes

-- ---- what is put behind it, byte by byte

pub behind_none : (kept : List ℕ) (came : ℕ) (part : List ℕ) → Behind kept came part came kept
behind_none kept came part = record { same = refl; before = λ i l. refl; behind = λ i l m. absurd (omega (arith, l, m)) }

pub behind_more : (kept : List ℕ) (came : ℕ) (part : List ℕ) (n : ℕ) (after : List ℕ) → came ≤ n → n < length after → Behind kept came part n after
    → Behind kept came part (n + 1) (set after n (get_or part (n - came) 0))
behind_more kept came part n after l m b = record {
  same = length-set after n _ ∙ b.same;
  before = λ i k. get_or-set_other after n i _ 0 (λ q. omega (arith, q, k, l)) ∙ b.before i k;
  behind = λ i k h. go i k h (split n i);
}
  where
    go : (i : ℕ) → came ≤ i → i < n + 1 → (n ≤ i) ⊎ (i < n) → get_or (set after n (get_or part (n - came) 0)) i 0 ≡ get_or part (i - came) 0
    go i k h (inl p) =
        let q : i ≡ n = omega (arith, h, p) in
        rw q (get_or-set_same after n (get_or part (n - came) 0) 0 m)
    go i k h (inr p) = get_or-set_other after n i _ 0 (λ q. omega (arith, q, p)) ∙ b.behind i k p

pub behind_all : (kept : List ℕ) (came : ℕ) (part : List ℕ) (count n : ℕ) (after : List ℕ) → count ≤ n → Behind kept came part n after
    → Behind kept came part count after
behind_all kept came part count n after l b =
    record { same = b.same; before = b.before; behind = λ i k h. b.behind i k (omega (arith, l, h)) }
