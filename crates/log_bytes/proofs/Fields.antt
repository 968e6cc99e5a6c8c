-- Laws of one field as its bytes come: what is known of it by each test, that it stays known, and what it rests on.
-- Assumes nothing.
use mathlib.Core.Path.{◌≡◌, refl, ap, ap₂, ◌∙◌}
use mathlib.Core.Bool.{Bool, true, false, cond, not, ◌&&◌, ◌||◌}
use mathlib.Core.Logic.{◌⊎◌, inl, inr}
use mathlib.Core.List.{List}
use Prim.Native.Nat.{ℕ, zero, suc, ◌+◌, ◌-◌, ◌*◌, ◌^◌, ◌≤◌, ◌<◌}
use native.Mathlib.Omega.{arith}
use borrow.Author.Tests.{eqb-true, ne_eqb, leb-true, lt-ltb, le-ltb, ltb-true, ltb-false}
use lib.Dec.{ltb, eqb, lit≤}
use Rattle.std.proofs.lemmas.Grind.{common_steps}
use lib.ListN.{get_or}
use Rattle.base.proofs.Numbers.{split}
use Rattle.base.proofs.Tests.{and_left, and_right, and_both}
use Rattle.log_bytes.specs.declared.Stage.{Stage}
use Rattle.log_bytes.specs.declared.Event.{Event}
use Rattle.log_bytes.specs.declared.Event.TheVariants.{Largest, Open, Close, Rename, Arrive, Serve, Passed}
use Rattle.log_bytes.specs.declared.End.TheVariants.{Broken as broken, Long as long}
use Rattle.log_bytes.specs.declared.Next.{Next}
use Rattle.log_bytes.specs.declared.Next.TheVariants.{GoesOn, Ends, Unfinished}
use Rattle.log_bytes.specs.Format.{number_at, tag_in, length_in, length_of, right_length, event_of, event_in, right_tag, in_turn}
use Rattle.log_bytes.specs.Format.{is_read, is_broken, is_whole, is_past, next_in}
use Rattle.log_bytes.specs.Laws.{TagSeen, LengthSeen, CutUnknown, StaysKnown, KnownByLooks}

pub differ : {A : Type 0} → true ≡ false → A
differ e = cc

-- ---- the bytes that are read

pub read_is : (at came i : ℕ) → i < came → i < 2 ^ 48 - at → is_read at came i ≡ true
unfolding is_read
read_is at came i a b = and_both _ _ (lt-ltb i came a) (lt-ltb i (2 ^ 48 - at) b)

pub read_only : (at came i : ℕ) → is_read at came i ≡ true → (i < came) × (i < 2 ^ 48 - at)
unfolding is_read
read_only at came i h = (ltb-true i came (and_left _ _ h), ltb-true i (2 ^ 48 - at) (and_right (ltb i came) _ h))

pub unread_is : (at came i : ℕ) → (came ≤ i) ⊎ (2 ^ 48 - at ≤ i) → is_read at came i ≡ false
unread_is at came i h = let r = read_only at came i in grind arith

-- if one is not read, no later one is
pub unread_on : (at came i j : ℕ) → i ≤ j → is_read at came i ≡ false → is_read at came j ≡ false
unread_on at came i j l h =
    let r = read_only at came j in
    let q = read_is at came i in
    grind arith

-- what more bytes change: nothing that was read, and nothing where the log is long
pub read_more : (at came more i : ℕ) → came ≤ more → is_read at came i ≡ true → is_read at more i ≡ true
read_more at came more i l h = let r = read_only at came i h in read_is at more i (omega (arith, r.0)) r.1

pub past_only : (at came : ℕ) → is_past at came ≡ true → 2 ^ 48 - at < came
unfolding is_past
past_only at came h = ltb-true (2 ^ 48 - at) came h

past_is : (at came : ℕ) → 2 ^ 48 - at < came → is_past at came ≡ true
unfolding is_past
past_is at came h = lt-ltb (2 ^ 48 - at) came h

pub not_past : (at came : ℕ) → is_past at came ≡ false → came ≤ 2 ^ 48 - at
unfolding is_past
not_past at came h = ltb-false (2 ^ 48 - at) came h

past_not : (at came : ℕ) → came ≤ 2 ^ 48 - at → is_past at came ≡ false
unfolding is_past
past_not at came h = le-ltb (2 ^ 48 - at) came h

unread_past : (at came more i : ℕ) → is_past at came ≡ true → is_read at came i ≡ false → is_read at more i ≡ false
unread_past at came more i p h =
    let r = read_only at more i in
    let q = read_is at came i in
    let l = past_only at came p in
    grind arith

-- ---- what is known, by the tests that lead to it

-- a field of which nothing more is known
abbrev not_known : (at came : ℕ) → Next
not_known at came = cond (is_past at came) (Ends long) (Unfinished came)

-- the tests in the order in which its bytes come
abbrev pub steps : (at came : ℕ) (e : Event) (n : ℕ) (a t b r c u : Bool) → Next
steps at came e n a t b r c u =
    let breaks = Ends (broken at) in
    cond a (cond t (cond b (cond r (cond c (cond u (GoesOn e (3 + n)) breaks) (not_known at came)) breaks) (not_known at came)) breaks) (not_known at came)

-- a byte that is read has those before it read, so all is asked in that order
pub next_steps : (at : ℕ) (bytes : List ℕ) (came : ℕ) (stage : Stage) → next_in at bytes came stage
    ≡ steps at came (event_in bytes) (length_in bytes) (is_read at came 0) (right_tag (tag_in bytes) stage) (is_read at came 2)
    (right_length (tag_in bytes) (length_in bytes)) (is_read at came (2 + length_in bytes)) (in_turn (event_in bytes) stage)
unfolding next_in is_broken is_whole
next_steps at bytes came stage =
    go _ _ _ (is_read at came 0) (right_tag (tag_in bytes) stage) (is_read at came 2) (right_length (tag_in bytes) (length_in bytes))
    (is_read at came (2 + length_in bytes)) (in_turn (event_in bytes) stage) (unread_on at came 0 2 (omega arith))
    (unread_on at came 2 (2 + length_in bytes) (omega arith))
  where
    go : (x y z : Next) (a t b r c u : Bool) → (a ≡ false → b ≡ false) → (b ≡ false → c ≡ false)
        → cond ((a && not t) || ((b && not r) || (c && not u))) x (cond c y z) ≡ cond a (cond t (cond b (cond r (cond c (cond u y x) z) x) z) x) z
    go x y z false t b r c u p q = rw (p refl, q (p refl))
    go x y z true false b r c u p q = refl
    go x y z true true false r c u p q = rw (q refl)
    go x y z true true true false c u p q = refl
    go x y z true true true true false u p q = refl
    go x y z true true true true true false p q = refl
    go x y z true true true true true true p q = refl

-- ---- the length

passed_length : (tag : ℕ) → 128 ≤ tag → length_of tag ≡ 0
unfolding length_of
passed_length tag l =
    rw (
      ne_eqb tag 6 (λ e. omega arith),
      ne_eqb tag 1 (λ e. omega arith),
      ne_eqb tag 2 (λ e. omega arith),
      ne_eqb tag 3 (λ e. omega arith),
      ne_eqb tag 4 (λ e. omega arith),
    )

-- no value that is not passed over has more than ten bytes
pub length_most : (tag : ℕ) → length_of tag ≤ 10
unfolding length_of
length_most tag = go (eqb tag 6) (eqb tag 1) (eqb tag 2) (eqb tag 3) (eqb tag 4)
  where
    go : (a b c d e : Bool) → cond a 2 (cond b 8 (cond c 4 (cond d 8 (cond e 10 0)))) ≤ 10
    go true b c d e = lit≤ tt
    go false true c d e = lit≤ tt
    go false false true d e = lit≤ tt
    go false false false true e = lit≤ tt
    go false false false false true = lit≤ tt
    go false false false false false = lit≤ tt

-- a value of the right length has room for what its tag says, and unless it is passed over no more
pub right_room : (tag n : ℕ) → right_length tag n ≡ true → (length_of tag ≤ n) × ((128 ≤ tag) ⊎ (n ≡ length_of tag))
unfolding right_length
right_room tag n h =
    let passed = leb-true 128 tag in
    let none = passed_length tag in
    let same = eqb-true n (length_of tag) in
    (grind arith, grind arith)

-- so what the tag says is there to be read
pub event_fits : (tag n came room : ℕ) → (length_of tag ≤ n) × ((128 ≤ tag) ⊎ (n ≡ length_of tag)) → 2 + n < came → (came ≤ room) ⊎ (13 ≤ room)
    → 3 + length_of tag ≤ room
event_fits tag n came room r l (inl h) = omega (arith, r.0, l, h)
event_fits tag n came room r l (inr h) = omega (arith, length_most tag, h)

-- ---- as bytes come

pub tag_seen : TagSeen
tag_seen at bytes stage l t = rw (next_steps at bytes 1 stage, read_is at 1 0 (omega arith) (omega (arith, l)), t)

pub length_seen : LengthSeen
length_seen at bytes stage l r =
    let e = next_steps at bytes 3 stage in
    let first = read_is at 3 0 (omega arith) (omega (arith, l)) in
    let third = read_is at 3 2 (omega arith) (omega (arith, l)) in
    grind (arith, common_steps)

pub cut_unknown : CutUnknown
cut_unknown at bytes came stage l tag len =
    let e = next_steps at bytes came stage in
    let low = past_not at came (omega (arith, l)) in
    let first = read_only at came 0 in
    let third = read_only at came 2 in
    let last = read_only at came (2 + length_in bytes) in
    grind (arith, common_steps)

pub stays_known : StaysKnown
stays_known at bytes came more stage l known =
    let e = next_steps at bytes came stage in
    let f = next_steps at bytes more stage in
    let first = read_more at came more 0 l in
    let third = read_more at came more 2 l in
    let last = read_more at came more (2 + length_in bytes) l in
    let past : is_past at came ≡ true → is_past at more ≡ true = λ p. past_is at more (omega (arith, past_only at came p, l)) in
    let no_first = unread_past at came more 0 in
    let no_third = unread_past at came more 2 in
    let no_last = unread_past at came more (2 + length_in bytes) in
    grind (arith, common_steps)

-- ---- what is looked at

-- a number is that of its bytes
pub number_looks : (a b : List ℕ) (i n : ℕ) → ((j : ℕ) → j < i + n → i ≤ j → get_or a j 0 ≡ get_or b j 0) → number_at a i n ≡ number_at b i n
unfolding number_at
number_looks a b i zero h = refl
number_looks a b i (suc n) h =
    ap₂ (λ (x y : ℕ). x * 256 + y) (number_looks a b i n (λ j l m. h j (omega (arith, l)) m)) (h (i + n) (omega arith) (omega arith))

-- and so is what a tag says of its value
event_looks : (a b : List ℕ) (tag : ℕ) → ((j : ℕ) → j < 3 + length_of tag → 3 ≤ j → get_or a j 0 ≡ get_or b j 0) → event_of a tag 3 ≡ event_of b tag 3
unfolding event_of length_of
event_looks a b tag h = go (eqb tag 6) (eqb tag 1) (eqb tag 2) (eqb tag 3) (eqb tag 4) h
  where
    num : (i n : ℕ) → 3 ≤ i → ((j : ℕ) → j < i + n → 3 ≤ j → get_or a j 0 ≡ get_or b j 0) → number_at a i n ≡ number_at b i n
    num i n l k = number_looks a b i n (λ j u v. k j u (omega (arith, v, l)))

    go : (s o c r q : Bool) → ((j : ℕ) → j < 3 + cond s 2 (cond o 8 (cond c 4 (cond r 8 (cond q 10 0)))) → 3 ≤ j → get_or a j 0 ≡ get_or b j 0)
        → cond s (Largest (number_at a 3 2))
        (cond o (Open (record { number = number_at a 3 4; share = number_at a 7 4 }))
        (cond c (Close (number_at a 3 4))
        (cond r (Rename (number_at a 3 4) (number_at a 7 4))
        (cond q (Arrive (number_at a 3 4) (number_at a 7 4) (number_at a 11 2))
        (cond (eqb tag 5) Serve Passed)))))
        ≡ cond s (Largest (number_at b 3 2))
        (cond o (Open (record { number = number_at b 3 4; share = number_at b 7 4 }))
        (cond c (Close (number_at b 3 4))
        (cond r (Rename (number_at b 3 4) (number_at b 7 4))
        (cond q (Arrive (number_at b 3 4) (number_at b 7 4) (number_at b 11 2))
        (cond (eqb tag 5) Serve Passed)))))
    go true o c r q k = ap Largest (num 3 2 (omega arith) k)
    go false true c r q k =
        ap₂ (λ (x y : ℕ). Open (record { number = x; share = y })) (num 3 4 (omega arith) (λ j u v. k j (omega (arith, u)) v)) (num 7 4 (omega arith) k)
    go false false true r q k = ap Close (num 3 4 (omega arith) k)
    go false false false true q k =
        ap₂ (λ (x y : ℕ). Rename x y) (num 3 4 (omega arith) (λ j u v. k j (omega (arith, u)) v)) (num 7 4 (omega arith) k)
    go false false false false true k =
        ap₂ (λ (x y : ℕ). Arrive x y (number_at a 11 2)) (num 3 4 (omega arith) (λ j u v. k j (omega (arith, u)) v))
        (num 7 4 (omega arith) (λ j u v. k j (omega (arith, u)) v))
        ∙ ap (λ (z : ℕ). Arrive (number_at b 3 4) (number_at b 7 4) z) (num 11 2 (omega arith) k)
    go false false false false false k = refl

-- so what is known of a field is known by what is looked at
pub known_by_looks : KnownByLooks
known_by_looks at a b came stage looks =
    let e = next_steps at a came stage in
    let f = next_steps at b came stage in
    let t = tagged in
    let z = sized in
    let s = said in
    grind (arith, common_steps)
  where
    n : ℕ
    n = length_in a

    tagged : is_read at came 0 ≡ true → tag_in a ≡ tag_in b
    tagged h = looks 0 (read_only at came 0 h).0 (inl (omega arith))

    sized : is_read at came 2 ≡ true → n ≡ length_in b
    sized h = let r = (read_only at came 2 h).0 in number_looks a b 1 2 (λ j l m. looks j (omega (arith, r, l)) (inl (omega (arith, l))))

    value : right_length (tag_in a) n ≡ true → is_read at came (2 + n) ≡ true → (j : ℕ) → j < 3 + length_of (tag_in a) → 3 ≤ j → get_or a j 0 ≡ get_or b j 0
    value r c j l m = within (split 128 (tag_in a))
      where
        within : (128 ≤ tag_in a) ⊎ (tag_in a < 128) → get_or a j 0 ≡ get_or b j 0
        within (inl h) = absurd (omega (arith, passed_length (tag_in a) h, l, m))
        within (inr h) = looks j (omega (arith, l, (right_room (tag_in a) n r).0, (read_only at came (2 + n) c).0)) (inr h)

    said : tag_in a ≡ tag_in b → right_length (tag_in a) n ≡ true → is_read at came (2 + n) ≡ true → event_in a ≡ event_in b
    said t r c = event_looks a b (tag_in a) (value r c) ∙ ap (λ (x : ℕ). event_of b x 3) t
