-- A listing can be read back: a decimal text is the one plain text of its number, and a line tells its numbers. Assumes nothing.
use mathlib.Core.Path.{◌≡◌, refl, sym, ap, ap₂, ◌∙◌}
use mathlib.Core.Logic.{inl, inr}
use mathlib.Core.Bool.{Bool, true, false, cond, ◌&&◌}
use mathlib.Core.List.{List, [], ◌∷◌, ◌++◌, append_assoc, append-nil}
use Prim.Native.Nat.{ℕ, zero, suc, ◌+◌, ◌-◌, ◌*◌, ◌/◌, ◌%◌, ◌≤◌, ◌<◌}
use native.Mathlib.Omega.{arith}
use borrow.Author.Tests.{ne_eqb, ltb-true, ltb-false}
use lib.Dec.{ltb, eqb, lit<}
use lib.ListN.{length, length-append, get_or}
use Rattle.lines.specs.Text.{decimal, Digits, Plain, number_on, number_of, columns, line_of}
use Rattle.lines.specs.Laws.{DecimalDigits, DecimalPlain, DecimalValue, DecimalInj, PlainDecimal, LineTells, ListingTells}
use Rattle.lines.specs.Laws.{Kind, opened, closed, renamed, taken, sent, refused, ended, broken, long, word_of, Shown, text_of}
use Rattle.lines.proofs.Texts.{decimal_one, decimal_more, line_length}

-- ---- what a decimal text is like

-- a fact of every number follows from the numbers of one digit, and from the number without its last digit
by_digits : (P : ℕ → Type 0) → ((n : ℕ) → n < 10 → P n) → ((n : ℕ) → 10 ≤ n → P (n / 10) → P n) → (f n : ℕ) → n < f → P n
by_digits P one more zero n h = absurd (omega arith)
by_digits P one more (suc f) n h = go (ltb n 10) refl (λ m. by_digits P one more f (n / 10) (omega arith))
  where
    go : (t : Bool) → ltb n 10 ≡ t → (10 ≤ n → P (n / 10)) → P n
    go true e rest = one n (ltb-true n 10 e)
    go false e rest = more n (ltb-false n 10 e) (rest (ltb-false n 10 e))

digits_then : (xs : List ℕ) (d : ℕ) → Digits xs → (48 ≤ d) × (d < 58) → Digits (xs ++ (d ∷ []))
digits_then [] d h k = (k, tt)
digits_then (x ∷ xs) d h k = (h.0, digits_then xs d h.1 k)

pub decimal_digits : DecimalDigits
decimal_digits n = by_digits (λ m. Digits (decimal m)) (λ m h. rw (decimal_one m h) ((omega arith, omega arith), tt))
    (λ m h r. rw (decimal_more m h) (digits_then (decimal (m / 10)) (48 + m % 10) r (omega arith, omega arith))) (suc n) n (omega arith)

plain_then : (xs : List ℕ) (d : ℕ) → Plain xs → (xs ≡ 48 ∷ [] → ⊥) → Plain (xs ++ (d ∷ []))
plain_then [] d p z = absurd p
plain_then (x ∷ xs) d (inl h) z = inl h
plain_then (x ∷ xs) d (inr h) z = absurd (z (ap₂ (λ (y : ℕ) (ys : List ℕ). y ∷ ys) h.0 h.1))

-- ---- the number that a text spells

value_then : (xs : List ℕ) (a d : ℕ) → number_on a (xs ++ (d ∷ [])) ≡ number_on a xs * 10 + (d - 48)
unfolding number_on
value_then [] a d = refl
value_then (x ∷ xs) a d = value_then xs (a * 10 + (x - 48)) d

pub decimal_value : DecimalValue
unfolding number_on
decimal_value n = by_digits (λ m. number_of (decimal m) ≡ m) (λ m h. rw (decimal_one m h) (omega arith))
    (λ m h r. rw (decimal_more m h, value_then (decimal (m / 10)) 0 (48 + m % 10), r) (omega arith)) (suc n) n (omega arith)

pub decimal_inj : DecimalInj
decimal_inj n m e = sym (decimal_value n) ∙ ap number_of e ∙ decimal_value m

zero_value : (n : ℕ) → decimal n ≡ 48 ∷ [] → n ≡ 0
unfolding number_on
zero_value n e = sym (decimal_value n) ∙ ap number_of e

pub decimal_plain : DecimalPlain
decimal_plain n =
    by_digits (λ m. Plain (decimal m)) one
    (λ m h r. rw (decimal_more m h) (plain_then (decimal (m / 10)) (48 + m % 10) r (λ e. omega (arith, zero_value (m / 10) e)))) (suc n) n (omega arith)
  where
    first : (m : ℕ) → m < 10 → Plain ((48 + m % 10) ∷ [])
    first zero h = inr (refl, refl)
    first (suc m) h = inl (omega arith)

    one : (m : ℕ) → m < 10 → Plain (decimal m)
    one m h = rw (decimal_one m h) (first m h)

-- ---- no other plain text of digits spells it

decimal_on : (ds : List ℕ) (a : ℕ) → 0 < a → Digits ds → decimal (number_on a ds) ≡ decimal a ++ ds
unfolding number_on
decimal_on [] a p h = sym (append-nil (decimal a))
decimal_on (d ∷ ds) a p h =
    let q : (a * 10 + (d - 48)) / 10 ≡ a = omega (arith, h.0) in
    let r : 48 + (a * 10 + (d - 48)) % 10 ≡ d = omega (arith, h.0) in
    decimal_on ds (a * 10 + (d - 48)) (omega arith) h.1
    ∙ ap (λ (l : List ℕ). l ++ ds) (decimal_more (a * 10 + (d - 48)) (omega arith) ∙ ap₂ (λ (x y : ℕ). decimal x ++ (y ∷ [])) q r)
    ∙ append_assoc (decimal a) (d ∷ []) ds

pub plain_decimal : PlainDecimal
unfolding number_on
plain_decimal [] h p = absurd p
plain_decimal (d ∷ ds) h (inl l) =
    decimal_on ds (0 * 10 + (d - 48)) (omega arith) h.1
    ∙ ap (λ (x : List ℕ). x ++ ds) (decimal_one (0 * 10 + (d - 48)) (omega (arith, h.0)) ∙ ap (λ (x : ℕ). x ∷ []) (omega (arith, h.0)))
plain_decimal (d ∷ ds) h (inr z) = rw (z.0, z.1) (decimal_one 0 (lit< tt))

-- ---- a line tells its numbers, and where the next line begins

-- a text that a digit does not begin
abbrev pub NoDigitFirst : List ℕ → Type 0
NoDigitFirst [] = ⊥
NoDigitFirst (x ∷ xs) = x < 48

pub digits_end : (a b x y : List ℕ) → Digits a → Digits b → NoDigitFirst x → NoDigitFirst y → a ++ x ≡ b ++ y → (a ≡ b) × (x ≡ y)
digits_end [] [] x y da db px py e = (refl, e)
digits_end [] (d ∷ b) [] y da db px py e = absurd px
digits_end [] (d ∷ b) (c ∷ x) y da db px py e = absurd (let z : c ≡ d = cc in omega (arith, db.0))
digits_end (d ∷ a) [] x [] da db px py e = absurd py
digits_end (d ∷ a) [] x (c ∷ y) da db px py e = absurd (let z : d ≡ c = cc in omega (arith, da.0))
digits_end (c ∷ a) (d ∷ b) x y da db px py e =
    let z : c ≡ d = cc in
    let t : a ++ x ≡ b ++ y = cc in
    let r = digits_end a b x y da.1 db.1 px py t in
    (ap₂ (λ (k : ℕ) (l : List ℕ). k ∷ l) z r.0, r.1)

columns_parted : (ns r : List ℕ) → NoDigitFirst (columns ns ++ (10 ∷ r))
unfolding columns
columns_parted [] r = lit< tt
columns_parted (n ∷ ns) r = lit< tt

columns_tell : (ns ms r q : List ℕ) → columns ns ++ (10 ∷ r) ≡ columns ms ++ (10 ∷ q) → (ns ≡ ms) × (r ≡ q)
unfolding columns
columns_tell [] [] r q e = (refl, cc)
columns_tell [] (m ∷ ms) r q e = absurd (let z : ◌≡◌ {A = ℕ} 10 32 = cc in omega arith)
columns_tell (n ∷ ns) [] r q e = absurd (let z : ◌≡◌ {A = ℕ} 32 10 = cc in omega arith)
columns_tell (n ∷ ns) (m ∷ ms) r q e =
    let t : (decimal n ++ columns ns) ++ (10 ∷ r) ≡ (decimal m ++ columns ms) ++ (10 ∷ q) = cc in
    let u : decimal n ++ (columns ns ++ (10 ∷ r)) ≡ decimal m ++ (columns ms ++ (10 ∷ q)) =
    sym (append_assoc (decimal n) (columns ns) (10 ∷ r)) ∙ t ∙ append_assoc (decimal m) (columns ms) (10 ∷ q) in
    let w =
    digits_end (decimal n) (decimal m) (columns ns ++ (10 ∷ r)) (columns ms ++ (10 ∷ q)) (decimal_digits n) (decimal_digits m) (columns_parted ns r)
    (columns_parted ms q) u in
    let v = columns_tell ns ms r q w.1 in
    (ap₂ (λ (k : ℕ) (l : List ℕ). k ∷ l) (decimal_inj n m w.0) v.0, v.1)

same_front : (w x y : List ℕ) → w ++ x ≡ w ++ y → x ≡ y
same_front [] x y e = e
same_front (c ∷ w) x y e = same_front w x y (cc)

-- of two listings that begin with lines of one kind, equal ones have the same numbers in that line, and the same lines after it
pub line_tells : LineTells
unfolding line_of
line_tells word ns ms r q e = columns_tell ns ms r q (same_front word (columns ns ++ (10 ∷ r)) (columns ms ++ (10 ∷ q)) (sym (parts ns r) ∙ e ∙ parts ms q))
  where
    parts : (ks t : List ℕ) → (word ++ (columns ks ++ (10 ∷ []))) ++ t ≡ word ++ (columns ks ++ (10 ∷ t))
    parts ks t = simp append_assoc

-- ---- and its kind

-- the kind of the line that a text begins with
abbrev kind_at : List ℕ → Kind
kind_at t =
    cond (eqb (get_or t 0 0) 99) closed
    (cond (eqb (get_or t 0 0) 110) renamed
    (cond (eqb (get_or t 0 0) 105) taken
    (cond (eqb (get_or t 0 0) 101) ended
    (cond (eqb (get_or t 0 0) 98) broken
    (cond (eqb (get_or t 0 0) 108) long
    (cond (eqb (get_or t 1 0) 112) opened
    (cond (eqb (get_or t 3 0) 32 && eqb (get_or t 4 0) 45) refused
    sent)))))))

-- a number does not begin as the code of a refused serve does
no_mark : (ds a b r : List ℕ) → Digits ds → Plain ds → eqb (get_or (((ds ++ a) ++ b) ++ r) 0 0) 45 ≡ false
no_mark [] a b r h p = absurd p
no_mark (d ∷ ds) a b r h p = ne_eqb d 45 (λ e. omega (arith, h.0.0))

kind_told : (k : Kind) (ns r : List ℕ) → kind_at (line_of (word_of k) ns ++ r) ≡ k
unfolding line_of columns
kind_told opened ns r = refl
kind_told closed ns r = refl
kind_told renamed ns r = refl
kind_told taken ns r = refl
kind_told sent [] r = refl
kind_told sent (n ∷ ns) r = rw (no_mark (decimal n) (columns ns) (10 ∷ []) r (decimal_digits n) (decimal_plain n)) refl
kind_told refused ns r = refl
kind_told ended ns r = refl
kind_told broken ns r = refl
kind_told long ns r = refl

line_some : (k : Kind) (ns r : List ℕ) → line_of (word_of k) ns ++ r ≡ [] → ⊥
unfolding line_of
line_some k ns r e = omega (arith, ap length e, length-append (line_of (word_of k) ns) r, line_length (word_of k) ns)

pub listing_tells : ListingTells
listing_tells [] [] e = refl
listing_tells [] (y ∷ ys) e = absurd (line_some y.kind y.numbers (text_of ys) (sym e))
listing_tells (x ∷ xs) [] e = absurd (line_some x.kind x.numbers (text_of xs) e)
listing_tells (x ∷ xs) (y ∷ ys) e =
    let k : x.kind ≡ y.kind = sym (kind_told x.kind x.numbers (text_of xs)) ∙ ap kind_at e ∙ kind_told y.kind y.numbers (text_of ys) in
    let f : line_of (word_of y.kind) x.numbers ++ text_of xs ≡ text_of (y ∷ ys) =
    ap (λ (j : Kind). line_of (word_of j) x.numbers ++ text_of xs) (sym k) ∙ e in
    let w = line_tells (word_of y.kind) x.numbers y.numbers (text_of xs) (text_of ys) f in
    ap₂ (λ (z : Shown) (zs : List Shown). z ∷ zs) (λ j. record { kind = k j; numbers = w.0 j }) (listing_tells xs ys w.1)
