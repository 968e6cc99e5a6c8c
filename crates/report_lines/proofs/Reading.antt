-- A report can be read back: a signed text is the one of its number, an account line tells its six numbers, and no two reports are alike. Assumes nothing.
use mathlib.Core.Path.{◌≡◌, refl, sym, ap, ap₂, ◌∙◌}
use mathlib.Core.Logic.{inl, inr}
use mathlib.Core.Bool.{cond}
use mathlib.Core.List.{List, [], ◌∷◌, ◌++◌, append_assoc}
use Prim.Native.Nat.{ℕ, zero, suc, ◌≤◌, ◌<◌}
use native.Mathlib.Omega.{arith}
use borrow.Author.Tests.{ne_eqb}
use lib.Dec.{eqb, lit<}
use lib.IntN.{ℤ, pos, negsuc, neg_ℤ}
use lib.ListN.{length, length-append, get_or}
use Rattle.lines.specs.Text.{decimal, Digits, Plain, number_of, columns, line_of}
use Rattle.lines.specs.Listing.{broken_line, broken_word, long_line}
use Rattle.lines.proofs.Reading.{decimal_digits, decimal_plain, decimal_value, decimal_inj, plain_decimal, NoDigitFirst, digits_end, line_tells}
use Rattle.report_lines.specs.Text.{signed, account_line, full_line}
use Rattle.report_lines.specs.Laws.{whole_of, SignedSpelt, SignedValue, SignedTells, SpeltSigned, AccountShown, line_shown, AccountTells}
use Rattle.report_lines.specs.Laws.{Report, accounts, full, broken, long, accounts_text, report_text, ReportTells}
use Rattle.report_lines.proofs.Texts.{account_length}

-- ---- whole numbers

pub signed_spelt : SignedSpelt
signed_spelt (pos n) = inl (decimal_digits n, decimal_plain n)
signed_spelt (negsuc n) = inr (refl, (decimal_digits (suc n), (decimal_plain (suc n), rw (decimal_value (suc n)) (omega arith))))

-- a text of digits has no sign
plain_value : (ds : List ℕ) → Digits ds → Plain ds → whole_of ds ≡ pos (number_of ds)
unfolding whole_of
plain_value [] h p = absurd p
plain_value (d ∷ ds) h p = rw (ne_eqb d 45 (λ e. omega (arith, h.0.0)))

pub signed_value : SignedValue
unfolding whole_of
signed_value (pos n) = plain_value (decimal n) (decimal_digits n) (decimal_plain n) ∙ ap pos (decimal_value n)
signed_value (negsuc n) = ap (λ (m : ℕ). neg_ℤ (pos m)) (decimal_value (suc n))

pub signed_tells : SignedTells
signed_tells d e same = sym (signed_value d) ∙ ap whole_of same ∙ signed_value e

below_signed : (m : ℕ) → 0 < m → signed (neg_ℤ (pos m)) ≡ 45 ∷ decimal m
below_signed zero h = absurd (omega arith)
below_signed (suc m) h = refl

pub spelt_signed : SpeltSigned
unfolding whole_of
spelt_signed text (inl h) = ap signed (plain_value text h.0 h.1) ∙ plain_decimal text h.0 h.1
spelt_signed [] (inr h) = absurd h
spelt_signed (d ∷ ds) (inr h) =
    rw h.0 (below_signed (number_of ds) h.1.1.1 ∙ ap (λ (l : List ℕ). 45 ∷ l) (plain_decimal ds h.1.0 h.1.1.0))

-- ---- an account line, number by number

number_first : (n m : ℕ) (x y : List ℕ) → NoDigitFirst x → NoDigitFirst y → decimal n ++ x ≡ decimal m ++ y → (n ≡ m) × (x ≡ y)
number_first n m x y p q e =
    let w = digits_end (decimal n) (decimal m) x y (decimal_digits n) (decimal_digits m) p q e in
    (decimal_inj n m w.0, w.1)

after_space : (x y : List ℕ) → 32 ∷ x ≡ 32 ∷ y → x ≡ y
after_space x y e = cc

no_sign : (ds x y : List ℕ) → Digits ds → Plain ds → ds ++ x ≡ 45 ∷ y → ⊥
no_sign [] x y h p e = absurd p
no_sign (d ∷ ds) x y h p e = let z : d ≡ 45 = cc in omega (arith, h.0.0)

signed_first : (a b : ℤ) (x y : List ℕ) → NoDigitFirst x → NoDigitFirst y → signed a ++ x ≡ signed b ++ y → (a ≡ b) × (x ≡ y)
signed_first (pos n) (pos m) x y p q e = let w = number_first n m x y p q e in (ap pos w.0, w.1)
signed_first (pos n) (negsuc m) x y p q e = absurd (no_sign (decimal n) x (decimal (suc m) ++ y) (decimal_digits n) (decimal_plain n) e)
signed_first (negsuc n) (pos m) x y p q e = absurd (no_sign (decimal m) y (decimal (suc n) ++ x) (decimal_digits m) (decimal_plain m) (sym e))
signed_first (negsuc n) (negsuc m) x y p q e =
    let t : decimal (suc n) ++ x ≡ decimal (suc m) ++ y = cc in
    let w = number_first (suc n) (suc m) x y p q t in
    (ap (λ (k : ℕ). neg_ℤ (pos k)) w.0, w.1)

-- the line as its numbers, each with what follows it
spread : (x : AccountShown) (r : List ℕ) → line_shown x ++ r
    ≡ decimal x.block ++ (32 ∷ (decimal x.slots ++ (32 ∷ (decimal x.credit ++ (32 ∷ (decimal x.bytes
    ++ (32 ∷ (signed x.difference ++ (32 ∷ (decimal x.lost ++ (10 ∷ r)))))))))))
unfolding account_line columns
spread x r = simp append_assoc

pub account_tells : AccountTells
account_tells x y r q e =
    let w0 = number_first x.block y.block _ _ (lit< tt) (lit< tt) (sym (spread x r) ∙ e ∙ spread y q) in
    let w1 = number_first x.slots y.slots _ _ (lit< tt) (lit< tt) (after_space _ _ w0.1) in
    let w2 = number_first x.credit y.credit _ _ (lit< tt) (lit< tt) (after_space _ _ w1.1) in
    let w3 = number_first x.bytes y.bytes _ _ (lit< tt) (lit< tt) (after_space _ _ w2.1) in
    let w4 = signed_first x.difference y.difference _ _ (lit< tt) (lit< tt) (after_space _ _ w3.1) in
    let w5 = number_first x.lost y.lost _ _ (lit< tt) (lit< tt) (after_space _ _ w4.1) in
    (λ j. record { block = w0.0 j; slots = w1.0 j; credit = w2.0 j; bytes = w3.0 j; difference = w4.0 j; lost = w5.0 j }, cc)

-- ---- a report

-- which of the four a report is, by its first byte
abbrev sort_of : Report → ℕ
sort_of (accounts xs) = 0
sort_of full = 1
sort_of (broken offset) = 2
sort_of long = 3

abbrev sort_by : (first : ℕ) → ℕ
sort_by first = cond (eqb first 102) 1 (cond (eqb first 98) 2 (cond (eqb first 108) 3 0))

abbrev sort_at : List ℕ → ℕ
sort_at t = sort_by (get_or t 0 0)

-- an account line begins with a digit
digit_first : (ds x : List ℕ) → Digits ds → Plain ds → (48 ≤ get_or (ds ++ x) 0 0) × (get_or (ds ++ x) 0 0 < 58)
digit_first [] x h p = absurd p
digit_first (d ∷ ds) x h p = h.0

no_word : (n : ℕ) → (48 ≤ n) × (n < 58) → sort_by n ≡ 0
no_word n h = rw (ne_eqb n 102 (λ e. omega (arith, h)), ne_eqb n 98 (λ e. omega (arith, h)), ne_eqb n 108 (λ e. omega (arith, h)))

sort_told : (a : Report) → sort_at (report_text a) ≡ sort_of a
unfolding full_line broken_line long_line line_of
sort_told (accounts []) = refl
sort_told (accounts (x ∷ xs)) =
    no_word (get_or (line_shown x ++ accounts_text xs) 0 0)
    (rw (spread x (accounts_text xs)) (digit_first (decimal x.block) _ (decimal_digits x.block) (decimal_plain x.block)))
sort_told full = refl
sort_told (broken offset) = refl
sort_told long = refl

account_some : (x : AccountShown) (r : List ℕ) → line_shown x ++ r ≡ [] → ⊥
account_some x r e =
    omega (arith, ap length e, length-append (line_shown x) r, account_length x.block x.slots x.credit x.bytes x.difference x.lost)

accounts_tell : (xs ys : List AccountShown) → accounts_text xs ≡ accounts_text ys → xs ≡ ys
accounts_tell [] [] e = refl
accounts_tell [] (y ∷ ys) e = absurd (account_some y (accounts_text ys) (sym e))
accounts_tell (x ∷ xs) [] e = absurd (account_some x (accounts_text xs) e)
accounts_tell (x ∷ xs) (y ∷ ys) e =
    let w = account_tells x y (accounts_text xs) (accounts_text ys) e in
    ap₂ (λ (z : AccountShown) (zs : List AccountShown). z ∷ zs) w.0 (accounts_tell xs ys w.1)

offset_told : (n m : ℕ) → broken_line n ≡ broken_line m → n ≡ m
unfolding broken_line
offset_told n m e = let w = (line_tells broken_word (n ∷ []) (m ∷ []) [] [] (ap (λ (l : List ℕ). l ++ []) e)).0 in cc

pub report_tells : ReportTells
report_tells a b e = go a b (sym (sort_told a) ∙ ap sort_at e ∙ sort_told b) e
  where
    go : (a b : Report) → sort_of a ≡ sort_of b → report_text a ≡ report_text b → a ≡ b
    go (accounts xs) (accounts ys) s e = ap accounts (accounts_tell xs ys e)
    go (accounts xs) full s e = absurd (omega (arith, s))
    go (accounts xs) (broken m) s e = absurd (omega (arith, s))
    go (accounts xs) long s e = absurd (omega (arith, s))
    go full (accounts ys) s e = absurd (omega (arith, s))
    go full full s e = refl
    go full (broken m) s e = absurd (omega (arith, s))
    go full long s e = absurd (omega (arith, s))
    go (broken n) (accounts ys) s e = absurd (omega (arith, s))
    go (broken n) full s e = absurd (omega (arith, s))
    go (broken n) (broken m) s e = ap broken (offset_told n m e)
    go (broken n) long s e = absurd (omega (arith, s))
    go long (accounts ys) s e = absurd (omega (arith, s))
    go long full s e = absurd (omega (arith, s))
    go long (broken m) s e = absurd (omega (arith, s))
    go long long s e = refl
