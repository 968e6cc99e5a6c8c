-- Laws of texts and of writing them. Assumes nothing.
use mathlib.Core.Path.{◌≡◌, refl, sym, ap, ap₂, ◌∙◌}
use mathlib.Core.Bool.{Bool, true, false, cond}
use mathlib.Core.List.{List, [], ◌∷◌, ◌++◌, append_assoc, append-nil}
use Prim.Native.Nat.{ℕ, zero, suc, ◌+◌, ◌/◌, ◌%◌, ◌^◌, ◌≤◌, ◌<◌}
use native.Mathlib.Nat.{pow-suc, add-suc, suc-add, add-zero, zero-add}
use native.Mathlib.Numerals.{add-one}
use native.Mathlib.Omega.{arith}
use borrow.Author.Tests.{lt-ltb, le-ltb, ltb-true, ltb-false}
use lib.Dec.{ltb}
use lib.ListN.{length, length-append, set, take, drop, get_or, take-append-drop}
use lib.Seq.{sets, sets-eq, length-sets, take-suc, take-length, length-take-le, take_at, drop_at}
use Rattle.lines.specs.Text.{decimal_in, decimal, columns, line_of, Written, Line}
use Rattle.lines.specs.Laws.{WrittenOne, LineOne}

-- ---- writing one text after another

pub sets_append : (xs ys l : List ℕ) (i : ℕ) → sets (sets l i xs) (i + length xs) ys ≡ sets l i (xs ++ ys)
sets_append [] ys l i = rw (add-zero i)
sets_append (x ∷ xs) ys l i = rw (add-suc i (length xs), ← suc-add i (length xs)) (sets_append xs ys (set l i x) (suc i))

pub none : (l : List ℕ) (at : ℕ) → Written l at [] at l
none l at = record { ends = sym (add-zero at); list = refl }

pub then : {l m r : List ℕ} {at p q : ℕ} (xs ys : List ℕ) → Written l at xs p m → Written m p ys q r → Written l at (xs ++ ys) q r
then {l} {m} {r} {at} {p} {q} xs ys a b = record {
  ends = b.ends ∙ ap (λ (n : ℕ). n + length ys) a.ends ∙ omega (arith, length-append xs ys);
  list = b.list ∙ ap₂ (λ (k : List ℕ) (n : ℕ). sets k n ys) a.list a.ends ∙ sets_append xs ys l at;
}

pub written_length : (l : List ℕ) (at : ℕ) (text : List ℕ) (n : ℕ) (m : List ℕ) → Written l at text n m → length m ≡ length l
written_length l at text n m w = ap length w.list ∙ length-sets l at text

-- what is written from the front
pub from_front : (l text m : List ℕ) (n : ℕ) → length text ≤ length l → Written l 0 text n m → Line l text n m
from_front l text m n h w =
    let k : length text ≡ n = sym (w.ends ∙ omega arith) in
    let split : m ≡ text ++ drop (length text) l =
    w.list ∙ sets-eq text l 0 (rw (zero-add (length text)) h) ∙ ap (λ (i : ℕ). text ++ drop i l) (zero-add (length text)) in
    record {
      counts = sym k;
      text = ap (take n) split ∙ take_at text (drop (length text) l) n k;
      rest = ap (drop n) split ∙ drop_at text (drop (length text) l) n k ∙ ap (λ (i : ℕ). drop i l) k;
    }

-- no second answer is this text's
pub written_one : WrittenOne
written_one l at text n m a b p q = (p.ends ∙ sym q.ends, p.list ∙ sym q.list)

pub line_one : LineOne
line_one l line n m a b p q = (p.counts ∙ sym q.counts, whole n a p ∙ sym (whole m b q))
  where
    whole : (k : ℕ) (c : List ℕ) → Line l line k c → c ≡ line ++ drop (length line) l
    whole k c r = sym (take-append-drop k c) ∙ ap₂ (λ (x y : List ℕ). x ++ y) r.text (r.rest ∙ ap (λ (i : ℕ). drop i l) r.counts)

-- ---- decimal digits

step : (f g n : ℕ) (t : Bool) → ltb n 10 ≡ t → (10 ≤ n → decimal_in f (n / 10) ≡ decimal_in g (n / 10))
    → cond t ((48 + n % 10) ∷ []) (decimal_in f (n / 10) ++ ((48 + n % 10) ∷ [])) ≡ cond t ((48 + n % 10) ∷ []) (decimal_in g (n / 10) ++ ((48 + n % 10) ∷ []))
step f g n true e rest = refl
step f g n false e rest = ap (λ (ds : List ℕ). ds ++ ((48 + n % 10) ∷ [])) (rest (ltb-false n 10 e))

-- more digits allowed than there are change nothing
pub enough : (f g n : ℕ) → n < f → n < g → decimal_in f n ≡ decimal_in g n
unfolding decimal_in
enough zero g n h l = absurd (omega arith)
enough (suc f) zero n h l = absurd (omega arith)
enough (suc f) (suc g) n h l = step f g n (ltb n 10) refl (λ m. enough f g (n / 10) (omega arith) (omega arith))

pub decimal_one : (n : ℕ) → n < 10 → decimal n ≡ (48 + n % 10) ∷ []
unfolding decimal decimal_in
decimal_one n h = rw (lt-ltb n 10 h)

pub decimal_more : (n : ℕ) → 10 ≤ n → decimal n ≡ decimal (n / 10) ++ ((48 + n % 10) ∷ [])
unfolding decimal decimal_in
decimal_more n h = rw (le-ltb n 10 h) (ap (λ (ds : List ℕ). ds ++ ((48 + n % 10) ∷ [])) (enough n (suc (n / 10)) (n / 10) (omega arith) (omega arith)))

pub decimal_more_length : (n : ℕ) → 10 ≤ n → length (decimal n) ≡ length (decimal (n / 10)) + 1
decimal_more_length n h = ap length (decimal_more n h) ∙ length-append (decimal (n / 10)) ((48 + n % 10) ∷ [])

-- a number below 10 ^ w has at most w digits
pub decimal_length : (w n : ℕ) → n < 10 ^ suc w → length (decimal n) ≤ suc w
decimal_length zero n h = omega (arith, ap length (decimal_one n h))
decimal_length (suc w) n h = go (ltb n 10) refl (decimal_length w (n / 10) (omega (arith, pow-suc 10 (suc w))))
  where
    go : (t : Bool) → ltb n 10 ≡ t → length (decimal (n / 10)) ≤ suc w → length (decimal n) ≤ suc (suc w)
    go true e l = omega (arith, ap length (decimal_one n (ltb-true n 10 e)))
    go false e l = omega (arith, decimal_more_length n (ltb-false n 10 e))

-- ---- a text byte by byte

pub text_more : (l m text : List ℕ) (at i : ℕ) → i < length text → m ≡ sets l at (take i text)
    → set m (at + i) (get_or text i 0) ≡ sets l at (take (i + 1) text)
text_more l m text at i h e =
    let k : length (take i text) ≡ i = length-take-le i text (omega arith) in
    rw (add-one i, take-suc text i 0 h)
    (ap (λ (x : List ℕ). set x (at + i) (get_or text i 0)) e ∙ ap (λ (n : ℕ). set (sets l at (take i text)) (at + n) (get_or text i 0)) (sym k)
    ∙ sets_append (take i text) (get_or text i 0 ∷ []) l at)

-- ---- columns, number by number

columns_append : (xs ys : List ℕ) → columns (xs ++ ys) ≡ columns xs ++ columns ys
unfolding columns
columns_append [] ys = refl
columns_append (x ∷ xs) ys =
    ap (λ (l : List ℕ). 32 ∷ (decimal x ++ l)) (columns_append xs ys) ∙ ap (λ (l : List ℕ). 32 ∷ l) (sym (append_assoc (decimal x) (columns xs) (columns ys)))

column : (n : ℕ) → columns (n ∷ []) ≡ 32 ∷ decimal n
unfolding columns
column n = ap (λ (l : List ℕ). 32 ∷ l) (append-nil (decimal n))

columns_more : (ns : List ℕ) (i : ℕ) → i < length ns → columns (take (i + 1) ns) ≡ columns (take i ns) ++ (32 ∷ decimal (get_or ns i 0))
columns_more ns i h =
    rw (add-one i, take-suc ns i 0 h) (columns_append (take i ns) (get_or ns i 0 ∷ []) ∙ ap (λ (l : List ℕ). columns (take i ns) ++ l) (column (get_or ns i 0)))

pub columns_room : (ns : List ℕ) (i : ℕ) → i < length ns → length (columns (take i ns)) + 1 + length (decimal (get_or ns i 0)) ≤ length (columns ns)
columns_room ns i h =
    let parts : columns ns ≡ columns (take (i + 1) ns) ++ columns (drop (i + 1) ns) =
    ap columns (sym (take-append-drop (i + 1) ns)) ∙ columns_append (take (i + 1) ns) (drop (i + 1) ns) in
    omega (
      arith,
      ap length parts,
      length-append (columns (take (i + 1) ns)) (columns (drop (i + 1) ns)),
      ap length (columns_more ns i h),
      length-append (columns (take i ns)) (32 ∷ decimal (get_or ns i 0)),
    )

pub columns_none : (l ns : List ℕ) (at : ℕ) → Written l at (columns (take 0 ns)) at l
unfolding columns
columns_none l ns at = none l at

pub columns_on : {l m k r : List ℕ} {at p q n : ℕ} (ns : List ℕ) (i : ℕ) → i < length ns → Written l at (columns (take i ns)) p m → Written m p (32 ∷ []) q k
    → Written k q (decimal (get_or ns i 0)) n r
    → Written l at (columns (take (i + 1) ns)) n r
columns_on ns i h a b c = rw (columns_more ns i h) (then (columns (take i ns)) (32 ∷ decimal (get_or ns i 0)) a (then (32 ∷ []) (decimal (get_or ns i 0)) b c))

pub columns_all : {l m : List ℕ} {at n : ℕ} (ns : List ℕ) (i : ℕ) → i ≡ length ns → Written l at (columns (take i ns)) n m → Written l at (columns ns) n m
columns_all ns i e w = rw (e, take-length) at w

-- ---- a line

pub line_length : (word ns : List ℕ) → length (line_of word ns) ≡ length word + length (columns ns) + 1
unfolding line_of
line_length word ns = simp (length-append) (omega arith)

pub line_all : {l m k r : List ℕ} {at p q n : ℕ} (word ns : List ℕ) → Written l at word p m → Written m p (columns ns) q k → Written k q (10 ∷ []) n r
    → Written l at (line_of word ns) n r
unfolding line_of
line_all word ns a b c = then word (columns ns ++ (10 ∷ [])) a (then (columns ns) (10 ∷ []) b c)
