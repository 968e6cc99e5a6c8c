-- WHAT IS PROVED of lines: their room, that no second answer is one, and that a listing can be read back.
use Rattle.std.specs.Prelude.{◌≡◌, List, [], ◌∷◌, ◌++◌, ℕ, ◌^◌, ◌≤◌, ◌<◌, length}
use Rattle.lines.specs.Text.{decimal, Digits, Plain, number_of, line_of, Written, Line}
use Rattle.lines.specs.Listing

-- ---- Writing

-- Two offsets and lists that are this text's, written into the same list at the same offset, are equal.
abbrev pub WrittenOne : Type 0
WrittenOne = (before : List ℕ) (at : ℕ) (text : List ℕ) (n m : ℕ) (a b : List ℕ) → Written before at text n a
    → Written before at text m b
    → (n ≡ m) × (a ≡ b)

-- So are two counts and lists that are this text's from the front of the same list.
abbrev pub LineOne : Type 0
LineOne = (before line : List ℕ) (n m : ℕ) (a b : List ℕ) → Line before line n a → Line before line m b
    → (n ≡ m) × (a ≡ b)

-- Every line has at most 64 bytes, for every number of its columns' types.
abbrev pub OpenFits : Type 0
OpenFits = (block code : ℕ) → block < 2 ^ 32 → code < 2 ^ 8 → length (Listing.open_line block code) ≤ 64

abbrev pub CloseFits : Type 0
CloseFits = (block code : ℕ) → block < 2 ^ 32 → code < 2 ^ 8 → length (Listing.close_line block code) ≤ 64

abbrev pub NameFits : Type 0
NameFits =
    (old new code : ℕ) → old < 2 ^ 32 → new < 2 ^ 32 → code < 2 ^ 8 → length (Listing.name_line old new code) ≤ 64

abbrev pub InFits : Type 0
InFits = (number code : ℕ) → number < 2 ^ 32 → code < 2 ^ 8 → length (Listing.in_line number code) ≤ 64

abbrev pub OutFits : Type 0
OutFits = (block number len clock : ℕ) → block < 2 ^ 32 → number < 2 ^ 32 → len < 2 ^ 16 → clock < 2 ^ 64
    → length (Listing.out_line block number len clock) ≤ 64

abbrev pub RefusedFits : Type 0
RefusedFits = (code : ℕ) → code < 2 ^ 8 → length (Listing.refused_line code) ≤ 64

abbrev pub EndFits : Type 0
EndFits = (clock bytes waiting : ℕ) → clock < 2 ^ 64 → bytes < 2 ^ 64 → waiting < 2 ^ 32
    → length (Listing.end_line clock bytes waiting) ≤ 64

abbrev pub BrokenFits : Type 0
BrokenFits = (offset : ℕ) → offset < 2 ^ 64 → length (Listing.broken_line offset) ≤ 64

abbrev pub LongFits : Type 0
LongFits = length Listing.long_line ≤ 64

-- ---- Reading back

-- A decimal text has digits alone, no zero in front but for 0 itself, and spells its number.
abbrev pub DecimalDigits : Type 0
DecimalDigits = (n : ℕ) → Digits (decimal n)

abbrev pub DecimalPlain : Type 0
DecimalPlain = (n : ℕ) → Plain (decimal n)

abbrev pub DecimalValue : Type 0
DecimalValue = (n : ℕ) → number_of (decimal n) ≡ n

-- Distinct numbers have distinct texts, and no other text of digits with no zero in front spells a number.
abbrev pub DecimalInj : Type 0
DecimalInj = (n m : ℕ) → decimal n ≡ decimal m → n ≡ m

abbrev pub PlainDecimal : Type 0
PlainDecimal = (ds : List ℕ) → Digits ds → Plain ds → decimal (number_of ds) ≡ ds

-- Of two texts that begin with lines of one word, equal ones have the same numbers in that line and go on alike.
abbrev pub LineTells : Type 0
LineTells = (word ns ms r q : List ℕ) → line_of word ns ++ r ≡ line_of word ms ++ q → (ns ≡ ms) × (r ≡ q)

-- The nine kinds of lines, by their words.
pub data Kind : Type 0 where
  opened : Kind
  closed : Kind
  renamed : Kind
  taken : Kind
  sent : Kind
  refused : Kind
  ended : Kind
  broken : Kind
  long : Kind

abbrev pub word_of : Kind → List ℕ
word_of opened = Listing.open_word
word_of closed = Listing.close_word
word_of renamed = Listing.name_word
word_of taken = Listing.in_word
word_of sent = Listing.out_word
word_of refused = Listing.refused_word
word_of ended = Listing.end_word
word_of broken = Listing.broken_word
word_of long = Listing.long_word

-- A line as its kind and its numbers, and the bytes of such lines, one after the other.
pub record Shown : Type 0 where
  pub kind : Kind
  pub numbers : List ℕ

abbrev pub text_of : List Shown → List ℕ
text_of [] = []
text_of (x ∷ xs) = line_of (word_of x.kind) x.numbers ++ text_of xs

-- A listing can be read back, line by line: no two rows of lines have the same bytes.
abbrev pub ListingTells : Type 0
ListingTells = (xs ys : List Shown) → text_of xs ≡ text_of ys → xs ≡ ys
