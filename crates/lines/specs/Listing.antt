-- Each kind of line of a listing.
use Rattle.std.specs.Prelude.{List, [], ◌∷◌, ℕ}
use Rattle.lines.specs.Text.{line_of}
use Rattle.lines.specs.declared.Line.{Line}
use Rattle.lines.specs.declared.Line.TheVariants.{Open, Close, Name, In, Out, Refused, End, Broken, Long}

-- The words, as bytes: open, close, name, in, out, out -, end, broken, long.
abbrev pub open_word : List ℕ
open_word = 111 ∷ 112 ∷ 101 ∷ 110 ∷ []

abbrev pub close_word : List ℕ
close_word = 99 ∷ 108 ∷ 111 ∷ 115 ∷ 101 ∷ []

abbrev pub name_word : List ℕ
name_word = 110 ∷ 97 ∷ 109 ∷ 101 ∷ []

abbrev pub in_word : List ℕ
in_word = 105 ∷ 110 ∷ []

abbrev pub out_word : List ℕ
out_word = 111 ∷ 117 ∷ 116 ∷ []

abbrev pub refused_word : List ℕ
refused_word = 111 ∷ 117 ∷ 116 ∷ 32 ∷ 45 ∷ []

abbrev pub end_word : List ℕ
end_word = 101 ∷ 110 ∷ 100 ∷ []

abbrev pub broken_word : List ℕ
broken_word = 98 ∷ 114 ∷ 111 ∷ 107 ∷ 101 ∷ 110 ∷ []

abbrev pub long_word : List ℕ
long_word = 108 ∷ 111 ∷ 110 ∷ 103 ∷ []

-- open BLOCK CODE
unfoldable pub open_line : (block code : ℕ) → List ℕ
open_line block code = line_of open_word (block ∷ code ∷ [])

-- close BLOCK CODE
unfoldable pub close_line : (block code : ℕ) → List ℕ
close_line block code = line_of close_word (block ∷ code ∷ [])

-- name OLD NEW CODE
unfoldable pub name_line : (old new code : ℕ) → List ℕ
name_line old new code = line_of name_word (old ∷ new ∷ code ∷ [])

-- in RECORD CODE
unfoldable pub in_line : (number code : ℕ) → List ℕ
in_line number code = line_of in_word (number ∷ code ∷ [])

-- out BLOCK RECORD LENGTH CLOCK
unfoldable pub out_line : (block number length clock : ℕ) → List ℕ
out_line block number length clock = line_of out_word (block ∷ number ∷ length ∷ clock ∷ [])

-- A refused serve is out - CODE.
unfoldable pub refused_line : (code : ℕ) → List ℕ
refused_line code = line_of refused_word (code ∷ [])

-- end CLOCK BYTES WAITING
unfoldable pub end_line : (clock bytes waiting : ℕ) → List ℕ
end_line clock bytes waiting = line_of end_word (clock ∷ bytes ∷ waiting ∷ [])

-- broken OFFSET
unfoldable pub broken_line : (offset : ℕ) → List ℕ
broken_line offset = line_of broken_word (offset ∷ [])

-- long
unfoldable pub long_line : List ℕ
long_line = line_of long_word []

-- the text of a line that the code can put
abbrev pub line_text : Line → List ℕ
line_text (Open block code) = open_line block code
line_text (Close block code) = close_line block code
line_text (Name old new code) = name_line old new code
line_text (In number code) = in_line number code
line_text (Out block number length clock) = out_line block number length clock
line_text (Refused code) = refused_line code
line_text (End clock bytes waiting) = end_line clock bytes waiting
line_text (Broken offset) = broken_line offset
line_text Long = long_line
