-- The worked listing of document 01, line by line and byte by byte, and one line of each kind that it lacks.
use Rattle.std.specs.Prelude.{◌≡◌, List, [], ◌∷◌, ◌++◌, ℕ}
use Rattle.lines.specs.Listing.{open_line, close_line, name_line, in_line, out_line, refused_line, end_line}
use Rattle.lines.specs.Listing.{broken_line, long_line}

-- lines, one after the other
abbrev pub joined : List (List ℕ) → List ℕ
joined [] = []
joined (l ∷ ls) = l ++ joined ls

abbrev pub worked_lines : List (List ℕ)
worked_lines =
    open_line 11 0 ∷
    open_line 12 0 ∷
    in_line 1 0 ∷
    in_line 2 0 ∷
    in_line 3 0 ∷
    in_line 4 0 ∷
    in_line 5 0 ∷
    out_line 11 1 100 2 ∷
    out_line 11 2 60 4 ∷
    out_line 12 3 100 5 ∷
    out_line 12 4 100 8 ∷
    out_line 12 5 100 8 ∷
    refused_line 1 ∷
    end_line 9 460 0 ∷
    []

abbrev pub worked_bytes : List ℕ
worked_bytes =
    111 ∷ 112 ∷ 101 ∷ 110 ∷ 32 ∷ 49 ∷ 49 ∷ 32 ∷ 48 ∷ 10 ∷
    111 ∷ 112 ∷ 101 ∷ 110 ∷ 32 ∷ 49 ∷ 50 ∷ 32 ∷ 48 ∷ 10 ∷
    105 ∷ 110 ∷ 32 ∷ 49 ∷ 32 ∷ 48 ∷ 10 ∷
    105 ∷ 110 ∷ 32 ∷ 50 ∷ 32 ∷ 48 ∷ 10 ∷
    105 ∷ 110 ∷ 32 ∷ 51 ∷ 32 ∷ 48 ∷ 10 ∷
    105 ∷ 110 ∷ 32 ∷ 52 ∷ 32 ∷ 48 ∷ 10 ∷
    105 ∷ 110 ∷ 32 ∷ 53 ∷ 32 ∷ 48 ∷ 10 ∷
    111 ∷ 117 ∷ 116 ∷ 32 ∷ 49 ∷ 49 ∷ 32 ∷ 49 ∷ 32 ∷ 49 ∷ 48 ∷ 48 ∷ 32 ∷ 50 ∷ 10 ∷
    111 ∷ 117 ∷ 116 ∷ 32 ∷ 49 ∷ 49 ∷ 32 ∷ 50 ∷ 32 ∷ 54 ∷ 48 ∷ 32 ∷ 52 ∷ 10 ∷
    111 ∷ 117 ∷ 116 ∷ 32 ∷ 49 ∷ 50 ∷ 32 ∷ 51 ∷ 32 ∷ 49 ∷ 48 ∷ 48 ∷ 32 ∷ 53 ∷ 10 ∷
    111 ∷ 117 ∷ 116 ∷ 32 ∷ 49 ∷ 50 ∷ 32 ∷ 52 ∷ 32 ∷ 49 ∷ 48 ∷ 48 ∷ 32 ∷ 56 ∷ 10 ∷
    111 ∷ 117 ∷ 116 ∷ 32 ∷ 49 ∷ 50 ∷ 32 ∷ 53 ∷ 32 ∷ 49 ∷ 48 ∷ 48 ∷ 32 ∷ 56 ∷ 10 ∷
    111 ∷ 117 ∷ 116 ∷ 32 ∷ 45 ∷ 32 ∷ 49 ∷ 10 ∷
    101 ∷ 110 ∷ 100 ∷ 32 ∷ 57 ∷ 32 ∷ 52 ∷ 54 ∷ 48 ∷ 32 ∷ 48 ∷ 10 ∷
    []

abbrev pub WorkedListing : Type 0
WorkedListing = joined worked_lines ≡ worked_bytes

-- close 7 10, name 11 13 5, broken 110, long
abbrev pub other_lines : List (List ℕ)
other_lines = close_line 7 10 ∷ name_line 11 13 5 ∷ broken_line 110 ∷ long_line ∷ []

abbrev pub other_bytes : List ℕ
other_bytes =
    99 ∷ 108 ∷ 111 ∷ 115 ∷ 101 ∷ 32 ∷ 55 ∷ 32 ∷ 49 ∷ 48 ∷ 10 ∷
    110 ∷ 97 ∷ 109 ∷ 101 ∷ 32 ∷ 49 ∷ 49 ∷ 32 ∷ 49 ∷ 51 ∷ 32 ∷ 53 ∷ 10 ∷
    98 ∷ 114 ∷ 111 ∷ 107 ∷ 101 ∷ 110 ∷ 32 ∷ 49 ∷ 49 ∷ 48 ∷ 10 ∷
    108 ∷ 111 ∷ 110 ∷ 103 ∷ 10 ∷
    []

abbrev pub OtherLines : Type 0
OtherLines = joined other_lines ≡ other_bytes
