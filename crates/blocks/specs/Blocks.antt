-- WORKING DEFINITIONS: making, renaming, opening and closing, with their codes, on the board's lists.
-- Theorems tie them to the rules; no promise of a call cites one.
use Rattle.std.specs.Prelude.{cond, ◌||◌, List, ℕ, ◌+◌, ◌≤◌, ltb, eqb, get_or, set}
use Rattle.arrays.specs.Lists.{total_of, zeroed}
use Rattle.rules.specs.Board.{fresh}
use Rattle.units.specs.Classes.{class_of}
use Rattle.board.specs.declared.Board.{Board}
use Rattle.operands.specs.declared.Opening.{Opening}
use Rattle.board.specs.Reading.{encode}
use Rattle.board.specs.Memory.{Blocks, blocks_now, with_blocks}
use Rattle.board.specs.Leaving.{Returned, returned}
use Rattle.finding.specs.Finding.{found_in, by_found, lowest_free}

-- ---- MAKING

-- a fresh board, and both tables cleared
abbrev pub fresh_in : (ids lens : List ℕ) (L : ℕ) → Returned Board
fresh_in ids lens L = returned (encode (fresh L)) (zeroed ids) (zeroed lens)

-- ---- RENAME

pub record Renaming : Type 0 where
  pub code : ℕ
  pub numbers : List ℕ

abbrev pub renaming : (code : ℕ) (numbers : List ℕ) → Renaming
renaming code numbers = record { code = code; numbers = numbers }

-- the block at place p
abbrev pub renamed_at : (numbers : List ℕ) (new p : ℕ) → Renaming
renamed_at numbers new p =
    by_found (found_in numbers new) (λ j. renaming 5 numbers) (renaming 0 (set numbers p new))

unfoldable pub renamed_in : (numbers : List ℕ) (old new : ℕ) → Renaming
renamed_in numbers old new =
    cond (eqb new 0) (renaming 4 numbers)
    (by_found (found_in numbers old) (renamed_at numbers new) (renaming 6 numbers))

abbrev pub with_renaming : Board → Renaming → Board
with_renaming b r = with_blocks b (blocks_now r.numbers b.shares b.starts b.held)

-- ---- OPEN

-- what opening and closing leave: the code, and the arrays
pub record Answered : Type 0 where
  pub code : ℕ
  pub blocks : Blocks

abbrev pub answered : (code : ℕ) → Blocks → Answered
answered code x = record { code = code; blocks = x }

-- a block opens at place p
abbrev pub open_at : (p : ℕ) → Opening → Blocks → Blocks
open_at p o x = blocks_now (set x.numbers p o.number) (set x.shares p o.share) x.starts x.held

unfoldable pub opened_in : Blocks → Opening → Answered
opened_in x o =
    let n = o.number in
    let s = o.share in
    let p = lowest_free x.numbers in
    cond (eqb n 0 || (eqb s 0 || ltb 65536 s)) (answered 4 x)
    (by_found (found_in x.numbers n) (λ j. answered 5 x)
    (cond (eqb p 64) (answered 7 x)
    (cond (ltb 65536 (total_of x.shares + total_of x.held + s)) (answered 8 x)
    (answered 0 (open_at p o x)))))

-- ---- CLOSE

-- a share is held with its class's, unless no class is active
unfoldable pub held_with : (active share : ℕ) (held : List ℕ) → List ℕ
held_with active share held = let k = class_of share in cond (eqb active 0) held (set held k (get_or held k 0 + share))

-- the block at place p, which has this share, closes
abbrev pub close_at : (active share p : ℕ) → Blocks → Blocks
close_at active share p x =
    blocks_now (set x.numbers p 0) (set x.shares p 0) (set x.starts p 0) (held_with active share x.held)

abbrev pub closed_at : (active : ℕ) (counts : List ℕ) → Blocks → (p : ℕ) → Answered
closed_at active counts x p =
    cond (ltb 0 (get_or counts p 0)) (answered 10 x) (answered 0 (close_at active (get_or x.shares p 0) p x))

unfoldable pub closed_in : (active : ℕ) (counts : List ℕ) → Blocks → (block : ℕ) → Answered
closed_in active counts x block = by_found (found_in x.numbers block) (closed_at active counts x) (answered 6 x)

-- what must hold of the lists for any number: a place with a number has a share, and the sums fit
pub record CloseNeeds (numbers shares held : List ℕ) : Type 0 where
  pub low : (i : ℕ) → 1 ≤ get_or numbers i 0 → 1 ≤ get_or shares i 0
  pub high : (i : ℕ) → get_or shares i 0 ≤ 65536
  pub most : (k : ℕ) → get_or held k 0 ≤ 65536
