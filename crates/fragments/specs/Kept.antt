-- WHAT IS KEPT of a field that is not finished: its first bytes, thirteen at most, and how many have come.
use Rattle.std.specs.Prelude.{◌≡◌, Bool, true, false, cond, ◌&&◌, List, ◌++◌, ℕ, ◌+◌, ◌-◌, ◌^◌, ◌≤◌, ◌<◌, ltb, leb}
use Rattle.std.specs.Prelude.{length, take, get_or, replicate}
use Rattle.log_bytes.specs.declared.Stage.{Stage}
use Rattle.log_bytes.specs.declared.Next.{Next}
use Rattle.log_bytes.specs.declared.Next.TheVariants.{GoesOn, Ends, Unfinished}
use Rattle.log_bytes.specs.Format.{tag_in, length_in, next_in}

-- The bytes that have come of it. Those of a value that is passed over were counted, and not kept: zeros stand for
-- them, and nothing looks at them.
unfoldable pub kept_bytes : (kept : List ℕ) (came : ℕ) → List ℕ
kept_bytes kept came = take came (kept ++ replicate came 0)

-- How many bytes are kept if so many have come: all, but of a field that is passed over the tag and the length alone.
unfoldable pub kept_of : (tag came : ℕ) → ℕ
kept_of tag came = cond (ltb tag 128) came (cond (ltb came 3) came 3)

-- Up to so many bytes are wanted of it: to the end of its length, and then to its own.
unfoldable pub wanted_of : (kept : List ℕ) (came : ℕ) → ℕ
wanted_of kept came = cond (ltb came 3) (3 - came) (3 + length_in kept - came)

-- That is not finished, and breaks nothing; and its offset is that of no byte that is past the end of every log.
abbrev pub not_finished : Next → Bool
not_finished (GoesOn e size) = false
not_finished (Ends e) = false
not_finished (Unfinished came) = true

unfoldable pub is_fit : (at : ℕ) (kept : List ℕ) (came : ℕ) → Stage → Bool
is_fit at kept came stage = not_finished (next_in at kept came stage) && leb at (2 ^ 48)

-- Behind the bytes that have come stand those of the part that comes next, up to a count.
pub record Behind (kept : List ℕ) (came : ℕ) (part : List ℕ) (count : ℕ) (after : List ℕ) : Type 0 where
  pub same : length after ≡ length kept
  pub before : (i : ℕ) → i < came → get_or after i 0 ≡ get_or kept i 0
  pub behind : (i : ℕ) → came ≤ i → i < count → get_or after i 0 ≡ get_or part (i - came) 0

-- So stand the first bytes of a part, as many as are kept of a field of which it is all that has come, if they have
-- room.
pub record FirstKept (kept part after : List ℕ) : Type 0 where
  pub same : length after ≡ length kept
  pub first : kept_of (tag_in part) (length part) ≤ 13 → Behind kept 0 part (kept_of (tag_in part) (length part)) after
