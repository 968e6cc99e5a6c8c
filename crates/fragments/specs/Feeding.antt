-- A LOG TOLD FROM ITS FRAGMENTS: what is written of each, joined, is what there is to tell of the joined log.
use Rattle.std.specs.Prelude.{◌≡◌, Bool, true, List, [], ◌++◌, ℕ, ◌≤◌, length, take, drop}

-- S is what stands in memory between two calls; `rest s later` is what is still to be written if these bytes follow,
-- and the log then ends.

-- A call that is lent a fragment takes the first bytes of it and writes to the front of a buffer: whatever comes later,
-- this and what is then left is what was left before. All else in the buffer is as it was.
pub record Told {S : Type 0} (rest : S → List ℕ → List ℕ) (s : S) (fragment out : List ℕ) (taken used : ℕ) (after : S)
    (out' : List ℕ) : Type 0 where
  pub within : taken ≤ length fragment
  pub fits : used ≤ length out
  pub joined : (later : List ℕ)
      → take used out' ++ rest after (drop taken fragment ++ later) ≡ rest s (fragment ++ later)
  pub untouched : drop used out' ≡ drop used out

-- A call at the log's end: no byte comes any more.
pub record Closed {S : Type 0} (rest : S → List ℕ → List ℕ) (s : S) (out : List ℕ) (used : ℕ) (after : S)
    (out' : List ℕ) : Type 0 where
  pub fits : used ≤ length out
  pub joined : take used out' ++ rest after [] ≡ rest s []
  pub untouched : drop used out' ≡ drop used out

-- Such calls one after the other, each given what the one before left: the log's bytes in any fragments, empty ones and
-- bytes that were not taken included; and where they are at an end, closing calls, until nothing is left.
pub data Telling {S : Type 0} (rest : S → List ℕ → List ℕ) (is_over : S → Bool) : S → (log written : List ℕ) → Type 0
  where
    fed : {s : S} {written : List ℕ} (fragment later out : List ℕ) (taken used : ℕ) (after : S) (out' : List ℕ)
        → Told rest s fragment out taken used after out'
        → Telling rest is_over after (drop taken fragment ++ later) written
        → Telling rest is_over s (fragment ++ later) (take used out' ++ written)
    closed : {s : S} {written : List ℕ} (out : List ℕ) (used : ℕ) (after : S) (out' : List ℕ)
        → Closed rest s out used after out' → Telling rest is_over after [] written
        → Telling rest is_over s [] (take used out' ++ written)
    ended : {s : S} → is_over s ≡ true → Telling rest is_over s [] []

-- However the log is cut, what they write, joined, is what there was to tell of it.
abbrev pub TellsAll : Type 1
TellsAll = (S : Type 0) (rest : S → List ℕ → List ℕ) (is_over : S → Bool)
    → ((s : S) → is_over s ≡ true → rest s [] ≡ [])
    → (s : S) (log written : List ℕ) → Telling rest is_over s log written → written ≡ rest s log
