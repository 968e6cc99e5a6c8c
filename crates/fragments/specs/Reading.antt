-- READING ON in a log that comes in fragments: what is known of the next field by what is kept of it and the part of
-- the log that comes next, whatever comes later.
use Rattle.std.specs.Prelude.{◌≡◌, true, List, ◌++◌, ℕ, ◌+◌, ◌-◌, ◌^◌, ◌≤◌, ◌<◌, length, drop}
use Rattle.log_bytes.specs.declared.Stage.{Stage}
use Rattle.log_bytes.specs.declared.Event.{Event}
use Rattle.log_bytes.specs.declared.End.{End}
use Rattle.log_bytes.specs.declared.Next.{Next}
use Rattle.log_bytes.specs.declared.Next.TheVariants.{GoesOn, Ends, Unfinished}
use Rattle.log_bytes.specs.Format.{in_turn, next_in}
use Rattle.log_bytes.specs.Rows.{next_of, read_from}
use Rattle.fragments.specs.Kept.{kept_bytes}

-- The log from the field's first byte on: what has come of it, this part, and what comes later.
abbrev pub joined : (kept : List ℕ) (came : ℕ) (part later : List ℕ) → List ℕ
joined kept came part later = kept_bytes kept came ++ (part ++ later)

-- A field is whole, and has so many bytes: it ends in this part.
pub record GoesOnWith (at : ℕ) (stage : Stage) (kept : List ℕ) (came : ℕ) (part : List ℕ) (e : Event) (size : ℕ)
    : Type 0 where
  pub begins : came < size
  pub ends : size ≤ came + length part
  pub small : 3 ≤ size
  pub low : at + size ≤ 2 ^ 48
  pub turn : in_turn e stage ≡ true
  pub is : (later : List ℕ) → next_of at (joined kept came part later) stage ≡ GoesOn e size

-- It is not finished: so many of its bytes have come now, and the log is read from there as before.
pub record KeptOn (at : ℕ) (stage : Stage) (kept : List ℕ) (came : ℕ) (part : List ℕ) (now : ℕ) (after : List ℕ)
    : Type 0 where
  pub moves : came < now
  pub ends : now ≤ came + length part
  pub fit : next_in at after now stage ≡ Unfinished now
  pub same : length after ≡ length kept
  pub is : (later : List ℕ) → read_from at (joined kept came part later) stage
      ≡ read_from at (joined after now (drop (now - came) part) later) stage

pub record ReadOn (at : ℕ) (stage : Stage) (kept : List ℕ) (came : ℕ) (part : List ℕ) (next : Next) (after : List ℕ)
    : Type 0 where
  pub goes : (e : Event) (size : ℕ) → next ≡ GoesOn e size → GoesOnWith at stage kept came part e size
  pub ends : (e : End) → next ≡ Ends e → (later : List ℕ) → next_of at (joined kept came part later) stage ≡ Ends e
  pub more : (now : ℕ) → next ≡ Unfinished now → KeptOn at stage kept came part now after
  -- what is kept has its room, whatever was known
  pub room : length after ≡ length kept
