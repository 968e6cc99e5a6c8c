-- The whole log: a row of fields, and its end.
use Rattle.std.specs.Prelude.{◌≡◌, true, false, cond, ◌&&◌, List, [], ◌∷◌, ℕ, zero, suc, ◌+◌, ◌^◌, ◌<◌, ◌≤◌, eqb}
use Rattle.std.specs.Prelude.{length, drop}
use Rattle.log_bytes.specs.declared.Event.{Event}
use Rattle.log_bytes.specs.declared.Event.TheVariants.{Largest}
use Rattle.log_bytes.specs.declared.Stage.{Stage}
use Rattle.log_bytes.specs.declared.Stage.TheVariants.{BeforeL}
use Rattle.log_bytes.specs.declared.End.{End}
use Rattle.log_bytes.specs.declared.End.TheVariants.{Whole as whole, Broken as broken, Long as long}
use Rattle.log_bytes.specs.declared.Next.{Next}
use Rattle.log_bytes.specs.declared.Next.TheVariants.{GoesOn, Ends, Unfinished}
use Rattle.log_bytes.specs.Format.{is_l, past_l, stage_after, next_in}

-- A whole field: the offset of its first byte, what it says, and the offset after it.
pub record WholeField : Type 0 where
  pub offset : ℕ
  pub event : Event
  pub next : ℕ

pub record Reading : Type 0 where
  pub fields : List WholeField
  pub ends : End

abbrev pub only : End → Reading
only e = record { fields = []; ends = e }

abbrev pub and_then : WholeField → Reading → Reading
and_then f r = record { fields = f ∷ r.fields; ends = r.ends }

-- THE END OF A LOG, where no byte comes any more and so many have come of the field at an offset: it ends whole if none
-- has, and only after L, since an empty log has no L; a cut field breaks it. No other definition asks how a log ends.
unfoldable pub end_in : (at came : ℕ) → Stage → End
end_in at came stage = cond (past_l stage && eqb came 0) whole (broken at)

-- What stands at an offset, if these bytes are all that follow.
unfoldable pub next_of : (at : ℕ) (bytes : List ℕ) → Stage → Next
next_of at bytes stage = next_in at bytes (length bytes) stage

-- A whole field is followed by the reading from its end, in the stage after it; one that is not finished by the end.
abbrev pub follow : (rest : ℕ → List ℕ → Stage → Reading) (at : ℕ) (bytes : List ℕ) → Stage → Next → Reading
follow rest at bytes stage (GoesOn e size) =
    and_then (record { offset = at; event = e; next = at + size })
    (rest (at + size) (drop size bytes) (stage_after stage e))
follow rest at bytes stage (Ends e) = only e
follow rest at bytes stage (Unfinished came) = only (end_in at came stage)

-- The reading of these bytes, the first of which has this offset: of at most n fields and the end.
unfoldable pub read_up_to : (n at : ℕ) (bytes : List ℕ) → Stage → Reading
read_up_to zero at bytes stage = only (broken at)
read_up_to (suc n) at bytes stage = follow (read_up_to n) at bytes stage (next_of at bytes stage)

-- There are fewer fields than bytes.
unfoldable pub read_from : (at : ℕ) (bytes : List ℕ) → Stage → Reading
read_from at bytes stage = read_up_to (suc (length bytes)) at bytes stage

unfoldable pub read_log : (log : List ℕ) → Reading
read_log log = read_from 0 log BeforeL

-- The same without a count, as what holds of a reading: these fields with this end are those of the bytes.
abbrev pub EndsWith : (at : ℕ) → Stage → Next → End → Type 0
EndsWith at stage (GoesOn e size) end = ⊥
EndsWith at stage (Ends e) end = e ≡ end
EndsWith at stage (Unfinished came) end = end_in at came stage ≡ end

abbrev pub Reads : (at : ℕ) (bytes : List ℕ) → Stage → List WholeField → End → Type 0
Reads at bytes stage [] e = EndsWith at stage (next_of at bytes stage) e
Reads at bytes stage (f ∷ fs) e =
    (f.offset ≡ at)
    × ((size : ℕ) × ((f.next ≡ at + size)
    × ((next_of at bytes stage ≡ GoesOn f.event size)
    × Reads f.next (drop size bytes) (stage_after stage f.event) fs e)))

abbrev pub IsReading : (log : List ℕ) → Reading → Type 0
IsReading log r = Reads 0 log BeforeL r.fields r.ends

-- Each field begins where the one before ended, and has bytes of its own.
abbrev pub InRow : (at : ℕ) → List WholeField → Type 0
InRow at [] = Unit {0}
InRow at (f ∷ fs) = (f.offset ≡ at) × ((at < f.next) × InRow f.next fs)

-- The offset after the last of the fields.
abbrev pub end_of : (at : ℕ) → List WholeField → ℕ
end_of at [] = at
end_of at (f ∷ fs) = end_of f.next fs

-- The stage after these fields.
abbrev pub stage_of : Stage → List WholeField → Stage
stage_of stage [] = stage
stage_of stage (f ∷ fs) = stage_of (stage_after stage f.event) fs

-- None of the fields is L.
abbrev pub NoL : List WholeField → Type 0
NoL [] = Unit {0}
NoL (f ∷ fs) = (is_l f.event ≡ false) × NoL fs

-- The first field is L in its range, and no other is.
abbrev pub LFirst : List WholeField → Type 0
LFirst [] = Unit {0}
LFirst (f ∷ fs) = ((l : ℕ) × ((f.event ≡ Largest l) × ((64 ≤ l) × (l ≤ 2048)))) × NoL fs

-- What a reading is like. It ends whole exactly where its last field ends at the log's end, broken at the offset of the
-- first field that is not whole, and long only if the log has over 2^48 bytes.
pub record RowOf (s : List ℕ) (r : Reading) : Type 0 where
  pub rises : InRow 0 r.fields
  pub first : LFirst r.fields
  pub ended : r.ends ≡ whole → (past_l (stage_of BeforeL r.fields) ≡ true) × (end_of 0 r.fields ≡ length s)
  pub reached : past_l (stage_of BeforeL r.fields) ≡ true → end_of 0 r.fields ≡ length s → r.ends ≡ whole
  pub stopped : (n : ℕ) → r.ends ≡ broken n → n ≡ end_of 0 r.fields
  pub past : r.ends ≡ long → 2 ^ 48 < length s
  pub within : end_of 0 r.fields ≤ 2 ^ 48
