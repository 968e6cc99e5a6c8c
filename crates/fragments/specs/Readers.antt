-- A READER: what is kept of a field that is not finished, and what a part of the log makes of it.
use Rattle.std.specs.Prelude.{List, ℕ, ◌+◌, replicate, Option, None, Some, Result, Ok, Err}
use Rattle.log_bytes.specs.declared.Event.{Event}
use Rattle.log_bytes.specs.declared.Stage.TheVariants.{BeforeL}
use Rattle.log_bytes.specs.declared.End.{End}
use Rattle.log_bytes.specs.declared.Next.{Next}
use Rattle.log_bytes.specs.declared.Next.TheVariants.{GoesOn, Ends, Unfinished}
use Rattle.log_bytes.specs.Format.{stage_after}
use Rattle.fragments.specs.declared.Reader.{Reader}
use Rattle.fragments.specs.declared.Read.{Read}

-- before a log's first byte
abbrev pub before_log : Reader
before_log = record { stage = BeforeL; at = 0; came = 0; kept = replicate 13 0 }

-- the same field, with other bytes kept
abbrev pub keeping : Reader → (kept : List ℕ) → Reader
keeping r kept = record { stage = r.stage; at = r.at; came = r.came; kept = kept }

-- so many of its bytes have come
abbrev pub cut_at : Reader → (now : ℕ) (kept : List ℕ) → Reader
cut_at r now kept = record { stage = r.stage; at = r.at; came = now; kept = kept }

-- It says this, and has so many bytes: none of the next has come.
abbrev pub at_next : Reader → Event → (size : ℕ) (kept : List ℕ) → Reader
at_next r e size kept = record { stage = stage_after r.stage e; at = r.at + size; came = 0; kept = kept }

-- what is known of a field of which so many bytes have come, by what it says where it is whole
abbrev pub next_by : Option Event → (now : ℕ) → Next
next_by None now = Unfinished now
next_by (Some e) now = GoesOn e now

-- the same by what a call answers that reads on behind so many bytes
abbrev pub next_told : Result Read End → (came : ℕ) → Next
next_told (Ok read) came = next_by read.event (came + read.taken)
next_told (Err e) came = Ends e

abbrev pub after_by : Option Event → (now : ℕ) → Reader → (kept : List ℕ) → Reader
after_by None now r kept = cut_at r now kept
after_by (Some e) now r kept = at_next r e now kept

-- and the reader after it; where the log ends it is as it was
abbrev pub after_read : Result Read End → Reader → (kept : List ℕ) → Reader
after_read (Ok read) r kept = after_by read.event (r.came + read.taken) r kept
after_read (Err e) r kept = r
