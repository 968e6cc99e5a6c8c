-- WHAT IS PROVED of the listing: one field and the listing of what follows it, and the worked log's.
use Rattle.std.specs.Prelude.{◌≡◌, true, List, [], ◌++◌, ℕ, ◌+◌, ◌<◌, drop}
use Rattle.log_bytes.specs.declared.Stage.{Stage}
use Rattle.log_bytes.specs.declared.Stage.TheVariants.{BeforeL}
use Rattle.log_bytes.specs.declared.Event.{Event}
use Rattle.log_bytes.specs.declared.End.{End}
use Rattle.log_bytes.specs.declared.End.TheVariants.{Broken as broken, Long as long}
use Rattle.log_bytes.specs.declared.Next.TheVariants.{GoesOn, Ends, Unfinished}
use Rattle.log_bytes.specs.Format.{past_l, stage_after}
use Rattle.log_bytes.specs.Rows.{end_in, next_of}
use Rattle.log_bytes.specs.Worked.{worked_log}
use Rattle.lines.specs.Listing.{end_line, broken_line, long_line}
use Rattle.lines.specs.Worked.{worked_bytes}
use Rattle.listing_rules.specs.Listing.{Playing, unmade, played, field_line, waiting, last_line, listing_from}
use Rattle.listing_rules.specs.Listing.{listing_of}

-- A whole field gives its line, and the listing goes on from its end.
abbrev pub ListingWhole : Type 0
ListingWhole = (p : Playing) (at : ℕ) (bytes : List ℕ) (stage : Stage) (e : Event) (size : ℕ)
    → next_of at bytes stage ≡ GoesOn e size
    → listing_from p at bytes stage
    ≡ field_line p e ++ listing_from (played p e) (at + size) (drop size bytes) (stage_after stage e)

-- Where the log ends there is the last line, and nothing after it.
abbrev pub ListingEnds : Type 0
ListingEnds = (p : Playing) (at : ℕ) (bytes : List ℕ) (stage : Stage) (e : End)
    → next_of at bytes stage ≡ Ends e → listing_from p at bytes stage ≡ last_line p e

abbrev pub ListingCut : Type 0
ListingCut = (p : Playing) (at : ℕ) (bytes : List ℕ) (stage : Stage) (came : ℕ)
    → next_of at bytes stage ≡ Unfinished came → listing_from p at bytes stage ≡ last_line p (end_in at came stage)

-- At the log's end `end` shows clock, bytes sent and records waiting; a broken or a cut field gives `broken N`, and a
-- byte with offset 2^48 gives `long`. Before that line stand those of the fields before it, as for every log.
abbrev pub ListingEnd : Type 0
ListingEnd = (p : Playing) (at : ℕ) (stage : Stage) → past_l stage ≡ true
    → listing_from p at [] stage ≡ end_line p.board.clock p.sent (waiting p.board)

abbrev pub ListingBroken : Type 0
ListingBroken = (p : Playing) (at : ℕ) (bytes : List ℕ) (stage : Stage) (n : ℕ)
    → next_of at bytes stage ≡ Ends (broken n) → listing_from p at bytes stage ≡ broken_line n

abbrev pub ListingPart : Type 0
ListingPart = (p : Playing) (at : ℕ) (bytes : List ℕ) (stage : Stage) (came : ℕ)
    → next_of at bytes stage ≡ Unfinished came → 0 < came → listing_from p at bytes stage ≡ broken_line at

abbrev pub ListingLong : Type 0
ListingLong = (p : Playing) (at : ℕ) (bytes : List ℕ) (stage : Stage)
    → next_of at bytes stage ≡ Ends long → listing_from p at bytes stage ≡ long_line

-- A log is read from its first byte.
abbrev pub ListingFirst : Type 0
ListingFirst = (log : List ℕ) → listing_of log ≡ listing_from unmade 0 log BeforeL

-- The listing of document 01's worked log, byte for byte.
abbrev pub WorkedLogListed : Type 0
WorkedLogListed = listing_of worked_log ≡ worked_bytes
