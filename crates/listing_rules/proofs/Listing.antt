-- Laws of the listing, by which a player goes: one field and the listing of what follows it. Assumes nothing.
use mathlib.Core.Path.{refl, ap, ◌∙◌}
use mathlib.Core.List.{List, []}
use Prim.Native.Nat.{ℕ}
use Rattle.log_bytes.specs.declared.End.{End}
use Rattle.log_bytes.specs.declared.End.TheVariants.{Broken as broken, Long as long}
use Rattle.log_bytes.specs.Rows.{Reading, next_of, read_log}
use Rattle.log_bytes.proofs.Wholes.{none_come}
use Rattle.log_bytes.proofs.Readings.{read_whole, read_ends, read_cut, end_here, end_cut}
use Rattle.listing_rules.specs.Listing.{Playing, last_line, lines_of, listing_of}
use Rattle.listing_rules.specs.Laws.{ListingWhole, ListingEnds, ListingCut, ListingEnd, ListingBroken, ListingPart, ListingLong, ListingFirst}

-- the listing of a reading
abbrev listed : Playing → Reading → List ℕ
listed p r = lines_of p r.fields r.ends

-- a whole field gives its line, and the listing goes on from its end
pub listing_whole : ListingWhole
unfolding lines_of
listing_whole p at bytes stage e size h = ap (listed p) (read_whole at bytes stage e size h)

-- the log's end gives the last line
pub listing_ends : ListingEnds
unfolding lines_of
listing_ends p at bytes stage e h = ap (listed p) (read_ends at bytes stage e h)

pub listing_cut : ListingCut
unfolding lines_of
listing_cut p at bytes stage came h = ap (listed p) (read_cut at bytes stage came h)

pub listing_end : ListingEnd
unfolding next_of
listing_end p at stage h = listing_cut p at [] stage 0 (none_come at [] stage) ∙ ap (λ (e : End). last_line p e) (end_here at stage h)

pub listing_broken : ListingBroken
listing_broken p at bytes stage n h = listing_ends p at bytes stage (broken n) h

pub listing_part : ListingPart
listing_part p at bytes stage came h l = listing_cut p at bytes stage came h ∙ ap (λ (e : End). last_line p e) (end_cut at came stage l)

pub listing_long : ListingLong
listing_long p at bytes stage h = listing_ends p at bytes stage long h

-- a log is read from its first byte
pub listing_first : ListingFirst
unfolding listing_of read_log
listing_first log = refl
