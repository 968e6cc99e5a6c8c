-- THE LISTING OF A LOG IN A BUFFER
use Rattle.std.specs.Prelude.{◌≡◌, true, ◌⊎◌, List, ◌++◌, ℕ, ◌≤◌, ◌<◌, length, take, drop}
use Rattle.lines.specs.Text.{Line}
use Rattle.listing_rules.specs.Listing.{listing_of}
use Rattle.player.specs.declared.State.{State}
use Rattle.player.specs.Feeding.{Piece, held, rest_of, feed_code}

-- The first bytes are those of the listing and all others are as they were; they are the whole listing where it has
-- room, and each piece has room for a line.
pub record Listed (log piece out : List ℕ) (count : ℕ) (after : List ℕ) : Type 0 where
  pub front : Line out (take count (listing_of log)) count after
  pub whole : 64 ≤ length piece → length (listing_of log) ≤ length out → count ≡ length (listing_of log)

-- A piece of the listing of a log that is all here: what it writes and what is then left is what was left before. It
-- takes something, or the listing is over.
pub record Moved (s : State) (ids lens rest piece : List ℕ) (r : Piece) (ids' lens' piece' : List ℕ) : Type 0 where
  pub within : r.taken ≤ length rest
  pub fits : r.used ≤ length piece
  pub joined : take r.used piece' ++ rest_of (held r.state ids' lens') (drop r.taken rest)
      ≡ rest_of (held s ids lens) rest
  pub goes_on : feed_code r.state ids' lens' ≡ 0
  pub moves : (r.state.over ≡ true) ⊎ (0 < r.taken)
