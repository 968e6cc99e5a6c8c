-- THE LISTING FROM FRAGMENTS: what a call writes, joined with what is left after it, is what was left before it.
use Rattle.std.specs.Prelude.{◌≡◌, Bool, true, false, cond, not, ◌&&◌, ◌||◌, ◌≢◌, ◌⊎◌, List, [], ◌++◌, ℕ, ◌+◌, ◌-◌, ◌/◌}
use Rattle.std.specs.Prelude.{◌^◌, ◌≤◌, ◌<◌, ltb, length, Result, Ok, Err}
use Rattle.numbers.specs.declared.refusal.Refusal.{Refusal}
use Rattle.numbers.specs.Codes.{refusal_code}
use Rattle.operands.specs.declared.Fed.{Fed}
use Rattle.rules.specs.Board.{fresh}
use Rattle.rules.specs.Calls.{wrong_tables}
use Rattle.board.specs.Reading.{encode, is_sound}
use Rattle.log_bytes.specs.declared.Next.TheVariants.{Unfinished}
use Rattle.log_bytes.specs.Format.{past_l, next_in}
use Rattle.fragments.specs.Kept.{kept_bytes, is_fit}
use Rattle.fragments.specs.Readers.{before_log}
use Rattle.fragments.specs.Feeding.{Told, Closed, Telling}
use Rattle.listing_rules.specs.Listing.{Playing, unmade, listing_from, listing_of}
use Rattle.fields.specs.Fields.{memory, reads, KnownMemory}
use Rattle.player.specs.declared.State.{State}

-- before the first fragment: L has not been read, and there is no board yet
abbrev pub before_first : State
before_first =
    record {
      reader = before_log;
      over = false;
      sent = record { 0 = 0 };
      board = encode (fresh 0);
    }

-- ---- What stands in memory between two calls

pub record Held : Type 0 where
  pub state : State
  pub ids : List ℕ
  pub lens : List ℕ

abbrev pub held : State → (ids lens : List ℕ) → Held
held s ids lens = record { state = s; ids = ids; lens = lens }

-- as the listing's definition reads it; before L there is no board
abbrev pub playing : Held → Playing
playing h =
    let s = h.state in
    cond (past_l s.reader.stage) (reads (memory s.board h.ids h.lens s.sent.0)) unmade

-- what of the listing is still to be written, if these bytes follow and the log then ends
unfoldable pub rest_of : Held → (later : List ℕ) → List ℕ
rest_of h later =
    let s = h.state in
    cond s.over [] (listing_from (playing h) s.reader.at
    (kept_bytes s.reader.kept s.reader.came ++ later) s.reader.stage)

abbrev pub is_over : Held → Bool
is_over h = h.state.over

-- the offset of the byte that comes next
abbrev pub offset_of : State → ℕ
offset_of s = s.reader.at + s.reader.came

-- ---- What is tested

-- What is kept is no part of a field, or its offset is past 2^48; and after L there are more bytes sent than the fields
-- before that offset can have sent, or the board is spoilt: no call leaves such a state.
abbrev pub unfit : State → (ids lens : List ℕ) → Bool
unfit s ids lens =
    not (is_fit s.reader.at s.reader.kept s.reader.came s.reader.stage)
    || (past_l s.reader.stage && (ltb (s.reader.at / 3) (s.sent.0 / 65536) || not (is_sound s.board ids lens)))

-- A table of another length is 3. Where the listing is not over, an unfit state is 2.
unfoldable pub feed_code : State → (ids lens : List ℕ) → ℕ
feed_code s ids lens =
    cond (wrong_tables (length ids) (length lens)) 3 (cond s.over 0 (cond (unfit s ids lens) 2 0))

-- what is known of a state from which a listing goes on
pub record CanGoOn (s : State) (ids lens : List ℕ) : Type 0 where
  pub going : s.over ≡ false
  pub fit : next_in s.reader.at s.reader.kept s.reader.came s.reader.stage ≡ Unfinished s.reader.came
  pub low : s.reader.at ≤ 2 ^ 48
  pub room : length s.reader.kept ≡ 13
  pub ids_all : length ids ≡ 2048
  pub lens_all : length lens ≡ 2048
  pub few : past_l s.reader.stage ≡ true → s.sent.0 / 65536 ≤ s.reader.at / 3
  pub good : past_l s.reader.stage ≡ true → KnownMemory (memory s.board ids lens s.sent.0)

-- ---- What a call does

-- A piece of a listing: the code of a refusal, or 0; how many bytes of the fragment were taken, and how many were
-- written; and the state to go on from.
pub record Piece : Type 0 where
  pub code : ℕ
  pub taken : ℕ
  pub used : ℕ
  pub state : State

-- what a call that is not refused tells, and the state after it
abbrev pub piece : Fed → State → Piece
piece fed s = record { code = 0; taken = fed.taken; used = fed.used; state = s }

-- what any call answers, and the state after it; a refusal takes and writes nothing
abbrev pub piece_in : Result Fed Refusal → State → Piece
piece_in (Ok fed) s = piece fed s
piece_in (Err refusal) s = record { code = refusal_code refusal; taken = 0; used = 0; state = s }

-- Nothing is written, and the state is as it was.
abbrev pub stayed : (code taken : ℕ) → State → Piece
stayed code taken s = record { code = code; taken = taken; used = 0; state = s }

-- The listing is over.
abbrev pub ended_state : State → State
ended_state s = record { reader = s.reader; over = true; sent = s.sent; board = s.board }

abbrev pub ended_piece : (taken used : ℕ) → State → Piece
ended_piece taken used s = record { code = 0; taken = taken; used = used; state = ended_state s }

-- what a call with a fragment does that is not refused
pub record FeedDone (s : State) (ids lens fragment out : List ℕ) (r : Piece) (ids' lens' out' : List ℕ) : Type 0 where
  pub done : r.code ≡ 0
  pub told : Told rest_of (held s ids lens) fragment out r.taken r.used (held r.state ids' lens') out'
  -- the next call is not refused: what is kept is a field that is not finished, so each whole one has its line
  pub goes_on : feed_code r.state ids' lens' ≡ 0
  -- All is taken, unless there is no room for another line, or L was not read before. With room for a line and a byte
  -- in the fragment, something is taken; and the offset moves on by what is taken.
  pub all : (r.taken ≡ length fragment) ⊎ ((length out - r.used < 64) ⊎ (past_l s.reader.stage ≡ false))
  pub moves : 64 ≤ length out → 0 < length fragment → 0 < r.taken
  pub onward : r.state.over ≡ false → offset_of r.state ≡ offset_of s + r.taken

-- THE PROMISE of a call with a fragment, for every state, table, fragment and buffer
pub record FeedOf (s : State) (ids lens fragment out : List ℕ) (r : Piece) (ids' lens' out' : List ℕ) : Type 0 where
  pub code : r.code ≡ feed_code s ids lens
  pub refused : r.code ≢ 0 → (r ≡ stayed r.code 0 s) × ((ids' ≡ ids) × ((lens' ≡ lens) × (out' ≡ out)))
  pub done : r.code ≡ 0 → FeedDone s ids lens fragment out r ids' lens' out'

-- what a call at the log's end does that is not refused; with room for a line the listing is then over
pub record CloseDone (s : State) (ids lens out : List ℕ) (r : Piece) (out' : List ℕ) : Type 0 where
  pub done : r.code ≡ 0
  pub none : r.taken ≡ 0
  pub closed : Closed rest_of (held s ids lens) out r.used (held r.state ids lens) out'
  pub goes_on : feed_code r.state ids lens ≡ 0
  pub ends : 64 ≤ length out → r.state.over ≡ true

-- THE PROMISE of a call at the log's end, for every state, table and buffer
pub record CloseOf (s : State) (ids lens out : List ℕ) (r : Piece) (out' : List ℕ) : Type 0 where
  pub code : r.code ≡ feed_code s ids lens
  pub refused : r.code ≢ 0 → (r ≡ stayed r.code 0 s) × (out' ≡ out)
  pub done : r.code ≡ 0 → CloseDone s ids lens out r out'

-- ---- The whole listing

-- However the log is cut, what the calls write, joined, is its listing.
abbrev pub FeedsListing : Type 0
FeedsListing = (log ids lens written : List ℕ)
    → Telling rest_of is_over (held before_first ids lens) log written → written ≡ listing_of log
