-- HOW A VALUE SPELLS A BOARD: a board of the rules is written as a value, and a value with both tables is read as a
-- board of the rules. A link to place p is p + 1; 0 is no link.
use Rattle.std.specs.Prelude.{◌≡◌, Bool, true, cond, ◌&&◌, List, [], ◌∷◌, map, ℕ, zero, suc, eqb, length, get_or}
use Rattle.std.proofs.Math.Option.{Option, none, some}
use Rattle.base.specs.Tests.{Decides, every, same_list}
use Rattle.bits.specs.Sets.{set_below}
use Rattle.rules.specs.Board
use Rattle.rules.specs.Board.{Record, Stand, out, queued, serving, Place, free_place, at, entry, block_class, active}
use Rattle.rules.specs.Board.{pending}
use Rattle.rules.specs.Choice.{left_of}
use Rattle.rules.specs.Spoilt.{ready_num, unspoilt}
use Rattle.board.specs.declared.Board as struct

-- the values of f at 0, 1, .., n - 1
unfoldable pub tab : {A : Type 0} (n : ℕ) (f : ℕ → A) → List A
tab zero f = []
tab (suc n) f = f 0 ∷ tab n (λ i. f (suc i))

-- ---- WRITING

-- the link to the first and to the last of a list of places, and to the one behind p
abbrev pub first_link : (order : List ℕ) → ℕ
first_link [] = 0
first_link (p ∷ ps) = suc p

unfoldable pub last_link : (order : List ℕ) → ℕ
last_link [] = 0
last_link (p ∷ []) = suc p
last_link (p ∷ (q ∷ qs)) = last_link (q ∷ qs)

unfoldable pub behind : (p : ℕ) (order : List ℕ) → ℕ
behind p [] = 0
behind p (q ∷ qs) = cond (eqb p q) (first_link qs) (behind p qs)

-- the slot's mark, and what is left of the slot
abbrev pub slot_link : (slot : Option ℕ) → ℕ
slot_link none = 0
slot_link (some p) = suc p

abbrev pub slot_left : List Place → (slot : Option ℕ) → ℕ
slot_left places none = 0
slot_left places (some p) = left_of (get_or places p free_place).stand

unfoldable pub encode : Board.Board → struct.Board
encode m =
    record {
      numbers = map (λ (x : Place). x.number) m.places;
      shares = map (λ (x : Place). x.share) m.places;
      deficits = map (λ (x : Place). x.deficit) m.places;
      starts = map (λ (x : Place). x.start) m.places;
      counts = map (λ (x : Place). length x.lane) m.places;
      ready = map (λ (x : Place). ready_num x.stand) m.places;
      next = tab 64 (λ i. behind i (m.orders (block_class (at m i))));
      heads = tab 17 (λ k. first_link (m.orders k));
      tails = tab 17 (λ k. last_link (m.orders k));
      held = tab 17 m.held;
      largest = m.largest;
      clock = m.clock;
      active = set_below 17 (active m);
      pending = set_below 17 (pending m);
      slot = slot_link m.slot;
      left = record { 0 = slot_left m.places m.slot };
    }

-- ---- READING

-- the record in an entry of both tables; the lane of so many records of place p, which is x
abbrev pub record_at : (ids lens : List ℕ) (e : ℕ) → Record
record_at ids lens e = record { number = get_or ids e 0; bytes = get_or lens e 0 }

unfoldable pub lane_of : (ids lens : List ℕ) (p : ℕ) → Place → (count : ℕ) → List Record
lane_of ids lens p x count = tab count (λ j. record_at ids lens (entry p x j))

-- where the block of place p stands: out with an empty lane, serving with the slot's mark, else in its class's order
unfoldable pub stand_by : (p count slot left ready : ℕ) → Stand
stand_by p count slot left ready = cond (eqb count 0) out (cond (eqb slot (suc p)) (serving left) (queued ready))

-- place p without its lane
unfoldable pub bare_of : struct.Board → (p : ℕ) → Place
bare_of b p =
    record {
      number = get_or b.numbers p 0;
      share = get_or b.shares p 0;
      start = get_or b.starts p 0;
      lane = [];
      deficit = get_or b.deficits p 0;
      stand = stand_by p (get_or b.counts p 0) b.slot b.left.0 (get_or b.ready p 0);
    }

unfoldable pub place_of : struct.Board → (ids lens : List ℕ) (p : ℕ) → Place
place_of b ids lens p =
    let x = bare_of b p in
    record {
      number = x.number;
      share = x.share;
      start = x.start;
      lane = lane_of ids lens p x (get_or b.counts p 0);
      deficit = x.deficit;
      stand = x.stand;
    }

-- the places from the link h on, at most n of them
unfoldable pub follow : (next : List ℕ) (n h : ℕ) → List ℕ
follow next zero h = []
follow next (suc n) zero = []
follow next (suc n) (suc p) = p ∷ follow next n (get_or next p 0)

abbrev pub slot_by : (link : ℕ) → Option ℕ
slot_by zero = none
slot_by (suc p) = some p

unfoldable pub view : struct.Board → (ids lens : List ℕ) → Board.Board
view b ids lens =
    record {
      largest = b.largest;
      clock = b.clock;
      places = tab 64 (place_of b ids lens);
      orders = λ k. follow b.next 64 (get_or b.heads k 0);
      slot = slot_by b.slot;
      held = λ k. get_or b.held k 0;
    }

-- the tables hold the lanes of the board
abbrev pub Holds : Board.Board → (ids lens : List ℕ) → Type 0
Holds m ids lens = (i : ℕ) → (at m i).lane ≡ lane_of ids lens i (at m i) (length (at m i).lane)

-- what the arrays' types say of every value
pub record Sized (b : struct.Board) : Type 0 where
  pub numbers : length b.numbers ≡ 64
  pub shares : length b.shares ≡ 64
  pub deficits : length b.deficits ≡ 64
  pub starts : length b.starts ≡ 64
  pub counts : length b.counts ≡ 64
  pub ready : length b.ready ≡ 64
  pub next : length b.next ≡ 64
  pub heads : length b.heads ≡ 17
  pub tails : length b.tails ≡ 17
  pub held : length b.held ≡ 17

-- ---- NOT SPOILT: the value is what is written of the board that is read from it, and that board breaks no clause

pub record Sound (b : struct.Board) (ids lens : List ℕ) : Type 0 where
  pub spells : encode (view b ids lens) ≡ b
  pub keeps : unspoilt (view b ids lens) ≡ true

-- The same as a test, field by field. (The box computes another test, which a theorem ties to `Sound`.)
abbrev pub alike_in_each : struct.Board → struct.Board → List Bool
alike_in_each a b =
    same_list a.numbers b.numbers
    ∷ same_list a.shares b.shares
    ∷ same_list a.deficits b.deficits
    ∷ same_list a.starts b.starts
    ∷ same_list a.counts b.counts
    ∷ same_list a.ready b.ready
    ∷ same_list a.next b.next
    ∷ same_list a.heads b.heads
    ∷ same_list a.tails b.tails
    ∷ same_list a.held b.held
    ∷ eqb a.largest b.largest
    ∷ eqb a.clock b.clock
    ∷ eqb a.active b.active
    ∷ eqb a.pending b.pending
    ∷ eqb a.slot b.slot
    ∷ eqb a.left.0 b.left.0
    ∷ []

-- the value spells a board
unfoldable pub is_spelt : struct.Board → (ids lens : List ℕ) → Bool
is_spelt b ids lens = every (alike_in_each (encode (view b ids lens)) b)

unfoldable pub is_sound : struct.Board → (ids lens : List ℕ) → Bool
is_sound b ids lens = is_spelt b ids lens && unspoilt (view b ids lens)

-- They are what they are called.
abbrev pub SpeltDecides : Type 0
SpeltDecides = (b : struct.Board) (ids lens : List ℕ) → Decides (is_spelt b ids lens) (encode (view b ids lens) ≡ b)

abbrev pub IsSoundDecides : Type 0
IsSoundDecides = (b : struct.Board) (ids lens : List ℕ) → Decides (is_sound b ids lens) (Sound b ids lens)
