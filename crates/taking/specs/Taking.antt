-- WORKING DEFINITIONS: joining an order and taking a record, on the board's lists. Theorems tie them to the rules; no
-- promise of a call cites one.
use Rattle.std.specs.Prelude.{cond, ◌||◌, ◌≡◌, List, ℕ, ◌+◌, ◌-◌, ◌^◌, ◌≤◌, ◌<◌, ltb, leb, eqb, get_or, set, length}
use Rattle.std.specs.Prelude.{Result, Ok, Err}
use Rattle.bits.specs.Sets.{with_bit}
use Rattle.units.specs.Classes.{class_of, next_start}
use Rattle.lanes.specs.Lanes.{lane_depth, lane_entry}
use Rattle.board.specs.Memory.{Orders, Taking, taking, Seen}
use Rattle.rules.specs.Choice.{Taken}
use Rattle.finding.specs.Finding.{found_in, by_found}
use Rattle.numbers.specs.declared.refusal.Refusal.{Refusal}
use Rattle.taking.specs.declared.Taken as struct

-- ---- JOINING

unfoldable pub joined_orders : Orders → (place k time : ℕ) → Orders
joined_orders o place k time =
    let first = eqb (get_or o.tails k 0) 0 in
    record {
      next = set (cond first o.next (set o.next (get_or o.tails k 0 - 1) (place + 1))) place 0;
      heads = cond first (set o.heads k (place + 1)) o.heads;
      tails = set o.tails k (place + 1);
      ready = set o.ready place time;
      active = with_bit o.active k;
    }

-- ---- TAKING

-- the place has one record more
unfoldable pub taken_at : (shares : List ℕ) (clock place : ℕ) → Taking → Taking
taken_at shares clock place t =
    let k = class_of (get_or shares place 0) in
    taking (set t.counts place (get_or t.counts place 0 + 1))
    (cond (eqb (get_or t.counts place 0) 0) (joined_orders t.orders place k (next_start k clock)) t.orders)

-- what the lists must have for a record to be taken at place i
pub record TakeNeeds (shares counts tails : List ℕ) (clock i : ℕ) : Type 0 where
  pub place : i < 64
  pub room : get_or counts i 0 < lane_depth
  pub low : 1 ≤ get_or shares i 0
  pub high : get_or shares i 0 ≤ 65536
  pub time : clock ≤ 2 ^ 62
  pub last : (k : ℕ) → k < 17 → get_or tails k 0 ≤ 64

-- ---- A RECORD COMES, with its codes

-- what must hold of the lists for any number: a place with a number has a share
pub record RecordNeeds (x : Seen) (tails : List ℕ) (clock : ℕ) (ids lens : List ℕ) : Type 0 where
  pub low : (i : ℕ) → 1 ≤ get_or x.numbers i 0 → 1 ≤ get_or x.shares i 0
  pub high : (i : ℕ) → get_or x.shares i 0 ≤ 65536
  pub time : clock ≤ 2 ^ 62
  pub last : (k : ℕ) → k < 17 → get_or tails k 0 ≤ 64
  pub ids_all : length ids ≡ 2048
  pub lens_all : length lens ≡ 2048

-- what it leaves, and what it tells, in the rules' words
pub record Recording : Type 0 where
  pub code : ℕ
  pub tells : Taken
  pub taking : Taking
  pub ids : List ℕ
  pub lens : List ℕ

abbrev pub recording : (code : ℕ) → Taken → Taking → (ids lens : List ℕ) → Recording
recording code tells t ids lens = record { code = code; tells = tells; taking = t; ids = ids; lens = lens }

-- a refusal tells of no record
abbrev pub no_taken : Taken
no_taken = record { place = 0; entry = 0; before = 0 }

-- what the answer of the code tells
abbrev pub tells_in : Result struct.Taken Refusal → Taken
tells_in (Ok t) = record { place = t.place; entry = t.entry; before = t.before }
tells_in (Err refusal) = no_taken

-- it comes for the block at this place, and goes to the entry behind the last record there
abbrev pub recorded_at : Seen → (clock id len : ℕ) → Taking → (ids lens : List ℕ) (place : ℕ) → Recording
recorded_at x clock id len t ids lens place =
    let before = get_or t.counts place 0 in
    let e = lane_entry place (get_or x.starts place 0) before in
    let tells : Taken = record { place = place; entry = e; before = before } in
    cond (leb lane_depth before) (recording 9 no_taken t ids lens)
    (recording 0 tells (taken_at x.shares clock place t) (set ids e id) (set lens e len))

unfoldable pub recorded_in : Seen → (largest clock number id len : ℕ) → Taking → (ids lens : List ℕ) → Recording
recorded_in x largest clock number id len t ids lens =
    cond (eqb number 0 || (eqb len 0 || ltb largest len)) (recording 4 no_taken t ids lens)
    (by_found (found_in x.numbers number) (recorded_at x clock id len t ids lens) (recording 6 no_taken t ids lens))
