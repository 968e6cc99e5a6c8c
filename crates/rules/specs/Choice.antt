-- HOW THE NEXT RECORD IS CHOSEN (document 01, under that heading, rules 1 to 5).
use Rattle.std.specs.Prelude.{Bool, true, false, not, cond, ◌&&◌, ◌||◌, List, [], ◌∷◌, ◌++◌, ℕ, suc, ◌+◌, ◌*◌, ◌-◌, ◌^◌}
use Rattle.std.specs.Prelude.{min, max, leb, ltb, eqb, length, get_or, set, drop}
use Rattle.std.proofs.Math.Option.{Option, none, some}
use Rattle.base.specs.Tests.{least}
use Rattle.units.specs.Classes.{next_start}
use Rattle.units.specs.Credit.{credit_of}
use Rattle.rules.specs.Board.{Record, no_record, bytes_charged, Stand, out, queued, serving, Place, moved, Board}
use Rattle.rules.specs.Board.{at}
use Rattle.rules.specs.Board.{depth, entry, onward, front, block_class, is_open, any_due}

-- ---- What a call does: what comes of it, and the next board

-- a record that was taken: its place, the entry of both tables that it stands in, and how many records stood before it
-- in its lane
pub record Taken : Type 0 where
  pub place : ℕ
  pub entry : ℕ
  pub before : ℕ

-- a record that was sent from the front of a lane: its place, the entry of both tables that it stood in, and the record
-- itself; the clock at which its slot began, and whether the slot began with it; and the parts that were lost
pub record Sending : Type 0 where
  pub place : ℕ
  pub entry : ℕ
  pub front : Record
  pub clock : ℕ
  pub began : Bool
  pub lost : ℕ

pub data Out : Type 0 where
  -- refused, with this code
  refused : (code : ℕ) → Out
  done : Out
  taken : Taken → Out
  sent : Sending → Out

pub record Turn : Type 0 where
  pub out : Out
  pub next : Board

-- A refusal leaves the board as it was.
abbrev pub refuse : Board → (code : ℕ) → Turn
refuse b code = record { out = refused code; next = b }

-- A line of the table: a code, and whether its condition holds.
pub record Check : Type 0 where
  pub code : ℕ
  pub holds : Bool

abbrev pub check : (code : ℕ) (holds : Bool) → Check
check code holds = record { code = code; holds = holds }

-- Checks go down the table: the first that holds refuses with its code; where none holds the turn is done.
abbrev pub guarded : Board → List Check → Turn → Turn
guarded b [] t = t
guarded b (c ∷ cs) t = cond c.holds (refuse b c.code) (guarded b cs t)

-- ---- The open block with a number: what each caller does with an open number and with an unknown one

pub data Found : Type 0 where
  open_at : (p : ℕ) → Found
  unknown : Found

unfoldable pub where_is : Board → (block : ℕ) → ℕ
where_is b block = least (λ p. is_open (at b p) && eqb block (at b p).number) 64

-- an open block has the number (of a rename's new number: itself included)
abbrev pub some_has : Board → (block : ℕ) → Bool
some_has b block = ltb (where_is b block) 64

abbrev pub found_at : (found : Bool) (p : ℕ) → Found
found_at true p = open_at p
found_at false p = unknown

abbrev pub find : Board → (block : ℕ) → Found
find b block = found_at (some_has b block) (where_is b block)

abbrev pub by_found : {A : Type 0} → Found → (is_open : ℕ → A) (isUnknown : A) → A
by_found (open_at p) is_open isUnknown = is_open p
by_found unknown is_open isUnknown = isUnknown

-- ---- Conditions of the table on a number

-- outside its range: any 32-bit number but 0
abbrev pub number_outside : (number : ℕ) → Bool
number_outside number = eqb number 0

-- no open block has that number
abbrev pub none_has : Board → (block : ℕ) → Bool
none_has b block = not (some_has b block)

-- ---- Small steps

-- the function f, with v at k
unfoldable pub upd : {A : Type 0} (f : ℕ → A) (k : ℕ) (v : A) (j : ℕ) → A
upd f k v j = cond (eqb j k) v (f j)

-- one place of the board changed
abbrev pub go_on : Board → (p : ℕ) → Place → Board
go_on b p x =
    record {
      largest = b.largest;
      clock = b.clock;
      places = set b.places p x;
      orders = b.orders;
      slot = b.slot;
      held = b.held;
    }

-- place p, now x, joins the end of its class's order
abbrev pub joining : Board → (p : ℕ) → Place → Board
joining b p x =
    record {
      largest = b.largest;
      clock = b.clock;
      places = set b.places p x;
      orders = upd b.orders (block_class x) (b.orders (block_class x) ++ (p ∷ []));
      slot = b.slot;
      held = b.held;
    }

-- ---- 1. A record comes

-- It goes to the end of its lane.
abbrev pub more : Place → Record → Place
more x r = moved x x.start (x.lane ++ (r ∷ [])) x.deficit x.stand

-- If the lane was empty, the block joins the end of its class's order, with ready time the next start of its class
-- above the present clock.
abbrev pub joins : (clock : ℕ) → Place → Record → Place
joins clock x r = moved x x.start (r ∷ []) x.deficit (queued (next_start (block_class x) clock))

unfoldable pub taken_in : Board → (p : ℕ) → Record → Board
taken_in b p r =
    cond (leb (length (at b p).lane) 0) (joining b p (joins b.clock (at b p) r)) (go_on b p (more (at b p) r))

-- the record is taken at place p
abbrev pub took_at : Board → (p : ℕ) → Record → Turn
took_at b p r =
    let x = at b p in
    let before = length x.lane in
    record { out = taken (record { place = p; entry = entry p x before; before = before }); next = taken_in b p r }

abbrev pub length_outside : Board → (bytes : ℕ) → Bool
length_outside b bytes = eqb bytes 0 || ltb b.largest bytes

-- the lane holds 32 records
abbrev pub lane_full : Place → Bool
lane_full x = leb (depth x) (length x.lane)

abbrev pub record_checks : Board → (block : ℕ) → Record → List Check
record_checks b block r =
    check 4 (number_outside block || length_outside b r.bytes)
    ∷ check 6 (none_has b block)
    ∷ check 9 (lane_full (at b (where_is b block)))
    ∷ []

unfoldable pub take_record : Board → (block : ℕ) → Record → Turn
take_record b block r = guarded b (record_checks b block r) (took_at b (where_is b block) r)

-- ---- 5. A slot that began at t ends

-- A held share goes when the clock, moving on from one time to another, reaches the next start of its class above
-- the first,
unfoldable pub release : (from to : ℕ) (held : ℕ → ℕ) (k : ℕ) → ℕ
release from to held k = cond (leb (next_start k from) to) 0 (held k)

-- the least ready time among the blocks in an order, or none
abbrev pub ready_of : Stand → Option ℕ
ready_of out = none
ready_of (queued ready) = some ready
ready_of (serving left) = none

abbrev pub lesser : Option ℕ → Option ℕ → Option ℕ
lesser none y = y
lesser (some a) none = some a
lesser (some a) (some b) = some (min a b)

unfoldable pub least_ready : List Place → Option ℕ
least_ready [] = none
least_ready (x ∷ xs) = lesser (ready_of x.stand) (least_ready xs)

abbrev pub is_none : {A : Type 0} → Option A → Bool
is_none none = true
is_none (some x) = false

-- or when no block waits: here no slot is open, so none waits when none is in an order.
unfoldable pub settle : List Place → (held : ℕ → ℕ) (k : ℕ) → ℕ
settle places held k = cond (is_none (least_ready places)) 0 (held k)

-- The clock is t + 1; place p is now x, and the orders are these.
unfoldable pub ended : Board → (p : ℕ) → Place → (orders : ℕ → List ℕ) → Board
ended b p x orders =
    record {
      largest = b.largest;
      clock = suc b.clock;
      places = set b.places p x;
      orders = orders;
      slot = none;
      held = settle (set b.places p x) (release b.clock (suc b.clock) b.held);
    }

-- ---- 4. After each send its charge is taken from what is left

abbrev pub left_of : Stand → ℕ
left_of out = 0
left_of (queued ready) = 0
left_of (serving left) = left

-- what is left after the front record's charge
abbrev pub left_after : Place → ℕ
left_after x = left_of x.stand - bytes_charged (front x) * 65536

-- If the lane is now empty, the slot ends and the deficit is 0.
abbrev pub emptied : Place → Place
emptied x = moved x (onward x) [] 0 out

-- If the new front needs more than is left, the slot ends and the deficit is what is left;
-- its block still waits, so it joins the end of its class's order with ready time the next start above t.
abbrev pub short : (t : ℕ) → Place → Place
short t x = moved x (onward x) (drop 1 x.lane) (left_after x) (queued (next_start (block_class x) t))

-- Otherwise the slot stays open.
abbrev pub going : Place → Place
going x = moved x (onward x) (drop 1 x.lane) 0 (serving (left_after x))

unfoldable pub send_from : Board → (p : ℕ) → Board
send_from b p =
    cond (leb (length (at b p).lane) 1) (ended b p (emptied (at b p)) b.orders)
    (cond (ltb (left_after (at b p)) (bytes_charged (get_or (drop 1 (at b p).lane) 0 no_record) * 65536))
    (ended b p (short b.clock (at b p))
    (upd b.orders (block_class (at b p)) (b.orders (block_class (at b p)) ++ (p ∷ []))))
    (go_on b p (going (at b p))))

-- ---- 2. A slot is open: the next serving call sends the front record of that block

-- What is left as the lane empties is lost, since the deficit is then 0.
abbrev pub lost_at : Place → ℕ
lost_at x = cond (leb (length x.lane) 1) (left_after x) 0

-- what a send from place p tells, on the board with its slot open
abbrev pub sending : (began : Bool) → Board → (p : ℕ) → Sending
sending began b p =
    let x = at b p in
    record { place = p; entry = entry p x 0; front = front x; clock = b.clock; began = began; lost = lost_at x }

unfoldable pub send : (began : Bool) → Board → (p : ℕ) → Turn
send began b p = record { out = sent (sending began b p); next = send_from b p }

-- ---- 3. No slot is open

-- The lowest class with a pending block is taken, and in it the first block of its order.
unfoldable pub lowest : Board → (t : ℕ) → ℕ
lowest b t = least (λ k. any_due b.places t (b.orders k)) 17

abbrev pub chosen : Board → (t : ℕ) → ℕ
chosen b t = get_or (b.orders (lowest b t)) 0 0

-- What is left of the slot is its deficit plus its credit; the deficit then reads 0 until the slot ends.
abbrev pub started : (L : ℕ) → Place → Place
started L x = moved x x.start x.lane 0 (serving (x.deficit + credit_of L x.share))

-- Its slot begins at that clock; it leaves the order.
unfoldable pub begin : Board → (t : ℕ) → Board
begin b t =
    record {
      largest = b.largest;
      clock = t;
      places = set b.places (chosen b t) (started b.largest (at b (chosen b t)));
      orders = upd b.orders (lowest b t) (drop 1 (b.orders (lowest b t)));
      slot = some (chosen b t);
      held = release b.clock t b.held;
    }

-- the slot would begin at 2^62 or later
abbrev pub begin_checks : (t : ℕ) → List Check
begin_checks t = check 11 (leb (2 ^ 62) t) ∷ []

-- If none is pending, the clock goes to the least ready time among waiting blocks: the slot begins at the later of that
-- and the clock. Code 1 where no block waits: no slot is open, and none is in an order.
unfoldable pub serve_by : Board → (slot ready : Option ℕ) → Turn
serve_by b (some p) ready = send false b p
serve_by b none none = refuse b 1
serve_by b none (some ready) =
    guarded b (begin_checks (max b.clock ready))
    (send true (begin b (max b.clock ready)) (chosen b (max b.clock ready)))

unfoldable pub serve : Board → Turn
serve b = serve_by b b.slot (least_ready b.places)
