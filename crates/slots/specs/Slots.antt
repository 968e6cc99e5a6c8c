-- WORKING DEFINITIONS: the clock, the choice, and a slot's beginning and end, on the board's lists. Theorems tie them
-- to the rules; no promise of a call cites one.
use Rattle.std.specs.Prelude.{◌≡◌, cond, List, ℕ, zero, suc, ◌+◌, ◌-◌, ◌/◌, ◌^◌, ◌≤◌, ◌<◌, ltb, leb, eqb, get_or, set}
use Rattle.std.specs.Prelude.{replicate, Option, None, Some, Result, Ok, Err}
use Rattle.bits.specs.Sets.{with_bit, without_bit, lowest_bit}
use Rattle.units.specs.Classes.{class_of, next_start}
use Rattle.units.specs.Credit.{credit_of}
use Rattle.units.specs.declared.Parts.{Parts}
use Rattle.numbers.specs.declared.refusal.Refusal.{Refusal}
use Rattle.numbers.specs.Codes.{refusal_code}
use Rattle.board.specs.declared.Board.{Board}
use Rattle.board.specs.Memory.{After, Queues, queues_now, Engine, engine_now, numbers_now, orders_now, numbers_of}
use Rattle.board.specs.Memory.{with_engine}
use Rattle.taking.specs.Taking.{joined_orders}
use Rattle.slots.specs.declared.Turn.{Turn}

-- ---- The clock goes on

-- the pending classes and the held shares
pub record Turned : Type 0 where
  pub pending : ℕ
  pub held : List ℕ

abbrev pub turned_now : (pending : ℕ) (held : List ℕ) → Turned
turned_now pending held = record { pending = pending; held = held }

abbrev pub turned_of : Board → Turned
turned_of b = turned_now b.pending b.held

-- the board at a later clock
abbrev pub with_turned : Board → (to : ℕ) → Turned → Board
with_turned b to x =
    with_engine b (engine_now b.starts b.counts b.deficits b.ready b.next b.heads b.tails x.held
    (numbers_now to b.active x.pending b.slot b.left.0))

-- a start of class k is passed: its held share goes, and it is pending if its order has a block
abbrev pub passed : (k : ℕ) (heads : List ℕ) → Turned → Turned
passed k heads s = turned_now (cond (eqb (get_or heads k 0) 0) s.pending (with_bit s.pending k)) (set s.held k 0)

-- n classes from class k on, up to the first of which no start is passed
unfoldable pub turned_from : (n k from to : ℕ) (heads : List ℕ) → Turned → Turned
turned_from zero k from to heads s = s
turned_from (suc n) k from to heads s =
    let on = turned_from n (k + 1) from to heads (passed k heads s) in
    cond (eqb (from / 2 ^ k) (to / 2 ^ k)) s on

unfoldable pub turned : (from to : ℕ) (heads : List ℕ) → Turned → Turned
turned from to heads s = turned_from 17 0 from to heads s

-- ---- The choice

-- the link to a place, or to none
abbrev pub link_to : Option ℕ → ℕ
link_to None = 0
link_to (Some place) = place + 1

-- what is served next: the place and the clock of its slot; or the code of a refusal
pub data Choice : Type 0 where
  Stop : (code : ℕ) → Choice
  Go : (place time : ℕ) → Choice

abbrev pub choice_in : Result Turn Refusal → Choice
choice_in (Ok turn) = Go turn.place turn.time
choice_in (Err refusal) = Stop (refusal_code refusal)

-- the lowest pending class; where none is pending, the lowest active one
unfoldable pub chosen_class : (active pending : ℕ) → ℕ
chosen_class active pending = lowest_bit (cond (eqb pending 0) active pending)

unfoldable pub slot_clock : (clock pending k : ℕ) → ℕ
slot_clock clock pending k = cond (eqb pending 0) (next_start k clock) clock

unfoldable pub choice : (clock active pending slot : ℕ) (heads : List ℕ) → Choice
choice clock active pending slot heads =
    let k = chosen_class active pending in
    let time = slot_clock clock pending k in
    cond (eqb slot 0) (cond (eqb active 0) (Stop 1)
    (cond (leb (2 ^ 62) time) (Stop 11) (Go (get_or heads k 0 - 1) time)))
    (Go (slot - 1) clock)

abbrev pub choice_of : Engine → Choice
choice_of e = choice e.now.clock e.now.active e.now.pending e.now.slot e.queues.heads

-- what a choice among the classes asks
pub record CanChoose (clock active pending slot : ℕ) (heads : List ℕ) : Type 0 where
  pub time : clock ≤ 2 ^ 62
  pub class : slot ≡ 0 → (active ≡ 0 → ⊥) → chosen_class active pending < 17
  pub first : slot ≡ 0 → (active ≡ 0 → ⊥) → 1 ≤ get_or heads (chosen_class active pending) 0

-- ---- A slot begins

pub record Links : Type 0 where
  pub next : List ℕ
  pub heads : List ℕ
  pub tails : List ℕ

abbrev pub links_now : (next heads tails : List ℕ) → Links
links_now next heads tails = record { next = next; heads = heads; tails = tails }

abbrev pub links_of : Board → Links
links_of b = links_now b.next b.heads b.tails

abbrev pub with_links : Board → Links → Board
with_links b l =
    with_engine b (engine_now b.starts b.counts b.deficits b.ready l.next l.heads l.tails b.held
    (numbers_of b))

-- the first of class k's order leaves it
unfoldable pub left_links : (place k : ℕ) → Links → Links
left_links place k l =
    let behind = get_or l.next place 0 in
    links_now (set l.next place 0) (set l.heads k behind) (cond (eqb behind 0) (set l.tails k 0) l.tails)

-- a pending class of which one block went stays pending if the first of its order is ready
unfoldable pub still_pending : (set k clock : ℕ) (heads ready : List ℕ) → ℕ
still_pending set k clock heads ready =
    let first = get_or heads k 0 in
    cond (eqb first 0) (without_bit set k) (cond (ltb clock (get_or ready (first - 1) 0)) (without_bit set k) set)

-- what is left of a slot that begins, and the classes that stay pending
pub record Begun : Type 0 where
  pub left : Parts
  pub pending : ℕ

pub record Beginning : Type 0 where
  pub begun : Begun
  pub queues : Queues

abbrev pub beginning_now : Begun → Queues → Beginning
beginning_now begun queues = record { begun = begun; queues = queues }

unfoldable pub began_at : (shares : List ℕ) (largest place k time clock pending : ℕ) → Queues → Beginning
began_at shares largest place k time clock pending q =
    let on = turned clock time q.heads (turned_now pending q.held) in
    let links = left_links place k (links_now q.next q.heads q.tails) in
    let ready = set q.ready place 0 in
    beginning_now
    (record {
      left = record { 0 = get_or q.deficits place 0 + credit_of largest (get_or shares place 0) };
      pending = still_pending on.pending k time links.heads ready;
    })
    (queues_now (set q.deficits place 0) ready links.next links.heads links.tails on.held)

-- the board with the slot of a place, which begins at that clock
abbrev pub with_slot : Board → (place time : ℕ) → Beginning → Board
with_slot b place time x =
    let now = numbers_now time b.active x.begun.pending (place + 1) x.begun.left.0 in
    with_engine b (record { starts = b.starts; counts = b.counts; queues = x.queues; now = now })

pub record CanBegin (shares : List ℕ) (largest place k : ℕ) (q : Queues) : Type 0 where
  pub inside : place < 64
  pub class : k ≡ class_of (get_or shares place 0)
  pub low : 1 ≤ get_or shares place 0
  pub high : get_or shares place 0 ≤ 65536
  pub least : 64 ≤ largest
  pub most : largest ≤ 2048
  pub behind : get_or q.next place 0 ≤ 64
  pub owed : get_or q.deficits place 0 < 2 ^ 32

-- the slot that serves: the open one, or one that begins
unfoldable pub opened_slot : (shares : List ℕ) (largest place time clock pending slot left : ℕ) → Queues → Beginning
opened_slot shares largest place time clock pending slot left q =
    cond (eqb slot 0) (began_at shares largest place (class_of (get_or shares place 0)) time clock pending q)
    (beginning_now (record { left = record { 0 = left }; pending = pending }) q)

unfoldable pub opened : (shares : List ℕ) (largest place time : ℕ) → Engine → Engine
opened shares largest place time e =
    let b =
    opened_slot shares largest place time e.now.clock e.now.pending e.now.slot e.now.left.0
    e.queues in
    record {
      starts = e.starts;
      counts = e.counts;
      queues = b.queues;
      now = numbers_now time e.now.active b.begun.pending (place + 1) b.begun.left.0;
    }

-- ---- A slot ends: the clock is one more

-- a class of which one block waits no more stays active if its order has a block
unfoldable pub still_active : (set k : ℕ) (heads : List ℕ) → ℕ
still_active set k heads = cond (eqb (get_or heads k 0) 0) (without_bit set k) set

-- the lane is empty
pub record EmptyEnd : Type 0 where
  pub now : After
  pub held : List ℕ

abbrev pub empty_end_now : After → (held : List ℕ) → EmptyEnd
empty_end_now now held = record { now = now; held = held }

abbrev pub with_empty_end : Board → EmptyEnd → Board
with_empty_end b x =
    with_engine b (engine_now b.starts b.counts b.deficits b.ready b.next b.heads b.tails x.held x.now)

unfoldable pub ended_empty : (k clock active pending : ℕ) (heads held : List ℕ) → EmptyEnd
ended_empty k clock active pending heads held =
    let rest = still_active active k heads in
    let on = turned clock (clock + 1) heads (turned_now pending held) in
    empty_end_now (numbers_now (clock + 1) rest on.pending 0 0) (cond (eqb rest 0) (replicate 17 0) on.held)

-- the block still waits: it joins its order again, and what is left is its deficit
pub record WaitingEnd : Type 0 where
  pub now : After
  pub queues : Queues

abbrev pub waiting_end_now : After → Queues → WaitingEnd
waiting_end_now now queues = record { now = now; queues = queues }

abbrev pub with_waiting_end : Board → WaitingEnd → Board
with_waiting_end b x =
    with_engine b (record { starts = b.starts; counts = b.counts; queues = x.queues; now = x.now })

unfoldable pub ended_waiting : (place k rest clock active pending : ℕ) → Queues → WaitingEnd
ended_waiting place k rest clock active pending q =
    let o = joined_orders (orders_now q.next q.heads q.tails q.ready active) place k (next_start k clock) in
    let on = turned clock (clock + 1) o.heads (turned_now pending q.held) in
    waiting_end_now (numbers_now (clock + 1) o.active on.pending 0 0)
    (queues_now (set q.deficits place rest) o.ready o.next o.heads o.tails on.held)
