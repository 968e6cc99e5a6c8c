-- SPOILT (document 01, the last paragraph of 'Codes the box gives'): each clause is a test, in the paper's order.
-- What makes a value spell a board at all, and with it the class sets, the links and every zero of a field that is not
-- in use, is told beside the value itself; here are the clauses on the board that it spells.
use Rattle.std.specs.Prelude.{Bool, true, false, not, ◌&&◌, ◌||◌, List, [], ◌∷◌, ℕ, ◌+◌, ◌*◌, ◌%◌, ◌^◌, leb, ltb, eqb}
use Rattle.std.specs.Prelude.{length, get_or}
use Rattle.std.proofs.Math.Option.{Option, none, some}
use Rattle.base.specs.Sums.{one_if}
use Rattle.base.specs.Tests.{every, alike, all_below}
use Rattle.units.specs.Classes.{next_start}
use Rattle.units.specs.Credit.{largest_charge}
use Rattle.rules.specs.Board.{Record, bytes_charged, Stand, out, queued, serving, Place, free_place, Board, at}
use Rattle.rules.specs.Board.{depth}
use Rattle.rules.specs.Board.{front, block_class, is_open, waits, used_share}
use Rattle.rules.specs.Blocks.{quiet}

-- a test of every place
abbrev pub every_place : Board → (Place → Bool) → Bool
every_place b t = all_below 64 (λ p. t (at b p))

-- L in range
abbrev pub size_in_range : Board → Bool
size_in_range b = leb 64 b.largest && leb b.largest 2048

-- clock at most 2^62
abbrev pub clock_in_range : Board → Bool
clock_in_range b = leb b.clock (2 ^ 62)

-- open block numbers distinct and in range
unfoldable pub numbers_apart : Board → Bool
numbers_apart b =
    all_below 64 (λ p. all_below 64
    (λ q. eqb p q || not (is_open (at b p) && (is_open (at b q) && eqb (at b p).number (at b q).number))))

abbrev pub number_in_range : Place → Bool
number_in_range x = not (is_open x) || leb 1 x.number

-- shares in range
abbrev pub share_in_range : Place → Bool
share_in_range x = leb x.share 65536

-- start and count in range
abbrev pub ring_in_range : Place → Bool
ring_in_range x = ltb x.start (depth x) && leb (length x.lane) (depth x)

-- waiting lengths 1 to L
unfoldable pub lengths_in : (L : ℕ) → List Record → Bool
lengths_in L [] = true
lengths_in L (r ∷ rs) = (leb 1 r.bytes && leb r.bytes L) && lengths_in L rs

-- the block is in its class's order; it has the open slot
abbrev pub is_queued : Stand → Bool
is_queued out = false
is_queued (queued ready) = true
is_queued (serving left) = false

abbrev pub is_serving : Stand → Bool
is_serving out = false
is_serving (queued ready) = false
is_serving (serving left) = true

-- deficits under L bytes, and 0 for empty lanes and the open slot's block
abbrev pub deficit_in_range : (L : ℕ) → Place → Bool
deficit_in_range L x = ltb x.deficit (largest_charge L * 65536) && (is_queued x.stand || eqb x.deficit 0)

-- all not in use 0: a free place
abbrev pub free_is_zero : Place → Bool
free_is_zero x = is_open x || (eqb x.number 0 && (eqb x.start 0 && (not (waits x) && eqb x.deficit 0)))

-- held shares 0 if none waits
abbrev pub held_while_waiting : Board → Bool
held_while_waiting b = not (quiet b) || all_below 17 (λ k. eqb (b.held k) 0)

-- each waiting block once in its own class's order, or in the open slot, and no other block there
abbrev pub stands_by_lane : Place → Bool
stands_by_lane x = alike (waits x) (is_queued x.stand || is_serving x.stand) && (not (waits x) || is_open x)

abbrev pub is_at : (p : ℕ) (slot : Option ℕ) → Bool
is_at p none = false
is_at p (some q) = eqb p q

-- how often a place stands in a list
unfoldable pub count : (p : ℕ) (order : List ℕ) → ℕ
count p [] = 0
count p (q ∷ qs) = one_if (eqb p q) + count p qs

abbrev pub in_class : (k : ℕ) → Place → Bool
in_class k x = is_queued x.stand && eqb k (block_class x)

unfoldable pub all_places : (order : List ℕ) → Bool
all_places [] = true
all_places (p ∷ ps) = ltb p 64 && all_places ps

-- the open slot is a place's
abbrev pub slot_at_place : (slot : Option ℕ) → Bool
slot_at_place none = true
slot_at_place (some p) = ltb p 64

unfoldable pub orders_listed : Board → Bool
orders_listed b =
    all_below 64 (λ p. alike (is_serving (at b p).stand) (is_at p b.slot))
    && (slot_at_place b.slot
    && (all_below 17 (λ k. all_below 64 (λ p. eqb (count p (b.orders k)) (one_if (in_class k (at b p)))))
    && all_below 17 (λ k. all_places (b.orders k))))

-- ready times multiples of 2^k, never falling along an order, none above the next start above the clock
abbrev pub ready_num : Stand → ℕ
ready_num out = 0
ready_num (queued ready) = ready
ready_num (serving left) = 0

abbrev pub ready_in_range : (clock : ℕ) → Place → Bool
ready_in_range clock x =
    not (is_queued x.stand)
    || (eqb (ready_num x.stand % 2 ^ block_class x) 0 && leb (ready_num x.stand) (next_start (block_class x) clock))

abbrev pub ready_at : List Place → (p : ℕ) → ℕ
ready_at places p = ready_num (get_or places p free_place).stand

unfoldable pub never_falling : List Place → (order : List ℕ) → Bool
never_falling places [] = true
never_falling places (p ∷ []) = true
never_falling places (p ∷ (q ∷ qs)) = leb (ready_at places p) (ready_at places q) && never_falling places (q ∷ qs)

-- an open slot's block waits, its front fits what is left, that is under 3L bytes, and the slot's clock is below 2^62
abbrev pub slot_of : (L : ℕ) → Place → Stand → Bool
slot_of L x out = true
slot_of L x (queued ready) = true
slot_of L x (serving left) =
    waits x && (leb (bytes_charged (front x) * 65536) left && ltb left (3 * largest_charge L * 65536))

abbrev pub slot_in_time : (slot : Option ℕ) (clock : ℕ) → Bool
slot_in_time none clock = true
slot_in_time (some p) clock = ltb clock (2 ^ 62)

abbrev pub clauses : Board → List Bool
clauses b =
    eqb (length b.places) 64
    ∷ size_in_range b
    ∷ clock_in_range b
    ∷ numbers_apart b
    ∷ every_place b number_in_range
    ∷ every_place b share_in_range
    ∷ every_place b ring_in_range
    ∷ every_place b (λ x. lengths_in b.largest x.lane)
    ∷ every_place b (deficit_in_range b.largest)
    ∷ every_place b free_is_zero
    ∷ leb (used_share b) 65536
    ∷ held_while_waiting b
    ∷ every_place b stands_by_lane
    ∷ orders_listed b
    ∷ every_place b (ready_in_range b.clock)
    ∷ all_below 17 (λ k. never_falling b.places (b.orders k))
    ∷ every_place b (λ x. slot_of b.largest x x.stand)
    ∷ slot_in_time b.slot b.clock
    ∷ []

unfoldable pub unspoilt : Board → Bool
unspoilt b = every (clauses b)

abbrev pub spoilt : Board → Bool
spoilt b = not (unspoilt b)
