-- WORKING DEFINITIONS: the rules of the class orders and sets, as they are computed from the arrays, each named after
-- its clause of document 01. Lists stand for the arrays; a link to place p is p + 1 and 0 is none. `SoundDecides`
-- ties them to the rules; no promise of a call cites one.
use Rattle.std.specs.Prelude.{Bool, cond, not, ◌&&◌, ◌||◌, List, ℕ, zero, suc, ◌+◌, ◌*◌, ◌-◌, ◌/◌, ◌^◌, leb, ltb, eqb}
use Rattle.std.specs.Prelude.{get_or, Option, None, Some}
use Rattle.base.specs.Sums.{one_if, below}
use Rattle.base.specs.Tests.{all_below}
use Rattle.bits.specs.Sets.{set_below}
use Rattle.units.specs.Classes.{next_start}
use Rattle.board.specs.declared.Board.{Board}
use Rattle.spoilt_places.specs.Ranges.{in_order}

-- clock at most 2^62
unfoldable pub clock_in_range : (clock : ℕ) → Bool
clock_in_range clock = leb clock (2 ^ 62)

-- ---- THE ORDERS: each is followed once, from its head

-- the share is one of class k
unfoldable pub of_class : (k share : ℕ) → Bool
of_class k share = leb 65536 (share * 2 ^ k) && ltb (share * 2 ^ k) 131072

-- a ready time is a multiple of 2^k, not above the next start, and not below the one before it
unfoldable pub ready_in_range : (k start least ready : ℕ) → Bool
ready_in_range k start least ready = eqb (ready / 2 ^ k * 2 ^ k) ready && (leb ready start && leb least ready)

-- the block of place p may stand in the order of class k, behind one whose ready time is the least
unfoldable pub block_in_range : (k start slot least p share count ready : ℕ) → Bool
block_in_range k start slot least p share count ready =
    in_order p count slot && (of_class k share && ready_in_range k start least ready)

-- no order has this length: the walk met a link out of range or a block that may not stand there, did not end, or
-- ended elsewhere than at the tail
abbrev pub no_order : ℕ
no_order = 65

-- The walk of class k's order from the link h, with n more steps allowed: how many places it meets in all; met of them,
-- and the last link, came before h.
unfoldable pub walk : (k start slot tail : ℕ) (shares counts ready next : List ℕ) (n met h least last : ℕ) → ℕ
walk k start slot tail shares counts ready next zero met h least last =
    cond (eqb h 0) (cond (eqb last tail) met no_order) no_order
walk k start slot tail shares counts ready next (suc n) met h least last =
    let p = h - 1 in
    let on = walk k start slot tail shares counts ready next n (met + 1) (get_or next p 0) (get_or ready p 0) h in
    cond (eqb h 0) (cond (eqb last tail) met no_order)
    (cond (leb h 64 && block_in_range k start slot least p (get_or shares p 0) (get_or counts p 0) (get_or ready p 0))
    on
    no_order)

unfoldable pub order_length : (clock slot : ℕ) (heads tails shares counts ready next : List ℕ) (k : ℕ) → ℕ
order_length clock slot heads tails shares counts ready next k =
    walk k (next_start k clock) slot (get_or tails k 0) shares counts ready next 64 0 (get_or heads k 0) 0 0

-- the same of a board
abbrev pub length_of : Board → (k : ℕ) → ℕ
length_of b = order_length b.clock b.slot b.heads b.tails b.shares b.counts b.ready b.next

-- a length where there is an order, as the walk gives it
abbrev pub length_in : Option ℕ → ℕ
length_in None = no_order
length_in (Some n) = n

-- how many blocks wait and have not the open slot
unfoldable pub blocks_in_order : (slot : ℕ) (counts : List ℕ) → ℕ
blocks_in_order slot counts = below (λ p. one_if (in_order p (get_or counts p 0) slot)) 64

-- clock at most 2^62; each order can be followed to its tail, and each waiting block is once in its own class's order,
-- or in the open slot: no walk meets a place twice or one of another class, so none is missing where they are as long
-- in all as there are such blocks
unfoldable pub orders_listed : (clock slot : ℕ) (heads tails shares counts ready next : List ℕ) → Bool
orders_listed clock slot heads tails shares counts ready next =
    clock_in_range clock
    && (all_below 17 (λ k. leb (order_length clock slot heads tails shares counts ready next k) 64)
    && eqb (below (order_length clock slot heads tails shares counts ready next) 17) (blocks_in_order slot counts))

-- ---- THE CLASS SETS

-- active: the order has a block, or the open slot's block is of the class
unfoldable pub class_active : (slot : ℕ) (shares heads : List ℕ) (k : ℕ) → Bool
class_active slot shares heads k =
    not (eqb (get_or heads k 0) 0) || (not (eqb slot 0) && (leb slot 64 && of_class k (get_or shares (slot - 1) 0)))

-- pending: the first block of the order is
unfoldable pub class_pending : (clock : ℕ) (ready heads : List ℕ) (k : ℕ) → Bool
class_pending clock ready heads k =
    let h = get_or heads k 0 in
    not (eqb h 0) && (leb h 64 && leb (get_or ready (h - 1) 0) clock)

-- both class sets as ruled
unfoldable pub active_as_ruled : (active slot : ℕ) (shares heads : List ℕ) → Bool
active_as_ruled active slot shares heads = eqb active (set_below 17 (class_active slot shares heads))

unfoldable pub pending_as_ruled : (pending clock : ℕ) (ready heads : List ℕ) → Bool
pending_as_ruled pending clock ready heads = eqb pending (set_below 17 (class_pending clock ready heads))
