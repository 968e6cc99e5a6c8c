-- A BOARD IN MEMORY: the parts of it that a step is lent, packed, and a board with such a part changed. Where a field
-- is added to the board, `board_now` and the two changes below it name it, and no other definition names all fields but
-- the spelling of a board (Reading).
use Rattle.std.specs.Prelude.{List, ℕ}
use Rattle.board.specs.declared.Board.{Board}
use Rattle.units.specs.declared.Parts.{Parts}

-- the numbers that serving changes
pub record After : Type 0 where
  pub clock : ℕ
  pub active : ℕ
  pub pending : ℕ
  pub slot : ℕ
  pub left : Parts

abbrev pub numbers_now : (clock active pending slot left : ℕ) → After
numbers_now clock active pending slot left =
    record { clock = clock; active = active; pending = pending; slot = slot; left = record { 0 = left } }

abbrev pub numbers_of : Board → After
numbers_of b = numbers_now b.clock b.active b.pending b.slot b.left.0

-- the board whose arrays and numbers these are
abbrev pub board_now : (numbers shares starts counts deficits ready next heads tails held : List ℕ) (largest : ℕ)
    → After
    → Board
board_now numbers shares starts counts deficits ready next heads tails held largest now =
    record {
      numbers = numbers;
      shares = shares;
      deficits = deficits;
      starts = starts;
      counts = counts;
      ready = ready;
      next = next;
      heads = heads;
      tails = tails;
      held = held;
      largest = largest;
      clock = now.clock;
      active = now.active;
      pending = now.pending;
      slot = now.slot;
      left = now.left;
    }

-- what is held between two calls: the board and both tables
pub record Holding : Type 0 where
  pub board : Board
  pub ids : List ℕ
  pub lens : List ℕ

abbrev pub holding : Board → (ids lens : List ℕ) → Holding
holding board ids lens = record { board = board; ids = ids; lens = lens }

-- ---- What opening, renaming and closing change

pub record Blocks : Type 0 where
  pub numbers : List ℕ
  pub shares : List ℕ
  pub starts : List ℕ
  pub held : List ℕ

abbrev pub blocks_now : (numbers shares starts held : List ℕ) → Blocks
blocks_now numbers shares starts held = record { numbers = numbers; shares = shares; starts = starts; held = held }

abbrev pub blocks_of : Board → Blocks
blocks_of b = blocks_now b.numbers b.shares b.starts b.held

abbrev pub with_blocks : Board → Blocks → Board
with_blocks b x =
    board_now x.numbers x.shares x.starts b.counts b.deficits b.ready b.next b.heads b.tails
    x.held b.largest (numbers_of b)

-- ---- What serving changes

-- the arrays that a slot's beginning and its end change
pub record Queues : Type 0 where
  pub deficits : List ℕ
  pub ready : List ℕ
  pub next : List ℕ
  pub heads : List ℕ
  pub tails : List ℕ
  pub held : List ℕ

abbrev pub queues_now : (deficits ready next heads tails held : List ℕ) → Queues
queues_now deficits ready next heads tails held =
    record { deficits = deficits; ready = ready; next = next; heads = heads; tails = tails; held = held }

abbrev pub queues_of : Board → Queues
queues_of b = queues_now b.deficits b.ready b.next b.heads b.tails b.held

-- all its arrays, and its numbers
pub record Engine : Type 0 where
  pub starts : List ℕ
  pub counts : List ℕ
  pub queues : Queues
  pub now : After

abbrev pub engine_now : (starts counts deficits ready next heads tails held : List ℕ) → After → Engine
engine_now starts counts deficits ready next heads tails held now =
    record { starts = starts; counts = counts; queues = queues_now deficits ready next heads tails held; now = now }

abbrev pub engine_of : Board → Engine
engine_of b =
    engine_now b.starts b.counts b.deficits b.ready b.next b.heads b.tails b.held (numbers_of b)

abbrev pub with_engine : Board → Engine → Board
with_engine b e =
    let q = e.queues in
    board_now b.numbers b.shares e.starts e.counts q.deficits q.ready q.next q.heads q.tails
    q.held b.largest e.now

-- ---- What taking a record changes

-- the part that joining an order changes
pub record Orders : Type 0 where
  pub next : List ℕ
  pub heads : List ℕ
  pub tails : List ℕ
  pub ready : List ℕ
  pub active : ℕ

abbrev pub orders_now : (next heads tails ready : List ℕ) (active : ℕ) → Orders
orders_now next heads tails ready active =
    record { next = next; heads = heads; tails = tails; ready = ready; active = active }

-- and the counts
pub record Taking : Type 0 where
  pub counts : List ℕ
  pub orders : Orders

abbrev pub taking : (counts : List ℕ) → Orders → Taking
taking counts orders = record { counts = counts; orders = orders }

abbrev pub taking_of : Board → Taking
taking_of b = taking b.counts (orders_now b.next b.heads b.tails b.ready b.active)

abbrev pub with_taking : Board → Taking → Board
with_taking b t =
    let o = t.orders in
    let now = numbers_now b.clock o.active b.pending b.slot b.left.0 in
    with_engine b (engine_now b.starts t.counts b.deficits o.ready o.next o.heads o.tails
    b.held now)

-- the orders of a board, and a board with these alone changed
abbrev pub orders_of : Board → Orders
orders_of b = (taking_of b).orders

abbrev pub with_orders : Board → Orders → Board
with_orders b o = with_taking b (taking b.counts o)

-- what it sees and leaves as it is
pub record Seen : Type 0 where
  pub numbers : List ℕ
  pub shares : List ℕ
  pub starts : List ℕ

abbrev pub seen : (numbers shares starts : List ℕ) → Seen
seen numbers shares starts = record { numbers = numbers; shares = shares; starts = starts }

abbrev pub seen_of : Board → Seen
seen_of b = seen b.numbers b.shares b.starts
