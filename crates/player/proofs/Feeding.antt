-- What is written field by field is the listing, whatever comes later. Assumes nothing.
use mathlib.Core.Path.{◌≡◌, refl, sym, ap, ap₂, subst, ◌∙◌}
use mathlib.Core.Bool.{Bool, true, false, cond, true≢false}
use mathlib.Core.Logic.{◌⊎◌, inl, inr}
use mathlib.Core.List.{List, [], ◌++◌, append_assoc, append-nil}
use Prim.Native.Nat.{ℕ, ◌+◌, ◌-◌, ◌/◌, ◌^◌, ◌≤◌, ◌<◌}
use Rattle.std.specs.Prelude.{Some, Ok}
use native.Mathlib.Omega.{arith}
use lib.ListN.{length, take, drop, length-drop}
use lib.Seq.{drop-drop}
use Rattle.rules.specs.Board
use Rattle.units.specs.declared.Bytes.{Bytes}
use Rattle.rules.specs.Board.{Place}
use Rattle.board.specs.declared.Board as struct
use Rattle.board.specs.Reading.{encode, view}
use Rattle.log_bytes.specs.declared.Event.{Event}
use Rattle.log_bytes.specs.declared.End.{End}
use Rattle.log_bytes.specs.declared.Next.TheVariants.{Ends}
use Rattle.log_bytes.specs.Format.{is_l, past_l}
use Rattle.log_bytes.specs.Rows.{Reading}
use Rattle.log_bytes.proofs.Stages.{turn_later, past_after}
use Rattle.log_bytes.proofs.Wholes.{none_come}
use Rattle.fragments.specs.Kept.{kept_bytes}
use Rattle.fragments.specs.Reading.{joined, GoesOnWith, KeptOn}
use Rattle.fragments.specs.declared.Reader.{Reader}
use Rattle.fragments.specs.declared.Read.{Read}
use Rattle.fragments.specs.Reading.{ReadOn}
use Rattle.fragments.specs.Readers.{cut_at, at_next, next_told, after_read}
use Rattle.fragments.proofs.Kept.{kept_none, rest_joined}
use Rattle.fragments.proofs.Reading.{from_taken}
use Rattle.fragments.proofs.Readers.{read_whole, read_part, read_moves, whole_now, part_now}
use Rattle.lines.specs.Text.{Written, Line}
use Rattle.lines.proofs.Texts.{none, then, from_front, written_length}
use Rattle.arrays.specs.Lists.{total_of}
use Rattle.arrays.proofs.Totals.{total_map}
use Rattle.listing_rules.specs.Listing.{Playing, unmade, waiting, lines_of, played, field_line, last_of, last_line, listing_from}
use Rattle.listing_rules.proofs.Listing.{listing_whole, listing_ends}
use Rattle.fields.specs.Fields.{Memory, memory, reads, KnownMemory, FieldPlayed}
use Rattle.player.specs.declared.State.{State}
use Rattle.player.specs.Feeding.{Held, held, playing, rest_of, offset_of, CanGoOn, ended_state, ended_piece}
use Rattle.player.specs.Feeding.{FeedDone}
use Rattle.player.proofs.Codes.{can_code, over_code}

-- ---- What is left, by the state

-- nothing, where the listing is over
pub over_rest : (h : Held) → h.state.over ≡ true → (later : List ℕ) → rest_of h later ≡ []
unfolding rest_of
over_rest h e later =
    let s = h.state in
    ap (λ (t : Bool). cond t [] (listing_from (playing h) s.reader.at (kept_bytes s.reader.kept s.reader.came ++ later) s.reader.stage)) e

pub ended_rest : (s : State) (ids lens later : List ℕ) → rest_of (held (ended_state s) ids lens) later ≡ []
ended_rest s ids lens later = over_rest (held (ended_state s) ids lens) refl later

-- else the listing of what has come of a field, and what follows
going_rest : (h : Held) → h.state.over ≡ false → (later : List ℕ)
    → rest_of h later ≡ listing_from (playing h) h.state.reader.at (kept_bytes h.state.reader.kept h.state.reader.came ++ later) h.state.reader.stage
unfolding rest_of
going_rest h e later =
    let s = h.state in
    ap (λ (t : Bool). cond t [] (listing_from (playing h) s.reader.at (kept_bytes s.reader.kept s.reader.came ++ later) s.reader.stage)) e

-- after L from the board in memory, and before it from none
pub past_rest : (s : State) (ids lens : List ℕ) → s.over ≡ false → past_l s.reader.stage ≡ true → (later : List ℕ)
    → rest_of (held s ids lens) later
    ≡ listing_from (reads (memory s.board ids lens s.sent.0)) s.reader.at (kept_bytes s.reader.kept s.reader.came ++ later) s.reader.stage
past_rest s ids lens e p later =
    going_rest (held s ids lens) e later
    ∙ ap (λ (t : Bool). listing_from (cond t (reads (memory s.board ids lens s.sent.0)) unmade) s.reader.at (kept_bytes s.reader.kept s.reader.came ++ later)
    s.reader.stage) p

pub before_rest : (s : State) (ids lens : List ℕ) → s.over ≡ false → past_l s.reader.stage ≡ false → (later : List ℕ)
    → rest_of (held s ids lens) later ≡ listing_from unmade s.reader.at (kept_bytes s.reader.kept s.reader.came ++ later) s.reader.stage
before_rest s ids lens e p later =
    going_rest (held s ids lens) e later
    ∙ ap (λ (t : Bool). listing_from (cond t (reads (memory s.board ids lens s.sent.0)) unmade) s.reader.at (kept_bytes s.reader.kept s.reader.came ++ later)
    s.reader.stage) p

-- what is played: after L from the board in memory
past_playing : (s : State) (ids lens : List ℕ) → past_l s.reader.stage ≡ true → playing (held s ids lens) ≡ reads (memory s.board ids lens s.sent.0)
past_playing s ids lens p = ap (λ (t : Bool). cond t (reads (memory s.board ids lens s.sent.0)) unmade) p

-- ---- What is left behind a field

module _ (s : State) (ids lens part : List ℕ) (k : CanGoOn s ids lens) where
  -- this part of the log ends in it
  module _ (now : ℕ) (after : List ℕ) (h : KeptOn s.reader.at s.reader.stage s.reader.kept s.reader.came part now after) where
    abbrev pub partly : State
    partly = record { reader = cut_at s.reader now after; over = s.over; sent = s.sent; board = s.board }

    pub partly_goes : CanGoOn partly ids lens
    partly_goes = record {
      going = k.going;
      fit = h.fit;
      low = k.low;
      room = h.same ∙ k.room;
      ids_all = k.ids_all;
      lens_all = k.lens_all;
      few = k.few;
      good = k.good;
    }

    pub partly_rest : (later : List ℕ) → rest_of (held partly ids lens) (drop (now - s.reader.came) part ++ later) ≡ rest_of (held s ids lens) (part ++ later)
    partly_rest later =
        going_rest (held partly ids lens) k.going (drop (now - s.reader.came) part ++ later)
        ∙ ap (λ (r : Reading). lines_of (playing (held s ids lens)) r.fields r.ends) (sym (h.is later))
        ∙ sym (going_rest (held s ids lens) k.going (part ++ later))

  -- it is whole, and what it says is done
  module _ (e : Event) (size : ℕ) (g : GoesOnWith s.reader.at s.reader.stage s.reader.kept s.reader.came part e size) (after : List ℕ)
      (same : length after ≡ length s.reader.kept)
      (b : struct.Board) (ids' lens' : List ℕ) (sent : Bytes) (known : KnownMemory (memory b ids' lens' sent.0))
      (few! : sent.0 / 65536 ≤ (s.reader.at + size) / 3) (next : reads (memory b ids' lens' sent.0) ≡ played (playing (held s ids lens)) e) where
    abbrev pub beyond : State
    beyond = record { reader = at_next s.reader e size after; over = s.over; sent = sent; board = b }

    pub beyond_past : past_l beyond.reader.stage ≡ true
    beyond_past = past_after e s.reader.stage g.turn

    pub beyond_goes : CanGoOn beyond ids' lens'
    beyond_goes = record {
      going = k.going;
      fit = none_come (s.reader.at + size) after beyond.reader.stage;
      low = g.low;
      room = same ∙ k.room;
      ids_all = known.ids_all;
      lens_all = known.lens_all;
      few = λ p. few!;
      good = λ p. known;
    }

    pub beyond_rest : (later : List ℕ)
        → field_line (playing (held s ids lens)) e ++ rest_of (held beyond ids' lens') (drop (size - s.reader.came) part ++ later)
        ≡ rest_of (held s ids lens) (part ++ later)
    beyond_rest later =
        let line = field_line (playing (held s ids lens)) e in
        let whole = joined s.reader.kept s.reader.came part later in
        ap (λ (t : List ℕ). line ++ t)
        (past_rest beyond ids' lens' k.going beyond_past (drop (size - s.reader.came) part ++ later)
        ∙ ap (λ (t : List ℕ). listing_from (reads (memory b ids' lens' sent.0)) (s.reader.at + size) t beyond.reader.stage)
        (kept_none after (drop (size - s.reader.came) part ++ later)
        ∙ sym (rest_joined s.reader.kept s.reader.came part later size (omega (arith, g.begins)) g.ends))
        ∙ ap (λ (q : Playing). listing_from q (s.reader.at + size) (drop size whole) beyond.reader.stage) next)
        ∙ sym (listing_whole (playing (held s ids lens)) s.reader.at whole s.reader.stage e size (g.is later))
        ∙ sym (going_rest (held s ids lens) k.going (part ++ later))

-- ---- What a call that ends the listing does

pub ended_done : (s : State) (ids lens fragment out : List ℕ) (used : ℕ) (whole : List ℕ) (ids' lens' out' : List ℕ) → length ids' ≡ 2048 → length lens' ≡ 2048
    → ((later : List ℕ) → rest_of (held s ids lens) (fragment ++ later) ≡ whole) → used ≤ length out → Written out 0 whole used out'
    → FeedDone s ids lens fragment out (ended_piece (length fragment) used s) ids' lens' out'
ended_done s ids lens fragment out used whole ids' lens' out' a d is fits! w = record {
  done = refl;
  told = record {
    within = omega arith;
    fits = fits!;
    joined = λ later.
        ap (λ (t : List ℕ). take used out' ++ t) (ended_rest s ids' lens' (drop (length fragment) fragment ++ later)) ∙ append-nil (take used out') ∙ l.text
        ∙ sym (is later);
    untouched = l.rest;
  };
  goes_on = over_code s ids' lens' a d;
  all = inl refl;
  moves = λ h k. k;
  onward = λ e. absurd (true≢false e);
}
  where
    l : Line out whole used out'
    l = from_front out whole out' used (omega (arith, w.ends, fits!)) w

-- ---- The last line: the board's clock and its lanes are what is read of them

module _ (s : Memory) (k : KnownMemory s) where
  abbrev m : Board.Board
  m = view s.board s.ids s.lens

  clock_is : s.board.clock ≡ m.clock
  unfolding encode
  clock_is = ap (λ (c : struct.Board). c.clock) (sym k.sound.spells)

  counts_is : total_of s.board.counts ≡ waiting m
  unfolding encode
  counts_is = ap (λ (c : struct.Board). total_of c.counts) (sym k.sound.spells) ∙ total_map (λ (x : Place). length x.lane) m.places

  pub last_line_lem : (e : End) (count : ℕ) → count ≡ total_of s.board.counts → last_of s.board.clock s.sent count e ≡ last_line (reads s) e
  last_line_lem e count n = ap₂ (λ (x y : ℕ). last_of x s.sent y e) clock_is (n ∙ counts_is)

-- ---- Under way: what is written so far, and what is left from here on, is what was left at the beginning

pub record UnderWay (from : Held) (fragment out₀ : List ℕ) (s : State) (ids lens : List ℕ) (taken used : ℕ) (out : List ℕ) : Type 0 where
  pub can : CanGoOn s ids lens
  pub past : past_l s.reader.stage ≡ true
  pub text : List ℕ
  pub written : Written out₀ 0 text used out
  pub told : (later : List ℕ) → text ++ rest_of (held s ids lens) (drop taken fragment ++ later) ≡ rest_of from (fragment ++ later)
  pub fits : used ≤ length out₀
  pub same : length out ≡ length out₀
  pub within : taken ≤ length fragment
  pub moved : (0 < taken) ⊎ ((taken ≡ 0) × (used ≡ 0))
  pub passed : offset_of s ≡ offset_of from.state + taken

pub under_first : (s : State) (ids lens fragment out : List ℕ) → CanGoOn s ids lens → past_l s.reader.stage ≡ true
    → UnderWay (held s ids lens) fragment out s ids lens 0 0 out
under_first s ids lens fragment out k p = record {
  can = k;
  past = p;
  text = [];
  written = none out 0;
  told = λ later. refl;
  fits = omega arith;
  same = refl;
  within = omega arith;
  moved = inr (refl, refl);
  passed = omega arith;
}

module _ (from : Held) (fragment out₀ : List ℕ) (s : State) (ids lens : List ℕ) (taken used : ℕ) (out : List ℕ)
    (u : UnderWay from fragment out₀ s ids lens taken used out) where
  abbrev part : List ℕ
  part = drop taken fragment

  part_length : length part ≡ length fragment - taken
  part_length = length-drop taken fragment

  -- what is left of the fragment behind its next bytes
  behind : (h : Held) (n : ℕ) (later : List ℕ) → rest_of h (drop (taken + n) fragment ++ later) ≡ rest_of h (drop n part ++ later)
  behind h n later = ap (λ (t : List ℕ). rest_of h (t ++ later)) (sym (drop-drop n taken fragment))

  -- the sum of bytes is far below its limit
  pub under_small : s.sent.0 < 2 ^ 63
  under_small = omega (arith, u.can.few u.past, u.can.low)

  -- the fragment ends in a field
  pub under_part : (now : ℕ) (after : List ℕ) (k : KeptOn s.reader.at s.reader.stage s.reader.kept s.reader.came part now after)
      → UnderWay from fragment out₀ (partly s ids lens part u.can now after k) ids lens (taken + (now - s.reader.came)) used out
  under_part now after k = record {
    can = partly_goes s ids lens part u.can now after k;
    past = u.past;
    text = u.text;
    written = u.written;
    told = λ later.
        ap (λ (t : List ℕ). u.text ++ t) (behind _ (now - s.reader.came) later ∙ partly_rest s ids lens part u.can now after k later) ∙ u.told later;
    fits = u.fits;
    same = u.same;
    within = omega (arith, k.ends, k.moves, part_length, u.within);
    moved = inl (omega (arith, k.moves));
    passed = omega (arith, k.moves, u.passed);
  }

  -- a field is played, and the next one follows
  module _ (e : Event) (size : ℕ) (g : GoesOnWith s.reader.at s.reader.stage s.reader.kept s.reader.came part e size) (after : List ℕ)
      (same! : length after ≡ length s.reader.kept)
      (b : struct.Board) (ids' lens' : List ℕ) (sent : Bytes) (used' : ℕ) (out' : List ℕ)
      (p : FieldPlayed (memory s.board ids lens s.sent.0) e (memory b ids' lens' sent.0) out used used' out') (room! : used + 64 ≤ length out) where
    abbrev line : List ℕ
    line = field_line (reads (memory s.board ids lens s.sent.0)) e

    few! : sent.0 / 65536 ≤ (s.reader.at + size) / 3
    few! = omega (arith, p.more, u.can.few u.past, g.small)

    next! : reads (memory b ids' lens' sent.0) ≡ played (playing (held s ids lens)) e
    next! = p.next ∙ ap (λ (q : Playing). played q e) (sym (past_playing s ids lens u.past))

    pub under_next : UnderWay from fragment out₀ (record { reader = at_next s.reader e size after; over = s.over; sent = sent; board = b })
        ids' lens' (taken + (size - s.reader.came)) used' out'
    under_next = record {
      can = beyond_goes _ _ _ _ u.can _ _ g _ same! _ _ _ _ p.good few! next!;
      past = beyond_past _ _ _ _ u.can _ _ g _ same! _ _ _ _ p.good few! next!;
      text = u.text ++ line;
      written = then u.text line u.written p.written;
      told = λ later.
          append_assoc u.text line _ ∙ ap (λ (t : List ℕ). u.text ++ t)
          (ap₂ (λ (q : Playing) (t : List ℕ). field_line q e ++ t) (sym (past_playing s ids lens u.past)) (behind _ (size - s.reader.came) later)
          ∙ beyond_rest _ _ _ _ u.can _ _ g _ same! _ _ _ _ p.good few! next! later)
          ∙ u.told later;
      fits = omega (arith, p.short, room!, u.same);
      same = written_length out used line used' out' p.written ∙ u.same;
      within = omega (arith, g.ends, g.begins, part_length, u.within);
      moved = inl (omega (arith, g.begins));
      passed = omega (arith, g.begins, u.passed);
    }

  -- what is read says of which
  module _ (read : Read) (now : Reader)
      (told : ReadOn s.reader.at s.reader.stage s.reader.kept s.reader.came (take (length fragment - taken) part) (next_told (Ok read) s.reader.came) now.kept)
      (after : now ≡ after_read (Ok read) s.reader now.kept) where
    read_on : ReadOn s.reader.at s.reader.stage s.reader.kept s.reader.came part (next_told (Ok read) s.reader.came) now.kept
    read_on = rw (from_taken fragment taken) at told

    pub under_moves : (0 < read.taken) × (taken + read.taken ≤ length fragment)
    under_moves =
        let moves = read_moves s.reader part read now read_on after in
        (moves.0, omega (arith, moves.1, part_length, u.within))

    -- a field that follows is not L
    pub under_late : (e : Event) → read.event ≡ Some e → is_l e ≡ false
    under_late e q = turn_later e s.reader.stage u.past (read_whole s.reader part read now read_on after e q).turn

    pub under_more : ((e : Event) → read.event ≡ Some e → ⊥)
        → UnderWay from fragment out₀ (record { reader = now; over = s.over; sent = s.sent; board = s.board }) ids lens (taken + read.taken) used out
    under_more never =
        part_now s.reader part read now read_on after
        (λ (r : Reader) (n : ℕ).
        UnderWay from fragment out₀ (record { reader = r; over = s.over; sent = s.sent; board = s.board }) ids lens (taken + n) used out)
        never
        (under_part (s.reader.came + read.taken) now.kept (read_part s.reader part read now read_on after never))

    pub under_field : (e : Event) → read.event ≡ Some e → (b : struct.Board) (ids' lens' : List ℕ) (sent : Bytes) (used' : ℕ) (out' : List ℕ)
        → FieldPlayed (memory s.board ids lens s.sent.0) e (memory b ids' lens' sent.0) out used used' out' → used + 64 ≤ length out
        → UnderWay from fragment out₀ (record { reader = now; over = s.over; sent = sent; board = b }) ids' lens' (taken + read.taken) used' out'
    under_field e q b ids' lens' sent used' out' p room! =
        whole_now s.reader part read now read_on after
        (λ (r : Reader) (n : ℕ).
        UnderWay from fragment out₀ (record { reader = r; over = s.over; sent = sent; board = b }) ids' lens' (taken + n) used' out')
        e q
        (under_next e (s.reader.came + read.taken)
        (read_whole s.reader part read now read_on after e q) now.kept read_on.room b ids' lens' sent used' out' p room!)

module _ (s₀ : State) (ids₀ lens₀ fragment out₀ : List ℕ) (s : State) (ids lens : List ℕ) (taken used : ℕ) (out : List ℕ)
    (u : UnderWay (held s₀ ids₀ lens₀) fragment out₀ s ids lens taken used out) where
  -- the log ends with a field
  pub under_last : (lent : State) → lent ≡ s₀ → (e : End) (count : ℕ) → count ≡ total_of s.board.counts
      → (after : List ℕ)
      → ReadOn s.reader.at s.reader.stage s.reader.kept s.reader.came (take (length fragment - taken) (drop taken fragment)) (Ends e) after
      → (last : ℕ) (out' : List ℕ)
      → (Written out used (last_of s.board.clock s.sent.0 count e) last out' × (last ≤ used + 64))
      → used + 64 ≤ length out
      → FeedDone s₀ ids₀ lens₀ fragment out₀ (ended_piece (length fragment) last lent) ids lens out'
  under_last lent is e count k after told last out' shown room! =
      let read_on : ReadOn s.reader.at s.reader.stage s.reader.kept s.reader.came (drop taken fragment) (Ends e) after =
      rw (from_taken fragment taken) at told in
      let here = memory s.board ids lens s.sent.0 in
      let text = u.text ++ last_of s.board.clock s.sent.0 count e in
      subst (λ (t : State). FeedDone s₀ ids₀ lens₀ fragment out₀ (ended_piece (length fragment) last t) ids lens out') (sym is)
      (ended_done s₀ ids₀ lens₀ fragment out₀ last text ids lens out' u.can.ids_all u.can.lens_all
      (λ later. sym (u.told later) ∙ ap (λ (t : List ℕ). u.text ++ t)
      (past_rest s ids lens u.can.going u.past (drop taken fragment ++ later)
      ∙ listing_ends (reads here) s.reader.at (joined s.reader.kept s.reader.came (drop taken fragment) later) s.reader.stage e (read_on.ends e refl later)
      ∙ sym (last_line_lem here (u.can.good u.past) e count k)))
      (omega (arith, shown.1, room!, u.same)) (then u.text (last_of s.board.clock s.sent.0 count e) u.written shown.0))

  -- there is no room for another line, or no byte left: the next call goes on from here
  pub under_stop : (length out - used < 64) ⊎ (length fragment ≤ taken)
      → FeedDone s₀ ids₀ lens₀ fragment out₀ (record { code = 0; taken = taken; used = used; state = s }) ids lens out
  under_stop stop = record {
    done = refl;
    told = record {
      within = u.within;
      fits = u.fits;
      joined = λ later. ap (λ (t : List ℕ). t ++ rest_of (held s ids lens) (drop taken fragment ++ later)) l.text ∙ u.told later;
      untouched = l.rest;
    };
    goes_on = can_code s ids lens u.can;
    all = either stop;
    moves = λ h k. forth h k stop u.moved;
    onward = λ e. u.passed;
  }
    where
      l : Line out₀ u.text used out
      l = from_front out₀ u.text out used (omega (arith, u.written.ends, u.fits)) u.written

      either : (length out - used < 64) ⊎ (length fragment ≤ taken)
          → (taken ≡ length fragment) ⊎ ((length out₀ - used < 64) ⊎ (past_l s₀.reader.stage ≡ false))
      either (inl h) = inr (inl (omega (arith, h, u.same)))
      either (inr h) = inl (omega (arith, h, u.within))

      forth : 64 ≤ length out₀ → 0 < length fragment → (length out - used < 64) ⊎ (length fragment ≤ taken)
          → (0 < taken) ⊎ ((taken ≡ 0) × (used ≡ 0)) → 0 < taken
      forth h k stopped (inl m) = m
      forth h k (inl r) (inr m) = absurd (omega (arith, r, m.1, h, u.same))
      forth h k (inr r) (inr m) = absurd (omega (arith, r, m.0, k))
