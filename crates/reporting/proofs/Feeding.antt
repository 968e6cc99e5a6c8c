-- A fragment that is played leaves what was left of the report, whatever comes later. Assumes nothing.
use mathlib.Core.Path.{◌≡◌, refl, sym, ap, subst, ◌∙◌}
use mathlib.Core.Bool.{Bool, true, false, cond, ◌&&◌, true≢false}
use mathlib.Core.Logic.{inl, inr}
use mathlib.Core.List.{List, [], ◌++◌, append-nil}
use Prim.Native.Nat.{ℕ, ◌+◌, ◌-◌, ◌^◌, ◌≤◌}
use Rattle.std.specs.Prelude.{Some, Ok, Err}
use native.Mathlib.Omega.{arith}
use native.Mathlib.Decide.{ℕ_discrete}
use lib.Dec.{leb}
use lib.ListN.{length, take, drop, length-replicate}
use lib.Seq.{drop-length}
use Rattle.base.proofs.Numbers.{true_le}
use Rattle.base.proofs.Tests.{and_left, and_right}
use Rattle.rules.specs.Board.{fresh}
use Rattle.accounts.specs.Accounts.{no_counts, CountsFit}
use Rattle.accounts.proofs.Turns.{fits_fresh}
use Rattle.log_bytes.specs.declared.Stage.{Stage}
use Rattle.log_bytes.specs.declared.Stage.TheVariants.{BeforeL, AfterL}
use Rattle.log_bytes.specs.declared.Event.{Event}
use Rattle.log_bytes.specs.declared.Event.TheVariants.{Largest}
use Rattle.log_bytes.specs.declared.End.{End}
use Rattle.log_bytes.specs.declared.Next.TheVariants.{Ends}
use Rattle.log_bytes.specs.Format.{past_l, in_turn}
use Rattle.log_bytes.specs.Rows.{Reading, next_of}
use Rattle.log_bytes.proofs.Stages.{past_after}
use Rattle.log_bytes.proofs.Wholes.{none_come}
use Rattle.log_bytes.proofs.First.{largest_range}
use Rattle.fragments.specs.Kept.{kept_bytes}
use Rattle.fragments.specs.declared.Reader.{Reader}
use Rattle.fragments.specs.declared.Read.{Read}
use Rattle.fragments.specs.Reading.{joined, GoesOnWith, KeptOn, ReadOn}
use Rattle.fragments.specs.Readers.{cut_at, at_next, next_told, after_read}
use Rattle.fragments.proofs.Kept.{kept_none, rest_joined}
use Rattle.fragments.proofs.Readers.{read_whole, read_part, whole_now, part_now}
use Rattle.lines.specs.Text.{Written, Line}
use Rattle.lines.proofs.Texts.{from_front}
use Rattle.arrays.specs.Lists.{zeroed}
use Rattle.board.specs.declared.Board as struct
use Rattle.board.specs.Leaving.{Returned, returned}
use Rattle.board.proofs.Fresh.{Starts, starts}
use Rattle.blocks.specs.Blocks.{fresh_in}
use Rattle.report_rules.specs.Report.{Reporting, unmade, report_on, report_from}
use Rattle.report_rules.proofs.Report.{report_whole}
use Rattle.counting.specs.Counting.{tallies_of, zero_account, zero_counts}
use Rattle.counting.proofs.Accounts.{sized_of}
use Rattle.counting.proofs.Counting.{zero_reads}
use Rattle.report_fields.specs.Fields.{ledger, reads, KnownLedger}
use Rattle.report_play.specs.declared.State.{State}
use Rattle.report_play.specs.declared.Ended.{Ended}
use Rattle.report_play.specs.Playing.{played_in, offset_of, left_of, one_line, CanPlay, PlayedOn}
use Rattle.report_play.proofs.Playing.{ends_one}
use Rattle.reporting.specs.Feeding.{Piece, Held, held, reporting, rest_of, feed_code, CanGoOn, stayed, ended_state, ended_piece, FeedDone, FeedOf}
use Rattle.reporting.proofs.Codes.{can_code, over_code, code_low}

-- ---- What is left, by the state

-- nothing, where the report is over
pub over_rest : (h : Held) → h.state.over ≡ true → (later : List ℕ) → rest_of h later ≡ []
unfolding rest_of
over_rest h e later =
    let s = h.state in
    ap (λ (t : Bool). cond t [] (report_from (reporting h) s.shown s.reader.at (kept_bytes s.reader.kept s.reader.came ++ later) s.reader.stage)) e

pub ended_rest : (s : State) (ids lens later : List ℕ) → rest_of (held (ended_state s) ids lens) later ≡ []
ended_rest s ids lens later = over_rest (held (ended_state s) ids lens) refl later

-- else the report of what has come of a field, and what follows
pub going_rest : (h : Held) → h.state.over ≡ false → (later : List ℕ)
    → rest_of h later ≡ report_from (reporting h) h.state.shown h.state.reader.at
    (kept_bytes h.state.reader.kept h.state.reader.came ++ later) h.state.reader.stage
unfolding rest_of
going_rest h e later =
    let s = h.state in
    ap (λ (t : Bool). cond t [] (report_from (reporting h) s.shown s.reader.at (kept_bytes s.reader.kept s.reader.came ++ later) s.reader.stage)) e

-- after L from the board in memory, and before it from none
pub past_rest : (s : State) (ids lens : List ℕ) → s.over ≡ false → past_l s.reader.stage ≡ true → (later : List ℕ)
    → rest_of (held s ids lens) later ≡ left_of s ids lens later
past_rest s ids lens e p later =
    going_rest (held s ids lens) e later
    ∙ ap (λ (r : Reporting). report_from r s.shown s.reader.at (kept_bytes s.reader.kept s.reader.came ++ later) s.reader.stage) (rw p)

pub before_rest : (s : State) (ids lens : List ℕ) → s.over ≡ false → past_l s.reader.stage ≡ false → (later : List ℕ)
    → rest_of (held s ids lens) later ≡ report_from unmade s.shown s.reader.at (kept_bytes s.reader.kept s.reader.came ++ later) s.reader.stage
before_rest s ids lens e p later =
    going_rest (held s ids lens) e later
    ∙ ap (λ (r : Reporting). report_from r s.shown s.reader.at (kept_bytes s.reader.kept s.reader.came ++ later) s.reader.stage) (rw p)

-- ---- A report of one line

pub ended_done : (s : State) (ids lens fragment out : List ℕ) (used : ℕ) (line ids' lens' out' : List ℕ) → length ids' ≡ 2048 → length lens' ≡ 2048
    → ((later : List ℕ) → line ≡ rest_of (held s ids lens) (fragment ++ later)) → used ≤ length out → Written out 0 line used out'
    → FeedDone s ids lens fragment out (ended_piece (length fragment) used s) ids' lens' out'
ended_done s ids lens fragment out used line ids' lens' out' a d is fits! w = record {
  done = refl;
  told = record {
    within = omega arith;
    fits = fits!;
    joined = λ later.
        ap (λ (t : List ℕ). take used out' ++ t) (ended_rest s ids' lens' (drop (length fragment) fragment ++ later))
        ∙ append-nil (take used out') ∙ l.text ∙ is later;
    untouched = l.rest;
  };
  goes_on = over_code s ids' lens' a d;
  quiet = λ e. absurd (true≢false e);
  all = λ r. inl refl;
  moves = λ r n. n;
  onward = λ e. absurd (true≢false e);
}
  where
    l : Line out line used out'
    l = from_front out line out' used (omega (arith, w.ends, fits!)) w

-- ---- The fields after L

module _ (s : State) (ids lens fragment out : List ℕ) (k : CanGoOn s ids lens) (p : past_l s.reader.stage ≡ true) where
  module _ (t : State) (ids' lens' : List ℕ) where
    -- all of the fragment is played
    pub next_done : PlayedOn s ids lens fragment (played_in (Ok tt) t) ids' lens'
        → FeedDone s ids lens fragment out (stayed 0 (length fragment) t) ids' lens' out
    next_done u = record {
      done = refl;
      told = record {
        within = omega arith;
        fits = omega arith;
        joined = λ later.
            ap (λ (x : List ℕ). rest_of (held t ids' lens') (x ++ later)) (drop-length fragment)
            ∙ past_rest t ids' lens' going.1.0 going.0.past later
            ∙ going.1.1.1 later
            ∙ sym (past_rest s ids lens k.going p (fragment ++ later));
        untouched = refl;
      };
      goes_on = can_code t ids' lens' (record {
        going = going.1.0;
        fit = going.0.fit;
        low = going.0.low;
        ids_all = going.0.good.good.ids_all;
        lens_all = going.0.good.good.lens_all;
        good = λ q. going.0.good;
      });
      quiet = λ q. refl;
      all = λ q. inl refl;
      moves = λ q n. n;
      onward = λ q. going.1.1.0;
    }
      where
        going : CanPlay t ids' lens'
            × ((t.over ≡ false)
            × ((offset_of t ≡ offset_of s + length fragment)
            × ((later : List ℕ) → left_of t ids' lens' later ≡ left_of s ids lens (fragment ++ later))))
        going = u.goes refl

    -- the log ends in it, and leaves the state
    pub next_last : (e : Ended) → PlayedOn s ids lens fragment (played_in (Err e) t) ids' lens' → t ≡ s → length ids' ≡ length ids → length lens' ≡ length lens
        → (used : ℕ) (out' : List ℕ) → Written out 0 (one_line e.full e.end) used out' → used ≤ length out
        → FeedDone s ids lens fragment out (ended_piece (length fragment) used t) ids' lens' out'
    next_last e u same a d used out' w fits =
        subst (λ (x : State). FeedDone s ids lens fragment out (ended_piece (length fragment) used x) ids' lens' out') (sym same)
        (ended_done s ids lens fragment out used (one_line e.full e.end) ids' lens' out' (a ∙ k.ids_all) (d ∙ k.lens_all)
        (λ later. u.stops refl later ∙ sym (past_rest s ids lens k.going p (fragment ++ later))) fits w)

-- ---- The first field

before_is : (stage : Stage) → past_l stage ≡ false → stage ≡ BeforeL
before_is BeforeL p = refl
before_is AfterL p = absurd (true≢false p)

pub before_turn : (e : Event) (stage : Stage) → past_l stage ≡ false → in_turn e stage ≡ true → in_turn e BeforeL ≡ true
before_turn e stage p = subst (λ (t : Stage). in_turn e t ≡ true) (before_is stage p)

module _ (s : State) (ids lens fragment out : List ℕ) (k : CanGoOn s ids lens) (p : past_l s.reader.stage ≡ false) where
  -- the report is one line
  pub first_last : (now : Reader) → now ≡ s.reader → (e : End)
      → ((later : List ℕ) → next_of s.reader.at (joined s.reader.kept s.reader.came fragment later) s.reader.stage ≡ Ends e) → (used : ℕ) (out' : List ℕ)
      → Written out 0 (one_line false e) used out' → used ≤ length out
      → FeedDone s ids lens fragment out (ended_piece (length fragment) used (record s { reader = now })) ids lens out'
  first_last now same e ends used out' w fits =
      subst (λ (r : Reader). FeedDone s ids lens fragment out (ended_piece (length fragment) used (record s { reader = r })) ids lens out') (sym same)
      (ended_done s ids lens fragment out used (one_line false e) ids lens out' k.ids_all k.lens_all
      (λ later.
      ends_one unmade s.shown s.reader.at (joined s.reader.kept s.reader.came fragment later) s.reader.stage e (ends later)
      ∙ sym (before_rest s ids lens k.going p (fragment ++ later)))
      fits w)

  -- it is not finished
  module _ (now : ℕ) (after : List ℕ) (h : KeptOn s.reader.at s.reader.stage s.reader.kept s.reader.came fragment now after) where
    abbrev partly : State
    partly = record s { reader = cut_at s.reader now after }

    partly_goes : CanGoOn partly ids lens
    partly_goes = record {
      going = k.going;
      fit = h.fit;
      low = k.low;
      ids_all = k.ids_all;
      lens_all = k.lens_all;
      good = λ q. absurd (true≢false (sym q ∙ p));
    }

    pub first_part : FeedDone s ids lens fragment out (stayed 0 (now - s.reader.came) partly) ids lens out
    first_part = record {
      done = refl;
      told = record {
        within = omega (arith, h.ends, h.moves);
        fits = omega arith;
        joined = λ later.
            before_rest partly ids lens k.going p (drop (now - s.reader.came) fragment ++ later)
            ∙ sym (ap (λ (x : Reading). report_on unmade s.shown x.fields x.ends) (h.is later))
            ∙ sym (before_rest s ids lens k.going p (fragment ++ later));
        untouched = refl;
      };
      goes_on = can_code partly ids lens partly_goes;
      quiet = λ q. refl;
      all = λ q. inr p;
      moves = λ q n. omega (arith, h.moves);
      onward = λ q. omega (arith, h.moves);
    }

  -- the board is made
  module _ (l size : ℕ) (g : GoesOnWith s.reader.at s.reader.stage s.reader.kept s.reader.came fragment (Largest l) size) (after : List ℕ)
      (b : struct.Board) (ids' lens' : List ℕ) (m : returned b ids' lens' ≡ fresh_in ids lens l) where
    in_range : leb 64 l && leb l 2048 ≡ true
    in_range = largest_range l (before_turn (Largest l) s.reader.stage p g.turn)

    made_starts : Starts b ids' lens' l
    made_starts =
        subst (λ (w : Returned struct.Board). Starts w.reply w.ids w.lens l) (sym m)
        (starts l (zeroed ids) (zeroed lens)
        (true_le 64 l (and_left (leb 64 l) (leb l 2048) in_range))
        (true_le l 2048 (and_right (leb 64 l) (leb l 2048) in_range))
        (length-replicate {A = ℕ} (length ids) 0 ∙ k.ids_all)
        (length-replicate {A = ℕ} (length lens) 0 ∙ k.lens_all))

    reads_made : reads (ledger b ids' lens' (tallies_of zero_counts) false) ≡ record { board = fresh l; counts = no_counts }
    reads_made = λ i. record { board = made_starts.reads i; counts = zero_reads i }

    made_known : KnownLedger (ledger b ids' lens' (tallies_of zero_counts) false)
    made_known = record {
      good = made_starts.good;
      fits = subst (λ (r : Reporting). CountsFit r.board r.counts) (sym reads_made) (fits_fresh l);
      sized = sized_of zero_counts (length-replicate 64 zero_account);
    }

    abbrev made : State
    made = record s { reader = at_next s.reader (Largest l) size after; board = b; counts = zero_counts }

    past! : past_l made.reader.stage ≡ true
    past! = past_after (Largest l) s.reader.stage g.turn

    made_goes : CanGoOn made ids' lens'
    made_goes = record {
      going = k.going;
      fit = none_come (s.reader.at + size) after made.reader.stage;
      low = g.low;
      ids_all = made_starts.good.ids_all;
      lens_all = made_starts.good.lens_all;
      good = λ q. made_known;
    }

    pub first_made : FeedDone s ids lens fragment out (stayed 0 (size - s.reader.came) made) ids' lens' out
    first_made = record {
      done = refl;
      told = record {
        within = omega (arith, g.ends, g.begins);
        fits = omega arith;
        joined = λ later.
            let whole = joined s.reader.kept s.reader.came fragment later in
            past_rest made ids' lens' k.going past! (drop (size - s.reader.came) fragment ++ later)
            ∙ ap (λ (t : List ℕ). report_from (reads (ledger b ids' lens' (tallies_of zero_counts) false)) s.shown (s.reader.at + size) t made.reader.stage)
            (kept_none after (drop (size - s.reader.came) fragment ++ later)
            ∙ sym (rest_joined s.reader.kept s.reader.came fragment later size (omega (arith, g.begins)) g.ends))
            ∙ ap (λ (r : Reporting). report_from r s.shown (s.reader.at + size) (drop size whole) made.reader.stage) reads_made
            ∙ sym (report_whole unmade s.shown s.reader.at whole s.reader.stage (Largest l) size (g.is later))
            ∙ sym (before_rest s ids lens k.going p (fragment ++ later));
        untouched = refl;
      };
      goes_on = can_code made ids' lens' made_goes;
      quiet = λ q. refl;
      all = λ q. inr p;
      moves = λ q n. omega (arith, g.begins);
      onward = λ q. omega (arith, g.begins);
    }

  -- what is read says of which
  module _ (read : Read) (now : Reader)
      (read_on : ReadOn s.reader.at s.reader.stage s.reader.kept s.reader.came fragment (next_told (Ok read) s.reader.came) now.kept)
      (after : now ≡ after_read (Ok read) s.reader now.kept) where
    pub first_more : ((e : Event) → read.event ≡ Some e → ⊥) → FeedDone s ids lens fragment out (stayed 0 read.taken (record s { reader = now })) ids lens out
    first_more never =
        part_now s.reader fragment read now read_on after
        (λ (r : Reader) (n : ℕ). FeedDone s ids lens fragment out (stayed 0 n (record s { reader = r })) ids lens out)
        never
        (first_part (s.reader.came + read.taken) now.kept (read_part s.reader fragment read now read_on after never))

    pub first_field : (l : ℕ) → read.event ≡ Some (Largest l) → (b : struct.Board) (ids' lens' : List ℕ) → returned b ids' lens' ≡ fresh_in ids lens l
        → FeedDone s ids lens fragment out (stayed 0 read.taken (record s { reader = now; board = b; counts = zero_counts })) ids' lens' out
    first_field l q b ids' lens' m =
        whole_now s.reader fragment read now read_on after
        (λ (r : Reader) (n : ℕ). FeedDone s ids lens fragment out (stayed 0 n (record s { reader = r; board = b; counts = zero_counts })) ids' lens' out)
        (Largest l) q
        (first_made l (s.reader.came + read.taken) (read_whole s.reader fragment read now read_on after (Largest l) q) now.kept b ids' lens' m)

-- ---- The promise of a call with a fragment

module _ (s : State) (ids lens fragment out : List ℕ) where
  pub done_feed : (r : Piece) (ids' lens' out' : List ℕ) → feed_code s ids lens ≡ 0 → FeedDone s ids lens fragment out r ids' lens' out'
      → FeedOf s ids lens fragment out r ids' lens' out'
  done_feed r ids' lens' out' z d = record { code = d.done ∙ sym z; refused = λ ne. absurd (ne d.done); done = λ q. d }

  -- where the report is over, all is taken
  pub over_feed : feed_code s ids lens ≡ 0 → s.over ≡ true → FeedDone s ids lens fragment out (stayed 0 (length fragment) s) ids lens out
  over_feed z e = record {
    done = refl;
    told = record {
      within = omega arith;
      fits = omega arith;
      joined = λ later.
          over_rest (held s ids lens) e (drop (length fragment) fragment ++ later) ∙ sym (over_rest (held s ids lens) e (fragment ++ later));
      untouched = refl;
    };
    goes_on = z;
    quiet = λ q. refl;
    all = λ q. inl refl;
    moves = λ q n. n;
    onward = λ q. absurd (true≢false (sym e ∙ q));
  }

-- ---- What a program goes by from call to call

module _ (s : State) (ids lens fragment out : List ℕ) (r : Piece) (ids' lens' out' : List ℕ) (p : FeedOf s ids lens fragment out r ids' lens' out') where
  pub feed_fits : (r.used ≤ length out) × (r.taken ≤ length fragment)
  feed_fits = go (ℕ_discrete r.code 0)
    where
      go : Dec (r.code ≡ 0) → (r.used ≤ length out) × (r.taken ≤ length fragment)
      go (yes z) = ((p.done z).told.fits, (p.done z).told.within)
      go (no n) =
          let same = (p.refused n).0 in
          (omega (arith, ap (λ (x : Piece). x.used) same), omega (arith, ap (λ (x : Piece). x.taken) same))

  -- a state that is left by a call, and not over, is at an offset of no byte past the end of every log
  pub feed_low : r.code ≡ 0 → r.state.over ≡ false → offset_of r.state ≤ 2 ^ 48
  feed_low z e = code_low r.state ids' lens' (p.done z).goes_on e
