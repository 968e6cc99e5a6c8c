-- The first field of a listing, its end, and the promise of each call; and however the log is cut, the listing is that
-- of the joined log. Assumes nothing.
use mathlib.Core.Path.{◌≡◌, refl, sym, ap, subst, ◌∙◌}
use mathlib.Core.Bool.{Bool, true, false, cond, ◌&&◌, true≢false}
use mathlib.Core.Logic.{◌⊎◌, inl, inr, ◌≢◌}
use mathlib.Core.List.{List, [], ◌++◌, append-nil}
use Prim.Native.Nat.{ℕ, ◌+◌, ◌-◌, ◌/◌, ◌^◌, ◌≤◌, ◌<◌}
use Rattle.std.specs.Prelude.{Some, Ok}
use native.Mathlib.Omega.{arith}
use native.Mathlib.Decide.{ℕ_discrete}
use lib.Dec.{leb}
use lib.ListN.{length, take, drop, length-replicate}
use Rattle.base.proofs.Numbers.{true_le}
use Rattle.base.proofs.Tests.{and_left, and_right}
use Rattle.rules.specs.Board
use Rattle.board.specs.declared.Board as struct
use Rattle.log_bytes.specs.declared.Stage.{Stage}
use Rattle.log_bytes.specs.declared.Stage.TheVariants.{BeforeL, AfterL}
use Rattle.log_bytes.specs.declared.Event.{Event}
use Rattle.log_bytes.specs.declared.Event.TheVariants.{Largest}
use Rattle.log_bytes.specs.declared.End.{End}
use Rattle.log_bytes.specs.declared.End.TheVariants.{Whole as ends-whole, Broken as ends-broken, Long as ends-long}
use Rattle.log_bytes.specs.declared.Next.TheVariants.{Ends, Unfinished}
use Rattle.log_bytes.specs.Format.{past_l, in_turn}
use Rattle.log_bytes.specs.Rows.{end_in, next_of}
use Rattle.log_bytes.proofs.Wholes.{none_come, never_whole, part_is}
use Rattle.log_bytes.proofs.Readings.{end_whole, end_short}
use Rattle.log_bytes.proofs.First.{largest_range}
use Rattle.fragments.specs.Kept.{kept_bytes}
use Rattle.fragments.specs.Reading.{joined, GoesOnWith, KeptOn, ReadOn}
use Rattle.fragments.specs.Kept.{is_fit}
use Rattle.fragments.specs.declared.Reader.{Reader}
use Rattle.fragments.specs.declared.Read.{Read}
use Rattle.fragments.specs.Readers.{at_next, next_told, after_read}
use Rattle.fragments.proofs.Readers.{read_whole, read_part, whole_now, part_now}
use Rattle.fragments.proofs.Kept.{kept_none, fit_only, fit_is}
use Rattle.fragments.proofs.Reading.{kept_next}
use Rattle.fragments.proofs.Feeding.{tells_all, told_nothing}
use Rattle.lines.specs.Text.{Written, Line}
use Rattle.lines.proofs.Texts.{from_front}
use Rattle.arrays.specs.Lists.{total_of, zeroed}
use Rattle.board.specs.Leaving.{Returned, returned}
use Rattle.board.proofs.Fresh.{Starts, starts}
use Rattle.blocks.specs.Blocks.{fresh_in}
use Rattle.listing_rules.specs.Listing.{unmade, played, last_of, last_line, listing_from, listing_of}
use Rattle.listing_rules.proofs.Listing.{listing_ends, listing_cut, listing_first}
use Rattle.fields.specs.Fields.{memory, reads}
use Rattle.player.specs.declared.State.{State}
use Rattle.player.specs.Feeding.{Piece, piece, before_first, Held, held, playing, rest_of, is_over, offset_of, unfit, feed_code, CanGoOn, stayed, ended_piece}
use Rattle.player.specs.Feeding.{FeedDone, FeedOf, CloseDone, CloseOf, FeedsListing}
use Rattle.player.proofs.Codes.{right_code, can_code, over_code, can_before}
use Rattle.player.proofs.Feeding.{over_rest, ended_rest, past_rest, before_rest, ended_done, last_line_lem}
use Rattle.player.proofs.Feeding.{partly, partly_goes, partly_rest, beyond_goes, beyond_rest}

-- before L nothing is shown but how the log ends, and it does not end whole
before_line : (at : ℕ) (bytes : List ℕ) (stage : Stage) (e : End) → next_of at bytes stage ≡ Ends e → last_of 0 0 0 e ≡ last_line unmade e
unfolding next_of
before_line at bytes stage ends-whole h = absurd (never_whole at bytes (length bytes) stage h)
before_line at bytes stage (ends-broken n) h = refl
before_line at bytes stage ends-long h = refl

before_is : (stage : Stage) → past_l stage ≡ false → stage ≡ BeforeL
before_is BeforeL p = refl
before_is AfterL p = absurd (true≢false p)

pub before_turn : (e : Event) (stage : Stage) → past_l stage ≡ false → in_turn e stage ≡ true → in_turn e BeforeL ≡ true
before_turn e stage p = subst (λ (t : Stage). in_turn e t ≡ true) (before_is stage p)

-- ---- The first field

module _ (s : State) (ids lens fragment out : List ℕ) (k : CanGoOn s ids lens) (p : past_l s.reader.stage ≡ false) where
  -- no room for a line, or no byte
  pub first_none : (length out < 64) ⊎ (length fragment ≡ 0) → FeedDone s ids lens fragment out (stayed 0 0 s) ids lens out
  first_none stop = record {
    done = refl;
    told = told_nothing rest_of (held s ids lens) fragment out;
    goes_on = can_code s ids lens k;
    all = inr (inr p);
    moves = λ h n. absurd (go h n stop);
    onward = λ e. omega arith;
  }
    where
      go : 64 ≤ length out → 0 < length fragment → (length out < 64) ⊎ (length fragment ≡ 0) → ⊥
      go h n (inl r) = omega (arith, h, r)
      go h n (inr r) = omega (arith, n, r)

  abbrev reading : Reader → State
  reading r = record { reader = r; over = s.over; sent = s.sent; board = s.board }

  -- the listing is one line
  pub first_last : (now : Reader) → now ≡ s.reader → (e : End)
      → ((later : List ℕ) → next_of s.reader.at (joined s.reader.kept s.reader.came fragment later) s.reader.stage ≡ Ends e) → (last : ℕ) (out' : List ℕ)
      → Written out 0 (last_of 0 0 0 e) last out' → last ≤ length out
      → FeedDone s ids lens fragment out (ended_piece (length fragment) last (reading now)) ids lens out'
  first_last now same e ends last out' w small =
      subst (λ (r : Reader). FeedDone s ids lens fragment out (ended_piece (length fragment) last (reading r)) ids lens out') (sym same)
      (ended_done s ids lens fragment out last (last_of 0 0 0 e) ids lens out' k.ids_all k.lens_all
      (λ later.
      before_rest s ids lens k.going p (fragment ++ later)
      ∙ listing_ends unmade s.reader.at (joined s.reader.kept s.reader.came fragment later) s.reader.stage e (ends later)
      ∙ sym (before_line s.reader.at (joined s.reader.kept s.reader.came fragment later) s.reader.stage e (ends later)))
      small w)

  -- it is not finished
  pub first_part : (now : ℕ) (after : List ℕ) (h : KeptOn s.reader.at s.reader.stage s.reader.kept s.reader.came fragment now after)
      → FeedDone s ids lens fragment out (piece (record { taken = now - s.reader.came; used = 0 }) (partly s ids lens fragment k now after h)) ids lens out
  first_part now after h = record {
    done = refl;
    told = record {
      within = omega (arith, h.ends, h.moves);
      fits = omega arith;
      joined = partly_rest s ids lens fragment k now after h;
      untouched = refl;
    };
    goes_on = can_code _ ids lens (partly_goes s ids lens fragment k now after h);
    all = inr (inr p);
    moves = λ r n. omega (arith, h.moves);
    onward = λ e. omega (arith, h.moves);
  }

  -- the board is made
  module _ (l size : ℕ) (g : GoesOnWith s.reader.at s.reader.stage s.reader.kept s.reader.came fragment (Largest l) size) (after : List ℕ)
      (same : length after ≡ length s.reader.kept) (b : struct.Board) (ids' lens' : List ℕ) (m : returned b ids' lens' ≡ fresh_in ids lens l) where
    in_range : leb 64 l && leb l 2048 ≡ true
    in_range = largest_range l (before_turn (Largest l) s.reader.stage p g.turn)

    made_starts : Starts b ids' lens' l
    made_starts =
        subst (λ (w : Returned struct.Board). Starts w.reply w.ids w.lens l) (sym m)
        (starts l (zeroed ids) (zeroed lens)
        (true_le 64 l (and_left (leb 64 l) (leb l 2048) in_range))
        (true_le l 2048 (and_right (leb 64 l) (leb l 2048) in_range))
        (length-replicate {A = ℕ} (length ids) 0 ∙ k.ids_all)
        (length-replicate {A = ℕ} (length lens) 0 ∙ k.lens_all))

    reads! : reads (memory b ids' lens' 0) ≡ played (playing (held s ids lens)) (Largest l)
    reads! = ap (λ (x : Board.Board). record { board = x; sent = 0 }) made_starts.reads

    none! : 0 / 65536 ≤ (s.reader.at + size) / 3
    none! = omega arith

    pub first_made : FeedDone s ids lens fragment out (record {
      code = 0;
      taken = size - s.reader.came;
      used = 0;
      state = record { reader = at_next s.reader (Largest l) size after; over = s.over; sent = record { 0 = 0 }; board = b };
    }) ids' lens' out
    first_made = record {
      done = refl;
      told = record {
        within = omega (arith, g.ends, g.begins);
        fits = omega arith;
        joined = beyond_rest _ _ _ _ k _ _ g _ same _ _ _ _ made_starts.good none! reads!;
        untouched = refl;
      };
      goes_on = can_code _ _ _ (beyond_goes _ _ _ _ k _ _ g _ same _ _ _ _ made_starts.good none! reads!);
      all = inr (inr p);
      moves = λ r n. omega (arith, g.begins);
      onward = λ e. omega (arith, g.begins);
    }

  -- what is read says of which
  module _ (read : Read) (now : Reader)
      (read_on : ReadOn s.reader.at s.reader.stage s.reader.kept s.reader.came fragment (next_told (Ok read) s.reader.came) now.kept)
      (after : now ≡ after_read (Ok read) s.reader now.kept) where
    pub first_more : ((e : Event) → read.event ≡ Some e → ⊥)
        → FeedDone s ids lens fragment out (piece (record { taken = read.taken; used = 0 }) (reading now)) ids lens out
    first_more never =
        part_now s.reader fragment read now read_on after
        (λ (r : Reader) (n : ℕ). FeedDone s ids lens fragment out (piece (record { taken = n; used = 0 }) (reading r)) ids lens out)
        never
        (first_part (s.reader.came + read.taken) now.kept (read_part s.reader fragment read now read_on after never))

    pub first_field : (l : ℕ) → read.event ≡ Some (Largest l) → (b : struct.Board) (ids' lens' : List ℕ) → returned b ids' lens' ≡ fresh_in ids lens l
        → FeedDone s ids lens fragment out (piece (record { taken = read.taken; used = 0 })
        (record { reader = now; over = s.over; sent = record { 0 = 0 }; board = b })) ids' lens' out
    first_field l q b ids' lens' m =
        whole_now s.reader fragment read now read_on after
        (λ (r : Reader) (n : ℕ).
        FeedDone s ids lens fragment out (piece (record { taken = n; used = 0 }) (record { reader = r; over = s.over; sent = record { 0 = 0 }; board = b }))
        ids' lens' out)
        (Largest l) q
        (first_made l (s.reader.came + read.taken) (read_whole s.reader fragment read now read_on after (Largest l) q) now.kept read_on.room b ids' lens' m)

-- ---- The end of a listing

module _ (s : State) (ids lens out : List ℕ) where
  -- it is over, or there is no room for its last line
  pub close_none : feed_code s ids lens ≡ 0 → (s.over ≡ true) ⊎ (length out < 64) → CloseDone s ids lens out (stayed 0 0 s) out
  close_none z h = record {
    done = refl;
    none = refl;
    closed = record { fits = omega arith; joined = refl; untouched = refl };
    goes_on = z;
    ends = λ r. go h r;
  }
    where
      go : (s.over ≡ true) ⊎ (length out < 64) → 64 ≤ length out → s.over ≡ true
      go (inl e) r = e
      go (inr l) r = absurd (omega (arith, l, r))

  module _ (k : CanGoOn s ids lens) where
    abbrev end : End
    end = end_in s.reader.at s.reader.came s.reader.stage

    -- the last line, whatever has been read
    line_is : (count : ℕ) → count ≡ total_of s.board.counts → last_of s.board.clock s.sent.0 count end ≡ rest_of (held s ids lens) []
    line_is count n = go (past_l s.reader.stage) refl
      where
        cut : next_of s.reader.at (kept_bytes s.reader.kept s.reader.came ++ []) s.reader.stage ≡ Unfinished s.reader.came
        cut = kept_next s.reader.at s.reader.kept s.reader.came s.reader.stage k.room k.fit

        -- before L it is not whole, so no number of the board is shown
        unshown : (e : End) → end ≡ e → past_l s.reader.stage ≡ false → last_of s.board.clock s.sent.0 count e ≡ last_line unmade e
        unshown ends-whole q p = absurd (true≢false (sym (end_whole s.reader.at s.reader.came s.reader.stage q).0 ∙ p))
        unshown (ends-broken x) q p = refl
        unshown ends-long q p = absurd (end_short s.reader.at s.reader.came s.reader.stage q)

        go : (t : Bool) → past_l s.reader.stage ≡ t → last_of s.board.clock s.sent.0 count end ≡ rest_of (held s ids lens) []
        go true p =
            last_line_lem (memory s.board ids lens s.sent.0) (k.good p) end count n
            ∙ sym (listing_cut (reads (memory s.board ids lens s.sent.0)) s.reader.at
            (kept_bytes s.reader.kept s.reader.came ++ []) s.reader.stage s.reader.came cut)
            ∙ sym (past_rest s ids lens k.going p [])
        go false p =
            unshown end refl p ∙ sym (listing_cut unmade s.reader.at (kept_bytes s.reader.kept s.reader.came ++ []) s.reader.stage s.reader.came cut)
            ∙ sym (before_rest s ids lens k.going p [])

    pub close_last : (count : ℕ) → count ≡ total_of s.board.counts → (last : ℕ) (out' : List ℕ) → (e : End) → e ≡ end
        → Written out 0 (last_of s.board.clock s.sent.0 count e) last out' → last ≤ length out
        → CloseDone s ids lens out (ended_piece 0 last s) out'
    close_last count n last out' e q w small = record {
      done = refl;
      none = refl;
      closed = record {
        fits = small;
        joined =
            ap (λ (t : List ℕ). take last out' ++ t) (ended_rest s ids lens []) ∙ append-nil (take last out') ∙ l.text
            ∙ ap (last_of s.board.clock s.sent.0 count) q ∙ line_is count n;
        untouched = l.rest;
      };
      goes_on = over_code s ids lens k.ids_all k.lens_all;
      ends = λ r. refl;
    }
      where
        l : Line out (last_of s.board.clock s.sent.0 count e) last out'
        l = from_front out (last_of s.board.clock s.sent.0 count e) out' last (omega (arith, w.ends, small)) w

-- ---- The promise of each call

module _ (s : State) (ids lens out : List ℕ) where
  pub refused_feed : (fragment : List ℕ) (code : ℕ) → code ≡ feed_code s ids lens → code ≢ 0 → FeedOf s ids lens fragment out (stayed code 0 s) ids lens out
  refused_feed fragment code e ne = record { code = e; refused = λ q. (refl, (refl, (refl, refl))); done = λ z. absurd (ne z) }

  pub done_feed : (fragment : List ℕ) (r : Piece) (ids' lens' out' : List ℕ) → feed_code s ids lens ≡ 0 → FeedDone s ids lens fragment out r ids' lens' out'
      → FeedOf s ids lens fragment out r ids' lens' out'
  done_feed fragment r ids' lens' out' z d = record { code = d.done ∙ sym z; refused = λ ne. absurd (ne d.done); done = λ q. d }

  -- where the listing is over, all is taken and nothing written
  pub over_feed : (fragment : List ℕ) → feed_code s ids lens ≡ 0 → s.over ≡ true → FeedDone s ids lens fragment out (stayed 0 (length fragment) s) ids lens out
  over_feed fragment z e = record {
    done = refl;
    told = record {
      within = omega arith;
      fits = omega arith;
      joined = λ later.
          over_rest (held s ids lens) e (drop (length fragment) fragment ++ later) ∙ sym (over_rest (held s ids lens) e (fragment ++ later));
      untouched = refl;
    };
    goes_on = z;
    all = inl refl;
    moves = λ r n. n;
    onward = λ q. absurd (true≢false (sym e ∙ q));
  }

  pub refused_close : (code : ℕ) → code ≡ feed_code s ids lens → code ≢ 0 → CloseOf s ids lens out (stayed code 0 s) out
  refused_close code e ne = record { code = e; refused = λ q. (refl, refl); done = λ z. absurd (ne z) }

  pub done_close : (r : Piece) (out' : List ℕ) → feed_code s ids lens ≡ 0 → CloseDone s ids lens out r out' → CloseOf s ids lens out r out'
  done_close r out' z d = record { code = d.done ∙ sym z; refused = λ ne. absurd (ne d.done); done = λ q. d }

-- ---- HOWEVER THE LOG IS CUT, what is written is its listing

pub before_first_rest : (log ids lens : List ℕ) → rest_of (held before_first ids lens) log ≡ listing_of log
before_first_rest log ids lens =
    before_rest before_first ids lens refl refl log ∙ ap (λ (t : List ℕ). listing_from unmade 0 t BeforeL) (kept_none before_first.reader.kept log)
    ∙ sym (listing_first log)

pub feeds_listing : FeedsListing
feeds_listing log ids lens written t =
    tells_all Held rest_of is_over (λ h e. over_rest h e []) (held before_first ids lens) log written t ∙ before_first_rest log ids lens

-- ---- What a program goes by from call to call

pub before_first_ready : (ids lens : List ℕ) → length ids ≡ 2048 → length lens ≡ 2048 → feed_code before_first ids lens ≡ 0
before_first_ready ids lens a d =
    let fits = fit_is 0 before_first.reader.kept 0 BeforeL (none_come 0 before_first.reader.kept BeforeL) (omega arith) in
    can_code before_first ids lens (can_before before_first ids lens a d fits refl refl refl)

-- no byte is read past the end of every log
pub code_low : (s : State) (ids lens : List ℕ) → length ids ≡ 2048 → length lens ≡ 2048 → feed_code s ids lens ≡ 0 → s.over ≡ false → offset_of s ≤ 2 ^ 48
code_low s ids lens a d z e = go (is_fit s.reader.at s.reader.kept s.reader.came s.reader.stage) refl
  where
    going : ◌≡◌ {A = ℕ} (cond (unfit s ids lens) 2 0) 0
    going = ap (λ (t : Bool). cond t 0 (cond (unfit s ids lens) 2 0)) (sym e) ∙ sym (right_code s ids lens a d) ∙ z

    go : (t : Bool) → is_fit s.reader.at s.reader.kept s.reader.came s.reader.stage ≡ t → offset_of s ≤ 2 ^ 48
    go true f =
        let fit! = fit_only s.reader.at s.reader.kept s.reader.came s.reader.stage f in
        omega (arith, (part_is s.reader.at s.reader.kept s.reader.came s.reader.stage s.reader.came fit!.0).low, fit!.1)
    go false f = let two : ◌≡◌ {A = ℕ} 2 0 = rw f at going in absurd (omega (arith, two))

module _ (s : State) (ids lens fragment out : List ℕ) (r : Piece) (ids' lens' out' : List ℕ) (p : FeedOf s ids lens fragment out r ids' lens' out') where
  pub feed_fits : (r.used ≤ length out) × (r.taken ≤ length fragment)
  feed_fits = go (ℕ_discrete r.code 0)
    where
      go : Dec (r.code ≡ 0) → (r.used ≤ length out) × (r.taken ≤ length fragment)
      go (yes z) = ((p.done z).told.fits, (p.done z).told.within)
      go (no n) =
          let q = (p.refused n).0 in
          (omega (arith, ap (λ (x : Piece). x.used) q), omega (arith, ap (λ (x : Piece). x.taken) q))

  pub feed_next : feed_code s ids lens ≡ 0 → FeedDone s ids lens fragment out r ids' lens' out'
  feed_next z = p.done (p.code ∙ z)

pub close_fits : (s : State) (ids lens out : List ℕ) (r : Piece) (out' : List ℕ) → CloseOf s ids lens out r out' → r.used ≤ length out
close_fits s ids lens out r out' p = go (ℕ_discrete r.code 0)
  where
    go : Dec (r.code ≡ 0) → r.used ≤ length out
    go (yes z) = (p.done z).closed.fits
    go (no n) = omega (arith, ap (λ (x : Piece). x.used) (p.refused n).0)
