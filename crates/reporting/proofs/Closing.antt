-- The end of a report, and the promise of the call that writes it; and however the log is cut, the report is that of the
-- joined log. Assumes nothing.
use mathlib.Core.Path.{◌≡◌, refl, sym, ap, ◌∙◌}
use mathlib.Core.Bool.{Bool, true, false, cond, ◌&&◌}
use mathlib.Core.Logic.{◌⊎◌, inl, inr}
use mathlib.Core.List.{List, [], ◌++◌, append-nil}
use Prim.Native.Nat.{ℕ, ◌≤◌, ◌<◌}
use native.Mathlib.Omega.{arith}
use native.Mathlib.Decide.{ℕ_discrete}
use lib.ListN.{length, take}
use Rattle.accounts.specs.Promises.{Small}
use Rattle.accounts.proofs.Turns.{fit_small}
use Rattle.log_bytes.specs.declared.Stage.TheVariants.{BeforeL}
use Rattle.log_bytes.specs.declared.End.{End}
use Rattle.log_bytes.specs.Format.{past_l}
use Rattle.log_bytes.specs.Rows.{end_in}
use Rattle.log_bytes.proofs.Readings.{end_whole}
use Rattle.fragments.specs.Kept.{kept_bytes}
use Rattle.fragments.proofs.Kept.{kept_none}
use Rattle.fragments.proofs.Reading.{kept_next}
use Rattle.fragments.proofs.Feeding.{tells_all}
use Rattle.lines.specs.Text.{Written, Line}
use Rattle.lines.proofs.Texts.{from_front}
use Rattle.board.specs.Reading.{view}
use Rattle.report_rules.specs.Report.{Reporting, unmade, report_end, report_from}
use Rattle.report_rules.proofs.Report.{report_cut, report_first}
use Rattle.counting.specs.Counting.{tallies_of, account_now}
use Rattle.report_fields.specs.Fields.{reads, KnownLedger}
use Rattle.report_play.specs.declared.State.{State}
use Rattle.report_play.specs.Playing.{ledger_of, one_line}
use Rattle.reporting.specs.Feeding.{Piece, before_first, Held, held, reporting, rest_of, is_over, feed_code, CanGoOn, ended_state, ended_piece}
use Rattle.reporting.specs.Feeding.{CloseDone, CloseOf, FeedsReport}
use Rattle.reporting.specs.Shown.{lines_from_in, has_stopped, is_alone, showing, PlacesShown}
use Rattle.reporting.proofs.Codes.{can_code, over_code}
use Rattle.reporting.proofs.Shown.{whole_report, alone_line, not_alone}
use Rattle.reporting.proofs.Feeding.{over_rest, ended_rest, going_rest, before_rest}

-- whether the counting has stopped, as the definition reads it
full_is : (s : State) (ids lens : List ℕ) → has_stopped s ≡ (reporting (held s ids lens)).counts.full
full_is s ids lens = go (past_l s.reader.stage)
  where
    go : (t : Bool) → t && s.counts.full ≡ (cond t (reads (ledger_of s ids lens)) unmade).counts.full
    go true = refl
    go false = refl

module _ (s : State) (ids lens out : List ℕ) where
  module _ (k : CanGoOn s ids lens) (room : length s.reader.kept ≡ 13) (e : End) (is : e ≡ end_in s.reader.at s.reader.came s.reader.stage) (full : Bool)
      (stopped : full ≡ has_stopped s) where
    -- what is left at the log's end, from any place on
    left_from : (p : ℕ) → rest_of (held (showing s p) ids lens) [] ≡ report_end (reporting (held s ids lens)) p e
    left_from p =
        going_rest (held (showing s p) ids lens) refl []
        ∙ report_cut (reporting (held s ids lens)) p s.reader.at (kept_bytes s.reader.kept s.reader.came ++ []) s.reader.stage s.reader.came
        (kept_next s.reader.at s.reader.kept s.reader.came s.reader.stage room k.fit)
        ∙ ap (report_end (reporting (held s ids lens)) p) (sym is)

    -- and from the first that is not shown
    itself : s ≡ showing s s.shown
    itself = λ i. record {
      reader = s.reader;
      over = k.going i;
      shown = s.shown;
      board = s.board;
      counts = s.counts;
    }

    left_all : rest_of (held s ids lens) [] ≡ report_end (reporting (held s ids lens)) s.shown e
    left_all = ap (λ (x : State). rest_of (held x ids lens) []) itself ∙ left_from s.shown

    -- one line
    pub close_alone : is_alone full e ≡ true → (used : ℕ) (out' : List ℕ) → Written out 0 (one_line full e) used out' → used ≤ length out
        → CloseDone s ids lens out (ended_piece 0 used s) out'
    close_alone one used out' w small = record {
      done = refl;
      none = refl;
      closed = record {
        fits = small;
        joined =
            ap (λ (t : List ℕ). take used out' ++ t) (ended_rest s ids lens []) ∙ append-nil (take used out') ∙ l.text
            ∙ alone_line (reporting (held s ids lens)) s.shown full e (stopped ∙ full_is s ids lens) one ∙ sym left_all;
        untouched = l.rest;
      };
      goes_on = over_code s ids lens k.ids_all k.lens_all;
      moves = λ r. inl refl;
    }
      where
        l : Line out (one_line full e) used out'
        l = from_front out (one_line full e) out' used (omega (arith, w.ends, small)) w

    -- or the lines of the places
    module _ (many : is_alone full e ≡ false) where
      past : past_l s.reader.stage ≡ true
      past = (end_whole s.reader.at s.reader.came s.reader.stage (sym is ∙ (not_alone full e many).1)).0

      known : KnownLedger (ledger_of s ids lens)
      known = k.good past

      counting : s.counts.full ≡ false
      counting = sym (ap (λ (t : Bool). t && s.counts.full) past) ∙ sym stopped ∙ (not_alone full e many).0

      pub close_small : (p : ℕ) → Small (account_now (tallies_of s.counts) p)
      close_small p = fit_small (view s.board ids lens) p (account_now (tallies_of s.counts) p) (known.fits counting p)

      lines_are : (p : ℕ) → lines_from_in s.board (tallies_of s.counts) p ≡ report_end (reporting (held s ids lens)) p e
      lines_are p =
          whole_report s.board ids lens known.good (tallies_of s.counts) s.counts.full counting p
          ∙ ap (report_end (reads (ledger_of s ids lens)) p) (sym (not_alone full e many).1)
          ∙ ap (λ (r : Reporting). report_end r p e) (sym (ap (λ (t : Bool). cond t (reads (ledger_of s ids lens)) unmade) past))

      module _ (x : Piece) (out' : List ℕ) (shown : PlacesShown s out x out') where
        left : (x.state ≡ ended_state s) ⊎ ((x.state ≡ showing s x.state.shown) × ((s.shown < x.state.shown) × (x.state.shown ≤ 64)))
            → rest_of (held x.state ids lens) [] ≡ cond x.state.over [] (lines_from_in s.board (tallies_of s.counts) x.state.shown)
        left (inl q) =
            ap (λ (t : State). rest_of (held t ids lens) []) q ∙ ended_rest s ids lens []
            ∙ sym (ap (λ (t : State). cond t.over [] (lines_from_in s.board (tallies_of s.counts) t.shown)) q)
        left (inr m) =
            ap (λ (t : State). rest_of (held t ids lens) []) m.0 ∙ left_from x.state.shown ∙ sym (lines_are x.state.shown)
            ∙ sym (ap (λ (t : State). cond t.over [] (lines_from_in s.board (tallies_of s.counts) x.state.shown)) m.0)

        on : (x.state ≡ ended_state s) ⊎ ((x.state ≡ showing s x.state.shown) × ((s.shown < x.state.shown) × (x.state.shown ≤ 64)))
            → (x.state.over ≡ true) ⊎ ((s.shown < x.state.shown) × (x.state.shown ≤ 64))
        on (inl q) = inl (ap (λ (t : State). t.over) q)
        on (inr m) = inr m.1

        next : (x.state ≡ ended_state s) ⊎ ((x.state ≡ showing s x.state.shown) × ((s.shown < x.state.shown) × (x.state.shown ≤ 64)))
            → feed_code x.state ids lens ≡ 0
        next (inl q) = ap (λ (t : State). feed_code t ids lens) q ∙ over_code s ids lens k.ids_all k.lens_all
        next (inr m) =
            ap (λ (t : State). feed_code t ids lens) m.0
            ∙ can_code (showing s x.state.shown) ids lens
            (record { going = refl; fit = k.fit; low = k.low; ids_all = k.ids_all; lens_all = k.lens_all; good = k.good })

        pub close_places : CloseDone s ids lens out x out'
        close_places = record {
          done = shown.done;
          none = shown.none;
          closed = record {
            fits = shown.fits;
            joined = ap (λ (t : List ℕ). take x.used out' ++ t) (left shown.stays) ∙ shown.joined ∙ lines_are s.shown ∙ sym left_all;
            untouched = shown.rest;
          };
          goes_on = next shown.stays;
          moves = λ r. on shown.stays;
        }

  -- ---- The promise of a call at the log's end

  pub done_close : (r : Piece) (out' : List ℕ) → feed_code s ids lens ≡ 0 → CloseDone s ids lens out r out' → CloseOf s ids lens out r out'
  done_close r out' z d = record { code = d.done ∙ sym z; refused = λ ne. absurd (ne d.done); done = λ q. d }

-- ---- What a program goes by from call to call

module _ (s : State) (ids lens out : List ℕ) (r : Piece) (out' : List ℕ) (p : CloseOf s ids lens out r out') where
  pub close_fits : r.used ≤ length out
  close_fits = go (ℕ_discrete r.code 0)
    where
      go : Dec (r.code ≡ 0) → r.used ≤ length out
      go (yes z) = (p.done z).closed.fits
      go (no n) = omega (arith, ap (λ (x : Piece). x.used) (p.refused n).0)

-- ---- HOWEVER THE LOG IS CUT, what is written is its report

before_first_rest : (log ids lens : List ℕ) → rest_of (held before_first ids lens) log ≡ report_from unmade 0 0 log BeforeL
before_first_rest log ids lens =
    before_rest before_first ids lens refl refl log ∙ ap (λ (t : List ℕ). report_from unmade 0 0 t BeforeL) (kept_none before_first.reader.kept log)

pub feeds_report : FeedsReport
feeds_report log ids lens written t =
    tells_all Held rest_of is_over (λ h e. over_rest h e []) (held before_first ids lens) log written t ∙ before_first_rest log ids lens
    ∙ sym (report_first log)
