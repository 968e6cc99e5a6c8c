-- The report's lines on the arrays are those of the definition, and what is written of them place by place. Assumes
-- nothing.
use mathlib.Core.Path.{◌≡◌, refl, sym, ap, ap₂, subst, ◌∙◌}
use mathlib.Core.Bool.{Bool, true, false, cond, true≢false}
use mathlib.Core.Logic.{◌⊎◌, inl, inr}
use mathlib.Core.List.{List, [], ◌++◌, append_assoc, append-nil}
use Prim.Native.Nat.{ℕ, zero, suc, ◌+◌, ◌-◌, ◌≤◌, ◌<◌}
use native.Mathlib.Omega.{arith}
use lib.ListN.{length, get_or, take}
use Rattle.rules.specs.Board.{at}
use Rattle.board.specs.declared.Board as struct
use Rattle.board.specs.Reading.{view}
use Rattle.board.specs.Leaving.{Known}
use Rattle.board.proofs.Fields.{number_is, share_is}
use Rattle.log_bytes.specs.declared.End.{End}
use Rattle.log_bytes.specs.declared.End.TheVariants.{Whole as whole, Broken as broken, Long as long}
use Rattle.lines.specs.Text.{Written, Line}
use Rattle.lines.proofs.Texts.{none, then, written_length, from_front}
use Rattle.report_lines.specs.Text.{full_line}
use Rattle.report_rules.specs.Report.{Reporting, place_line, place_lines, report_end}
use Rattle.counting.specs.Counting.{Tallies, tallies_of, account_now}
use Rattle.report_fields.specs.Fields.{ledger, reads}
use Rattle.report_play.specs.declared.State.{State}
use Rattle.report_play.specs.Playing.{one_line}
use Rattle.reporting.specs.Feeding.{ended_piece}
use Rattle.reporting.specs.Shown.{line_by, line_at, lines_in, lines_from_in, is_alone, PlacesShown}

-- ---- The lines on the arrays

module _ (b : struct.Board) (ids lens : List ℕ) (k : Known b ids lens) (t : Tallies) (full : Bool) where
  line_is : (p : ℕ) → line_at b t p ≡ place_line (reads (ledger b ids lens t full)) p
  unfolding place_line
  line_is p = ap₂ (λ (share number : ℕ). line_by share number (account_now t p)) share number
    where
      share : get_or b.shares p 0 ≡ (at (view b ids lens) p).share
      share = ap (λ (c : struct.Board). get_or c.shares p 0) (sym k.sound.spells) ∙ share_is (view b ids lens) p

      number : get_or b.numbers p 0 ≡ (at (view b ids lens) p).number
      number = ap (λ (c : struct.Board). get_or c.numbers p 0) (sym k.sound.spells) ∙ number_is (view b ids lens) p

  lines_is : (n p : ℕ) → lines_in b t p n ≡ place_lines (reads (ledger b ids lens t full)) p n
  unfolding lines_in place_lines
  lines_is zero p = refl
  lines_is (suc n) p = ap₂ (λ (x y : List ℕ). x ++ y) (line_is p) (lines_is n (suc p))

  -- a whole log's, where the counting goes on
  pub whole_report : full ≡ false → (p : ℕ) → lines_from_in b t p ≡ report_end (reads (ledger b ids lens t full)) p whole
  unfolding report_end
  whole_report h p = lines_is (64 - p) p ∙ sym (ap (λ (x : Bool). cond x full_line (place_lines (reads (ledger b ids lens t full)) p (64 - p))) h)

-- ---- A report of one line

-- it is one, whatever is shown
pub alone_line : (r : Reporting) (p : ℕ) (full : Bool) (e : End) → full ≡ r.counts.full → is_alone full e ≡ true → one_line full e ≡ report_end r p e
unfolding one_line report_end
alone_line r p full whole h k = rw (sym h, k)
alone_line r p full (broken n) h k = rw (sym h)
alone_line r p full long h k = rw (sym h)

pub not_alone : (full : Bool) (e : End) → is_alone full e ≡ false → (full ≡ false) × (e ≡ whole)
not_alone full whole h = (h, refl)
not_alone full (broken n) h = absurd (true≢false h)
not_alone full long h = absurd (true≢false h)

-- ---- The places in turn

module _ (b : struct.Board) (t : Tallies) where
  lines_next : (p : ℕ) → p < 64 → lines_from_in b t p ≡ line_at b t p ++ lines_from_in b t (p + 1)
  unfolding lines_in
  lines_next p h =
      let more : 64 - p ≡ suc (64 - (p + 1)) = omega arith in
      let on : suc p ≡ p + 1 = omega arith in
      ap (lines_in b t p) more ∙ ap (λ (q : ℕ). line_at b t p ++ lines_in b t q (64 - (p + 1))) on

  lines_none : (p : ℕ) → 64 ≤ p → lines_from_in b t p ≡ []
  unfolding lines_in
  lines_none p h = let none_left : 64 - p ≡ 0 = omega arith in ap (lines_in b t p) none_left

  -- what is written so far, and the lines of the places that follow, are what was left at the beginning
  pub record Showing (shown : ℕ) (out₀ : List ℕ) (p used : ℕ) (out : List ℕ) : Type 0 where
    pub text : List ℕ
    pub written : Written out₀ 0 text used out
    pub joined : text ++ lines_from_in b t p ≡ lines_from_in b t shown
    pub fits : used ≤ length out₀
    pub same : length out ≡ length out₀
    pub moved : ((shown < p) × (p ≤ 64)) ⊎ ((shown ≡ p) × (used ≡ 0))

  pub showing_first : (shown : ℕ) (out : List ℕ) → Showing shown out shown 0 out
  showing_first shown out = record {
    text = [];
    written = none out 0;
    joined = refl;
    fits = omega arith;
    same = refl;
    moved = inr (refl, refl);
  }

  module _ (shown : ℕ) (out₀ : List ℕ) (p used : ℕ) (out : List ℕ) (u : Showing shown out₀ p used out) where
    -- the line of a place more
    pub showing_next : p < 64 → 128 ≤ length out - used → (used' : ℕ) (out' : List ℕ)
        → Written out used (line_at b t p) used' out' × (used' ≤ used + 128) → Showing shown out₀ (p + 1) used' out'
    showing_next h room used' out' (w, few) = record {
      text = u.text ++ line_at b t p;
      written = then u.text (line_at b t p) u.written w;
      joined =
          append_assoc u.text (line_at b t p) (lines_from_in b t (p + 1))
          ∙ ap (λ (x : List ℕ). u.text ++ x) (sym (lines_next p h))
          ∙ u.joined;
      fits = omega (arith, few, room, u.same);
      same = written_length out used (line_at b t p) used' out' w ∙ u.same;
      moved = inl (on u.moved);
    }
      where
        on : ((shown < p) × (p ≤ 64)) ⊎ ((shown ≡ p) × (used ≡ 0)) → (shown < p + 1) × (p + 1 ≤ 64)
        on (inl m) = (omega (arith, m.0), omega arith)
        on (inr m) = (omega (arith, m.0), omega arith)

    showing_line : Line out₀ u.text used out
    showing_line = from_front out₀ u.text out used (omega (arith, u.written.ends, u.fits)) u.written

    showing_none : 64 ≤ p → u.text ≡ lines_from_in b t shown
    showing_none h = sym (append-nil u.text) ∙ ap (λ (x : List ℕ). u.text ++ x) (sym (lines_none p h)) ∙ u.joined

module _ (s : State) (out₀ : List ℕ) (p used : ℕ) (out : List ℕ) (u : Showing s.board (tallies_of s.counts) s.shown out₀ p used out) where
  abbrev line : Line out₀ u.text used out
  line = showing_line s.board (tallies_of s.counts) s.shown out₀ p used out u

  module _ (t : State) (same : t ≡ s) where
    -- there is no room for another
    pub showing_more : s.over ≡ false → 128 ≤ length out₀ → length out - used < 128
        → PlacesShown s out₀ (record { code = 0; taken = 0; used = used; state = record t { shown = p } }) out
    showing_more going enough full =
        subst (λ (x : State). PlacesShown s out₀ (record { code = 0; taken = 0; used = used; state = record x { shown = p } }) out) (sym same)
        (subst (λ (o : Bool). PlacesShown s out₀ (record { code = 0; taken = 0; used = used; state = record s { over = o; shown = p } }) out) (sym going)
        (record {
          done = refl;
          none = refl;
          fits = u.fits;
          joined = ap (λ (x : List ℕ). x ++ lines_from_in s.board (tallies_of s.counts) p) line.text ∙ u.joined;
          rest = line.rest;
          stays = inr (refl, go u.moved);
        }))
      where
        go : ((s.shown < p) × (p ≤ 64)) ⊎ ((s.shown ≡ p) × (used ≡ 0)) → (s.shown < p) × (p ≤ 64)
        go (inl m) = m
        go (inr m) = absurd (omega (arith, m.1, u.same, enough, full))

    -- or there is none
    pub showing_last : 64 ≤ p → PlacesShown s out₀ (ended_piece 0 used t) out
    showing_last h =
        subst (λ (x : State). PlacesShown s out₀ (ended_piece 0 used x) out) (sym same)
        (record {
          done = refl;
          none = refl;
          fits = u.fits;
          joined = append-nil (take used out) ∙ line.text ∙ showing_none s.board (tallies_of s.counts) s.shown out₀ p used out u h;
          rest = line.rest;
          stays = inl refl;
        })
