-- What was left of a report at the beginning is left of what stands after each field of a fragment.
use mathlib.Core.Path.{◌≡◌, refl, sym, ap, ◌∙◌}
use mathlib.Core.Bool.{Bool, true, false, true≢false}
use mathlib.Core.List.{List, ◌++◌}
use Rattle.std.specs.Prelude.{Some, Ok, Err}
use Prim.Native.Nat.{ℕ, ◌+◌, ◌-◌, ◌^◌, ◌≤◌, ◌<◌}
use native.Mathlib.Omega.{arith}
use lib.ListN.{length, take, drop, length-drop}
use lib.Seq.{drop-drop}
use Rattle.log_bytes.specs.declared.Stage.{Stage}
use Rattle.log_bytes.specs.declared.Event.{Event}
use Rattle.log_bytes.specs.declared.End.{End}
use Rattle.log_bytes.specs.declared.End.TheVariants.{Whole as whole, Broken as broken, Long as long}
use Rattle.log_bytes.specs.declared.Next.TheVariants.{Ends, Unfinished}
use Rattle.log_bytes.specs.Format.{is_l, past_l, stage_after, next_in}
use Rattle.log_bytes.specs.Rows.{Reading, next_of}
use Rattle.log_bytes.proofs.Wholes.{never_whole, none_come}
use Rattle.log_bytes.proofs.Stages.{turn_later, past_after}
use Rattle.fragments.specs.declared.Reader.{Reader}
use Rattle.fragments.specs.declared.Read.{Read}
use Rattle.fragments.specs.Reading.{joined, ReadOn, GoesOnWith, KeptOn}
use Rattle.fragments.specs.Readers.{cut_at, at_next, next_told, after_read}
use Rattle.fragments.proofs.Kept.{kept_none, rest_joined}
use Rattle.fragments.proofs.Reading.{from_taken}
use Rattle.fragments.proofs.Readers.{read_whole, read_part, read_moves, whole_now, part_now}
use Rattle.report_rules.specs.Report.{Reporting, field_counted, report_end, report_on, report_from}
use Rattle.report_rules.proofs.Report.{report_whole, report_ends}
use Rattle.report_fields.specs.Fields.{Ledger, reads, KnownLedger, FieldCounted}
use Rattle.report_play.specs.declared.State.{State}
use Rattle.report_play.specs.Playing.{offset_of, left_of, one_line, played_in, PlayedOn}

-- ---- One line

-- a log that does not end whole has one line
pub one_line_lem : (r : Reporting) (p : ℕ) (e : End) → (e ≡ whole → ⊥) → one_line r.counts.full e ≡ report_end r p e
unfolding one_line report_end
one_line_lem r p whole ne = absurd (ne refl)
one_line_lem r p (broken n) ne = refl
one_line_lem r p long ne = refl

pub ends_one : (r : Reporting) (p at : ℕ) (bytes : List ℕ) (stage : Stage) (e : End) → next_of at bytes stage ≡ Ends e
    → one_line r.counts.full e ≡ report_from r p at bytes stage
unfolding next_of
ends_one r p at bytes stage e h =
    one_line_lem r p e (λ q. never_whole at bytes (length bytes) stage (h ∙ ap Ends q)) ∙ sym (report_ends r p at bytes stage e h)

-- ---- From field to field

-- what was left at the beginning is left of what stands after some fields
pub record PlayedTo (s : State) (ids lens fragment : List ℕ) (here : Ledger) (r : Reader) (taken : ℕ) : Type 0 where
  pub good : KnownLedger here
  pub past : past_l r.stage ≡ true
  pub fit : next_in r.at r.kept r.came r.stage ≡ Unfinished r.came
  pub low : r.at ≤ 2 ^ 48
  pub within : taken ≤ length fragment
  pub onward : r.at + r.came ≡ offset_of s + taken
  pub same : (later : List ℕ)
      → report_from (reads here) s.shown r.at (joined r.kept r.came (drop taken fragment) later) r.stage ≡ left_of s ids lens (fragment ++ later)

module _ (s : State) (ids lens fragment : List ℕ) (here : Ledger) (r : Reader) (taken : ℕ) (u : PlayedTo s ids lens fragment here r taken) where
  abbrev part : List ℕ
  part = drop taken fragment

  part_has : length part ≡ length fragment - taken
  part_has = length-drop taken fragment

  played_goes : (e : Event) (size : ℕ) → GoesOnWith r.at r.stage r.kept r.came part e size → (after : List ℕ) (n : Ledger) → FieldCounted here e n
      → PlayedTo s ids lens fragment n (at_next r e size after) (taken + (size - r.came))
  played_goes e size g after n p = record {
    good = p.good;
    past = past_after e r.stage g.turn;
    fit = none_come (r.at + size) after (stage_after r.stage e);
    low = g.low;
    within = omega (arith, g.begins, g.ends, part_has, u.within);
    onward = omega (arith, g.begins, u.onward);
    same = λ later.
        ap (λ (x : Reporting). report_from x s.shown (r.at + size) (joined after 0 (drop (taken + (size - r.came)) fragment) later) (stage_after r.stage e))
        p.next
        ∙ ap (λ (bytes : List ℕ). report_from (field_counted (reads here) e) s.shown (r.at + size) bytes (stage_after r.stage e)) (sym (rests later))
        ∙ sym (report_whole (reads here) s.shown r.at (joined r.kept r.came part later) r.stage e size (g.is later))
        ∙ u.same later;
  }
    where
      rests : (later : List ℕ) → drop size (joined r.kept r.came part later) ≡ joined after 0 (drop (taken + (size - r.came)) fragment) later
      rests later =
          rest_joined r.kept r.came part later size (omega (arith, g.begins)) g.ends
          ∙ ap (λ (bytes : List ℕ). bytes ++ later) (drop-drop (size - r.came) taken fragment)
          ∙ sym (kept_none after (drop (taken + (size - r.came)) fragment ++ later))

  played_keeps : (now : ℕ) (after : List ℕ) → KeptOn r.at r.stage r.kept r.came part now after
      → PlayedTo s ids lens fragment here (cut_at r now after) (taken + (now - r.came))
  played_keeps now after k = record {
    good = u.good;
    past = u.past;
    fit = k.fit;
    low = u.low;
    within = omega (arith, k.moves, k.ends, part_has, u.within);
    onward = omega (arith, k.moves, u.onward);
    same = λ later.
        ap (λ (bytes : List ℕ). report_from (reads here) s.shown r.at (joined after now bytes later) r.stage) (sym (drop-drop (now - r.came) taken fragment))
        ∙ sym (ap (λ (x : Reading). report_on (reads here) s.shown x.fields x.ends) (k.is later))
        ∙ u.same later;
  }

  -- the log ends here
  pub played_stops : (e : End) (after : List ℕ) → ReadOn r.at r.stage r.kept r.came (take (length fragment - taken) part) (Ends e) after → (later : List ℕ)
      → one_line here.full e ≡ left_of s ids lens (fragment ++ later)
  played_stops e after told later =
      let read_on : ReadOn r.at r.stage r.kept r.came part (Ends e) after = rw (from_taken fragment taken) at told in
      ends_one (reads here) s.shown r.at (joined r.kept r.came part later) r.stage e (read_on.ends e refl later) ∙ u.same later

  -- or what is read says of which
  module _ (read : Read) (now : Reader) (told : ReadOn r.at r.stage r.kept r.came (take (length fragment - taken) part) (next_told (Ok read) r.came) now.kept)
      (after : now ≡ after_read (Ok read) r now.kept) where
    read_on : ReadOn r.at r.stage r.kept r.came part (next_told (Ok read) r.came) now.kept
    read_on = rw (from_taken fragment taken) at told

    pub played_moves : (0 < read.taken) × (taken + read.taken ≤ length fragment)
    played_moves =
        let moves = read_moves r part read now read_on after in
        (moves.0, omega (arith, moves.1, part_has, u.within))

    -- a field that follows is not L
    pub played_late : (e : Event) → read.event ≡ Some e → is_l e ≡ false
    played_late e q = turn_later e r.stage u.past (read_whole r part read now read_on after e q).turn

    pub played_field : (e : Event) → read.event ≡ Some e → (n : Ledger) → FieldCounted here e n → PlayedTo s ids lens fragment n now (taken + read.taken)
    played_field e q n p =
        whole_now r part read now read_on after (λ (x : Reader) (more : ℕ). PlayedTo s ids lens fragment n x (taken + more)) e q
        (played_goes e (r.came + read.taken) (read_whole r part read now read_on after e q) now.kept n p)

    pub played_more : ((e : Event) → read.event ≡ Some e → ⊥) → PlayedTo s ids lens fragment here now (taken + read.taken)
    played_more never =
        part_now r part read now read_on after (λ (x : Reader) (more : ℕ). PlayedTo s ids lens fragment here x (taken + more)) never
        (played_keeps (r.came + read.taken) now.kept (read_part r part read now read_on after never))

-- the log ends in it
pub played_ends : (s : State) (ids lens fragment : List ℕ) (e : End) (full : Bool) (t : State) (ids' lens' : List ℕ)
    → ((later : List ℕ) → one_line full e ≡ left_of s ids lens (fragment ++ later))
    → PlayedOn s ids lens fragment (played_in (Err (record { end = e; full = full })) t) ids' lens'
played_ends s ids lens fragment e full t ids' lens' h = record { goes = λ z. absurd (true≢false z); stops = λ z. h }
