-- Every byte sequence has exactly one reading, and what it is like. Assumes nothing.
use mathlib.Core.Path.{◌≡◌, refl, sym, ap, subst, ◌∙◌}
use mathlib.Core.Bool.{true}
use mathlib.Core.List.{List, [], ◌∷◌}
use Prim.Native.Nat.{ℕ, zero, suc, ◌+◌, ◌-◌, ◌^◌, ◌≤◌, ◌<◌}
use native.Mathlib.Omega.{arith}
use borrow.Author.Tests.{eqb-true}
use lib.ListN.{length, drop, length-drop}
use Rattle.log_bytes.specs.declared.Stage.{Stage}
use Rattle.log_bytes.specs.declared.Stage.TheVariants.{BeforeL}
use Rattle.log_bytes.specs.declared.Event.{Event}
use Rattle.log_bytes.specs.declared.End.{End}
use Rattle.log_bytes.specs.declared.End.TheVariants.{Whole as whole, Broken as broken, Long as long}
use Rattle.log_bytes.specs.declared.Next.{Next}
use Rattle.log_bytes.specs.declared.Next.TheVariants.{GoesOn, Ends, Unfinished}
use Rattle.log_bytes.specs.Format.{past_l, stage_after}
use Rattle.log_bytes.specs.Rows.{WholeField, Reading, only, and_then, end_in, next_of, follow, read_up_to}
use Rattle.log_bytes.specs.Rows.{read_from, read_log, EndsWith, Reads, InRow, end_of, stage_of, NoL, LFirst}
use Rattle.log_bytes.specs.Laws.{HasReading, OneReading, Enough, ReadStep, ReadWhole, ReadEnds, ReadCut, LogRow, EmptyLog}
use Rattle.log_bytes.proofs.Stages.{turn_later, turn_first, past_after}
use Rattle.log_bytes.proofs.Wholes.{WholeIs, whole_is, PartIs, part_is, broken_at, long_only, never_whole, none_come}

-- ---- the same of the bytes that are left

pub goes_is : (at : ℕ) (bytes : List ℕ) (stage : Stage) (e : Event) (size : ℕ) → next_of at bytes stage ≡ GoesOn e size
    → WholeIs at bytes (length bytes) stage e size
unfolding next_of
goes_is at bytes stage e size h = whole_is at bytes (length bytes) stage e size h

pub left_is : (at : ℕ) (bytes : List ℕ) (stage : Stage) (n : ℕ) → next_of at bytes stage ≡ Unfinished n → PartIs at bytes (length bytes) stage n
unfolding next_of
left_is at bytes stage n h = part_is at bytes (length bytes) stage n h

-- so many fewer are left after a whole field, and some
goes_less : (at : ℕ) (bytes : List ℕ) (stage : Stage) (e : Event) (size : ℕ) → next_of at bytes stage ≡ GoesOn e size
    → (0 < size) × (length (drop size bytes) + size ≡ length bytes)
goes_less at bytes stage e size h =
    let w = goes_is at bytes stage e size h in
    (omega (arith, w.size), omega (arith, w.has, length-drop size bytes))

-- ---- the end, where no byte comes any more

pub end_whole : (at came : ℕ) (stage : Stage) → end_in at came stage ≡ whole → (past_l stage ≡ true) × (came ≡ 0)
unfolding end_in
end_whole at came stage h = (grind arith, grind (arith, eqb-true))

pub end_here : (at : ℕ) (stage : Stage) → past_l stage ≡ true → end_in at 0 stage ≡ whole
unfolding end_in
end_here at stage p = rw p

pub end_cut : (at came : ℕ) (stage : Stage) → 0 < came → end_in at came stage ≡ broken at
unfolding end_in
end_cut at came stage l = grind (arith, eqb-true)

-- it is broken at the offset of the cut field, and never long
pub end_broken : (at came : ℕ) (stage : Stage) (n : ℕ) → end_in at came stage ≡ broken n → n ≡ at
unfolding end_in
end_broken at came stage n h = grind arith

pub end_short : (at came : ℕ) (stage : Stage) → end_in at came stage ≡ long → ⊥
unfolding end_in
end_short at came stage h = grind arith

-- ---- there is a reading

pub reads : (n at : ℕ) (bytes : List ℕ) (stage : Stage) → length bytes < n
    → Reads at bytes stage (read_up_to n at bytes stage).fields (read_up_to n at bytes stage).ends
unfolding read_up_to
reads zero at bytes stage l = absurd (omega arith)
reads (suc n) at bytes stage l = go (next_of at bytes stage) refl (reads n)
  where
    go : (x : Next) → next_of at bytes stage ≡ x
        → ((next : ℕ) (rest : List ℕ) (on : Stage) → length rest < n
        → Reads next rest on (read_up_to n next rest on).fields (read_up_to n next rest on).ends)
        → Reads at bytes stage (follow (read_up_to n) at bytes stage x).fields (follow (read_up_to n) at bytes stage x).ends
    go (GoesOn e size) q on =
        let less = goes_less at bytes stage e size q in
        (refl, (size, (refl, (q, on (at + size) (drop size bytes) (stage_after stage e) (omega (arith, less.0, less.1))))))
    go (Ends e) q on = rw q refl
    go (Unfinished came) q on = rw q refl

-- ---- and no other, whatever the count, where it is enough

ends_one : (rest : ℕ → List ℕ → Stage → Reading) (at : ℕ) (bytes : List ℕ) (stage : Stage) (x : Next) (e : End) → EndsWith at stage x e
    → only e ≡ follow rest at bytes stage x
ends_one rest at bytes stage (GoesOn f size) e r = absurd r
ends_one rest at bytes stage (Ends f) e r = ap only (sym r)
ends_one rest at bytes stage (Unfinished came) e r = ap only (sym r)

pub reads_one : (n at : ℕ) (bytes : List ℕ) (stage : Stage) (fs : List WholeField) (e : End) → length bytes < n → Reads at bytes stage fs e
    → record { fields = fs; ends = e } ≡ read_up_to n at bytes stage
unfolding read_up_to
reads_one zero at bytes stage fs e l r = absurd (omega arith)
reads_one (suc n) at bytes stage [] e l r = ends_one (read_up_to n) at bytes stage (next_of at bytes stage) e r
reads_one (suc n) at bytes stage (f ∷ fs) e l r =
    let size = r.1.0 in
    let q = r.1.1.1.0 in
    let less = goes_less at bytes stage f.event size q in
    let fewer : length (drop size bytes) < n = omega (arith, less.0, less.1) in
    rw (q, ← r.1.1.0, ← r.0) (ap (and_then f) (reads_one n f.next (drop size bytes) (stage_after stage f.event) fs e fewer r.1.1.1.1))

-- a larger count changes nothing
pub enough : Enough
enough n m at bytes stage h l =
    reads_one m at bytes stage (read_up_to n at bytes stage).fields (read_up_to n at bytes stage).ends l (reads n at bytes stage h)

-- ---- what a player of the log steps by

follow_on : (at : ℕ) (bytes : List ℕ) (stage : Stage) (x : Next) → next_of at bytes stage ≡ x
    → follow (read_up_to (length bytes)) at bytes stage x ≡ follow read_from at bytes stage x
unfolding read_from
follow_on at bytes stage (GoesOn e size) q =
    let less = goes_less at bytes stage e size q in
    let rest = drop size bytes in
    ap (and_then (record { offset = at; event = e; next = at + size }))
    (enough (length bytes) (suc (length rest)) (at + size) rest (stage_after stage e) (omega (arith, less.0, less.1)) (omega arith))
follow_on at bytes stage (Ends e) q = refl
follow_on at bytes stage (Unfinished came) q = refl

pub read_step : ReadStep
unfolding read_from read_up_to
read_step at bytes stage = follow_on at bytes stage (next_of at bytes stage) refl

-- the same by what stands at the offset
pub read_whole : ReadWhole
read_whole at bytes stage e size h = read_step at bytes stage ∙ rw h

pub read_ends : ReadEnds
read_ends at bytes stage e h = read_step at bytes stage ∙ rw h

pub read_cut : ReadCut
read_cut at bytes stage came h = read_step at bytes stage ∙ rw h

-- ---- exactly one

pub has_reading : HasReading
unfolding read_log read_from
has_reading s = reads (suc (length s)) 0 s BeforeL (omega arith)

pub one_reading : OneReading
unfolding read_log read_from
one_reading s r i = reads_one (suc (length s)) 0 s BeforeL r.fields r.ends (omega arith) i

-- ---- what it is like

pub in_row : (at : ℕ) (bytes : List ℕ) (stage : Stage) (fs : List WholeField) (e : End) → Reads at bytes stage fs e → InRow at fs
in_row at bytes stage [] e r = tt
in_row at bytes stage (f ∷ fs) e r =
    let less = goes_less at bytes stage f.event r.1.0 r.1.1.1.0 in
    let on = in_row f.next (drop r.1.0 bytes) (stage_after stage f.event) fs e r.1.1.1.1 in
    (r.0, (omega (arith, less.0, r.1.1.0), on))

-- the end of a reading without fields, by what stands at its offset
record EndIs (at : ℕ) (bytes : List ℕ) (stage : Stage) (e : End) : Type 0 where
  ended : e ≡ whole → (past_l stage ≡ true) × (length bytes ≡ 0)
  stopped : (n : ℕ) → e ≡ broken n → n ≡ at
  past : e ≡ long → 2 ^ 48 - at < length bytes

end_is : (at : ℕ) (bytes : List ℕ) (stage : Stage) (e : End) → EndsWith at stage (next_of at bytes stage) e → EndIs at bytes stage e
unfolding next_of
end_is at bytes stage e r = go (next_of at bytes stage) refl r
  where
    go : (x : Next) → next_of at bytes stage ≡ x → EndsWith at stage x e → EndIs at bytes stage e
    go (GoesOn f size) q r = absurd r
    go (Ends f) q r = record {
      ended = λ h. absurd (never_whole at bytes (length bytes) stage (q ∙ ap Ends (r ∙ h)));
      stopped = λ n h. broken_at at bytes (length bytes) stage n (q ∙ ap Ends (r ∙ h));
      past = λ h. long_only at bytes (length bytes) stage (q ∙ ap Ends (r ∙ h));
    }
    go (Unfinished came) q r = record {
      ended = λ h. ((end_whole at came stage (r ∙ h)).0, sym (left_is at bytes stage came q).same ∙ (end_whole at came stage (r ∙ h)).1);
      stopped = λ n h. end_broken at came stage n (r ∙ h);
      past = λ h. absurd (end_short at came stage (r ∙ h));
    }

pub ended_whole : (at : ℕ) (bytes : List ℕ) (stage : Stage) (fs : List WholeField) (e : End) → Reads at bytes stage fs e → e ≡ whole
    → (past_l (stage_of stage fs) ≡ true) × (end_of at fs ≡ at + length bytes)
ended_whole at bytes stage [] e r h =
    let w = (end_is at bytes stage e r).ended h in
    (w.0, omega (arith, w.1))
ended_whole at bytes stage (f ∷ fs) e r h =
    let less = goes_less at bytes stage f.event r.1.0 r.1.1.1.0 in
    let w = ended_whole f.next (drop r.1.0 bytes) (stage_after stage f.event) fs e r.1.1.1.1 h in
    (w.0, omega (arith, w.1, less.1, r.1.1.0))

reached_end : (at : ℕ) (bytes : List ℕ) (stage : Stage) (fs : List WholeField) (e : End) → Reads at bytes stage fs e
    → past_l (stage_of stage fs) ≡ true → end_of at fs ≡ at + length bytes → e ≡ whole
unfolding next_of
reached_end at bytes stage [] e r p h =
    let none : length bytes ≡ 0 = omega arith in
    let here : next_of at bytes stage ≡ Unfinished 0 = rw none (none_come at bytes stage) in
    sym (subst (λ (x : Next). EndsWith at stage x e) here r) ∙ end_here at stage p
reached_end at bytes stage (f ∷ fs) e r p h =
    let less = goes_less at bytes stage f.event r.1.0 r.1.1.1.0 in
    let all : end_of f.next fs ≡ f.next + length (drop r.1.0 bytes) = omega (arith, h, less.1, r.1.1.0) in
    reached_end f.next (drop r.1.0 bytes) (stage_after stage f.event) fs e r.1.1.1.1 p all

stopped_at : (at : ℕ) (bytes : List ℕ) (stage : Stage) (fs : List WholeField) (e : End) (n : ℕ) → Reads at bytes stage fs e → e ≡ broken n → n ≡ end_of at fs
stopped_at at bytes stage [] e n r h = (end_is at bytes stage e r).stopped n h
stopped_at at bytes stage (f ∷ fs) e n r h = stopped_at f.next (drop r.1.0 bytes) (stage_after stage f.event) fs e n r.1.1.1.1 h

past_end : (at : ℕ) (bytes : List ℕ) (stage : Stage) (fs : List WholeField) (e : End) → Reads at bytes stage fs e → e ≡ long → 2 ^ 48 < at + length bytes
past_end at bytes stage [] e r h = omega (arith, (end_is at bytes stage e r).past h)
past_end at bytes stage (f ∷ fs) e r h =
    let less = goes_less at bytes stage f.event r.1.0 r.1.1.1.0 in
    omega (arith, past_end f.next (drop r.1.0 bytes) (stage_after stage f.event) fs e r.1.1.1.1 h, less.1, r.1.1.0)

within_end : (at : ℕ) (bytes : List ℕ) (stage : Stage) (fs : List WholeField) (e : End) → Reads at bytes stage fs e → at ≤ 2 ^ 48 → end_of at fs ≤ 2 ^ 48
within_end at bytes stage [] e r l = l
within_end at bytes stage (f ∷ fs) e r l =
    let w = goes_is at bytes stage f.event r.1.0 r.1.1.1.0 in
    within_end f.next (drop r.1.0 bytes) (stage_after stage f.event) fs e r.1.1.1.1 (omega (arith, w.low, r.1.1.0))

-- L comes first and once
pub no_l : (at : ℕ) (bytes : List ℕ) (stage : Stage) (fs : List WholeField) (e : End) → past_l stage ≡ true → Reads at bytes stage fs e → NoL fs
no_l at bytes stage [] e p r = tt
no_l at bytes stage (f ∷ fs) e p r =
    let t = (goes_is at bytes stage f.event r.1.0 r.1.1.1.0).turn in
    let on = stage_after stage f.event in
    (turn_later f.event stage p t, no_l f.next (drop r.1.0 bytes) on fs e (past_after f.event stage t) r.1.1.1.1)

l_first : (at : ℕ) (bytes : List ℕ) (fs : List WholeField) (e : End) → Reads at bytes BeforeL fs e → LFirst fs
l_first at bytes [] e r = tt
l_first at bytes (f ∷ fs) e r =
    let t = (goes_is at bytes BeforeL f.event r.1.0 r.1.1.1.0).turn in
    let on = stage_after BeforeL f.event in
    (turn_first f.event t, no_l f.next (drop r.1.0 bytes) on fs e (past_after f.event BeforeL t) r.1.1.1.1)

pub log_row : LogRow
log_row s = record {
  rises = in_row 0 s BeforeL r.fields r.ends h;
  first = l_first 0 s r.fields r.ends h;
  ended = λ e. ((ended_whole 0 s BeforeL r.fields r.ends h e).0, omega (arith, (ended_whole 0 s BeforeL r.fields r.ends h e).1));
  reached = λ p e. reached_end 0 s BeforeL r.fields r.ends h p (omega (arith, e));
  stopped = λ n. stopped_at 0 s BeforeL r.fields r.ends n h;
  past = λ e. omega (arith, past_end 0 s BeforeL r.fields r.ends h e);
  within = within_end 0 s BeforeL r.fields r.ends h (omega arith);
}
  where
    r : Reading
    r = read_log s

    h : Reads 0 s BeforeL r.fields r.ends
    h = has_reading s

-- ---- the empty log

pub empty_log : EmptyLog
unfolding read_log next_of end_in
empty_log = read_cut 0 [] BeforeL 0 (none_come 0 [] BeforeL)
