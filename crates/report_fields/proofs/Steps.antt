-- What is counted of a field by what came of it is what is counted of the field.
use mathlib.Core.Path.{◌≡◌, refl, sym}
use mathlib.Core.Bool.{Bool, true, false, cond, true≢false}
use mathlib.Core.List.{List}
use Prim.Native.Nat.{ℕ}
use borrow.Author.Tests.{ne_eqb}
use Rattle.std.specs.Prelude.{Option, Some, None, is_some, Ok, Err}
use Rattle.numbers.specs.declared.refusal.Refusal.{Refusal}
use Rattle.numbers.specs.Codes.{refusal_code}
use Rattle.numbers.proofs.Refusals.{refusal_not_done}
use Rattle.log_bytes.specs.declared.Event.{Event}
use Rattle.log_bytes.specs.declared.Event.TheVariants.{Largest, Open, Close, Rename, Arrive, Serve, Passed}
use Rattle.board.specs.Memory.{After}
use Rattle.serving.specs.declared.Served.{Served}
use Rattle.events.specs.Events.{step_of_act, serves}
use Rattle.counting.specs.Counting.{Tallies}
use Rattle.counting.specs.Steps.{tallied}
use Rattle.report_fields.specs.Steps.{closing_place, step_credit, field_in, counted_in}

-- of all fields only a serve tells of a record
only_serves : (sent : Option Served) → is_some sent ≡ false → sent ≡ None
only_serves None e = refl
only_serves (Some x) e = absurd (true≢false e)

pub serve_is : (e : Event) → serves e ≡ true → e ≡ Serve
serve_is Serve s = refl
serve_is (Largest l) s = absurd (true≢false (sym s))
serve_is (Open o) s = absurd (true≢false (sym s))
serve_is (Close block) s = absurd (true≢false (sym s))
serve_is (Rename old new) s = absurd (true≢false (sym s))
serve_is (Arrive block number bytes) s = absurd (true≢false (sym s))
serve_is Passed s = absurd (true≢false (sym s))

module _ (numbers : List ℕ) (largest : ℕ) (shares : List ℕ) (now : After) (full : Bool) (t : Tallies) where
  pub counted_by : (e : Event) (sent : Option Served) → is_some sent ≡ serves e
      → counted_in (closing_place numbers e) sent largest shares full t
      ≡ field_in e (closing_place numbers e) (step_credit largest shares (step_of_act (Ok sent) now)) (step_of_act (Ok sent) now) full t
  unfolding field_in
  counted_by Serve (Some x) told = refl
  counted_by Serve None told = absurd (true≢false (sym told))
  counted_by (Largest l) sent told = rw (only_serves sent told)
  counted_by (Open o) sent told = rw (only_serves sent told)
  counted_by (Close block) sent told = rw (only_serves sent told)
  counted_by (Rename old new) sent told = rw (only_serves sent told)
  counted_by (Arrive block number bytes) sent told = rw (only_serves sent told)
  counted_by Passed sent told = rw (only_serves sent told)

  -- a refusal changes no counts
  pub refused_by : (e : Event) (refusal : Refusal) → tallied full t
      ≡ field_in e (closing_place numbers e) (step_credit largest shares (step_of_act (Err refusal) now)) (step_of_act (Err refusal) now) full t
  unfolding field_in
  refused_by e refusal = rw (ne_eqb (refusal_code refusal) 0 (refusal_not_done refusal)) (go full)
    where
      go : (f : Bool) → tallied f t ≡ cond f (tallied true t) (tallied false t)
      go true = refl
      go false = refl
