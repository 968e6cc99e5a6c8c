-- WORKING DEFINITIONS: what a field that is done changes of the four lists, and what counting it asks. Theorems tie
-- them to the rules' counts.
use Rattle.std.specs.Prelude.{Bool, true, false, cond, List, ℕ, ◌≤◌, eqb, get_or, Option, Some, None}
use Rattle.units.specs.Credit.{credit_of}
use Rattle.log_bytes.specs.declared.Event.{Event}
use Rattle.log_bytes.specs.declared.Event.TheVariants.{Largest, Open, Close, Rename, Arrive, Serve, Passed}
use Rattle.finding.specs.Finding.{found_in, by_found}
use Rattle.serving.specs.declared.Served.{Served}
use Rattle.serving.specs.Serving.{Step}
use Rattle.counting.specs.Counting.{Tallies}
use Rattle.counting.specs.Steps.{Tallied, tallied, sent_in, CanCount, vanished_in}

-- the place of the block that a field says to close, if it is open
abbrev pub closing_place : (numbers : List ℕ) → Event → Option ℕ
closing_place numbers (Largest l) = None
closing_place numbers (Open o) = None
closing_place numbers (Close block) = found_in numbers block
closing_place numbers (Rename old new) = None
closing_place numbers (Arrive block number bytes) = None
closing_place numbers Serve = None
closing_place numbers Passed = None

-- the counts of a block that is closed are gone
abbrev pub closed_in : (closing : Option ℕ) → Tallies → Tallies
closed_in closing t = by_found closing (λ place. vanished_in place t) t

-- the credit of one slot of the block at the place of a step
abbrev pub step_credit : (largest : ℕ) (shares : List ℕ) → Step → ℕ
step_credit largest shares s = credit_of largest (get_or shares s.place 0)

-- what a field that is done changes: a close and a serve change counts, and no other field does
abbrev pub done_in : Event → (closing : Option ℕ) (credit : ℕ) → Step → Tallies → Tallied
done_in (Largest l) closing credit s t = tallied false t
done_in (Open o) closing credit s t = tallied false t
done_in (Close block) closing credit s t = tallied false (closed_in closing t)
done_in (Rename old new) closing credit s t = tallied false t
done_in (Arrive block number bytes) closing credit s t = tallied false t
done_in Serve closing credit s t = sent_in s.place s.began s.bytes.0 s.lost.0 credit t
done_in Passed closing credit s t = tallied false t

-- Where the counting has stopped nothing is counted, and a refusal changes nothing.
unfoldable pub field_in : Event → (closing : Option ℕ) (credit : ℕ) → Step → (full : Bool) → Tallies → Tallied
field_in e closing credit s full t =
    cond full (tallied true t) (cond (eqb s.code 0) (done_in e closing credit s t) (tallied false t))

-- ---- The same by what came of the field, without a look at the field itself

-- a record that was sent, or a block that was closed
abbrev pub done_by : (closing : Option ℕ) → Option Served → (largest : ℕ) (shares : List ℕ) → Tallies → Tallied
done_by closing (Some x) largest shares t =
    sent_in x.place x.began x.bytes.0 x.lost.0 (credit_of largest (get_or shares x.place 0)) t
done_by closing None largest shares t = tallied false (closed_in closing t)

abbrev pub counted_in : (closing : Option ℕ) → Option Served → (largest : ℕ) (shares : List ℕ) → (full : Bool)
    → Tallies
    → Tallied
counted_in closing sent largest shares full t = cond full (tallied true t) (done_by closing sent largest shares t)

-- what a send must be known by
pub record SendCounts (largest : ℕ) (shares : List ℕ) (s : Step) (t : Tallies) : Type 0 where
  pub counts : CanCount s.place s.bytes.0 s.lost.0 (step_credit largest shares s) t
  pub low : 1 ≤ get_or shares s.place 0
  pub high : get_or shares s.place 0 ≤ 65536
  pub most : largest ≤ 2048
