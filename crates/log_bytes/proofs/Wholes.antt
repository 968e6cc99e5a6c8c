-- What a field is like by what is known of it: whole, broken, long or not finished. Assumes nothing.
use mathlib.Core.Path.{◌≡◌}
use mathlib.Core.Bool.{true, false}
use mathlib.Core.Logic.{inl}
use mathlib.Core.List.{List}
use Prim.Native.Nat.{ℕ, ◌+◌, ◌-◌, ◌^◌, ◌≤◌}
use native.Mathlib.Omega.{arith}
use borrow.Author.Tests.{le-ltb}
use Rattle.log_bytes.specs.declared.Stage.{Stage}
use Rattle.log_bytes.specs.declared.Event.{Event}
use Rattle.log_bytes.specs.declared.End.TheVariants.{Whole as whole}
use Rattle.log_bytes.specs.declared.Next.TheVariants.{GoesOn, Ends, Unfinished}
use Rattle.log_bytes.specs.Format.{tag_in, length_in, right_length, event_in, right_tag, in_turn, is_read, is_broken, is_whole, is_past, next_in}
use Rattle.log_bytes.specs.Laws.{BrokenAt, LongOnly}
use Rattle.log_bytes.proofs.Fields.{read_is, read_only, unread_is, past_only, not_past, next_steps}

-- ---- the tests by which a field is judged

-- what has come of a field that is not broken is right
pub record Sound (at : ℕ) (bytes : List ℕ) (came : ℕ) (stage : Stage) : Type 0 where
  pub tagged : is_read at came 0 ≡ true → right_tag (tag_in bytes) stage ≡ true
  pub sized : is_read at came 2 ≡ true → right_length (tag_in bytes) (length_in bytes) ≡ true
  pub turned : is_read at came (2 + length_in bytes) ≡ true → in_turn (event_in bytes) stage ≡ true

pub sound : (at : ℕ) (bytes : List ℕ) (came : ℕ) (stage : Stage) → is_broken at bytes came stage ≡ false → Sound at bytes came stage
unfolding is_broken
sound at bytes came stage h = record { tagged = grind arith; sized = grind arith; turned = grind arith }

-- ---- a whole field

pub record WholeIs (at : ℕ) (bytes : List ℕ) (came : ℕ) (stage : Stage) (e : Event) (n : ℕ) : Type 0 where
  pub turn : in_turn e stage ≡ true
  pub says : event_in bytes ≡ e
  pub tag : right_tag (tag_in bytes) stage ≡ true
  pub right : right_length (tag_in bytes) (length_in bytes) ≡ true
  pub size : n ≡ 3 + length_in bytes
  pub has : n ≤ came
  pub low : at + n ≤ 2 ^ 48

pub whole_is : (at : ℕ) (bytes : List ℕ) (came : ℕ) (stage : Stage) (e : Event) (n : ℕ) → next_in at bytes came stage ≡ GoesOn e n
    → WholeIs at bytes came stage e n
whole_is at bytes came stage e n h =
    let by_steps = next_steps at bytes came stage in
    let last = read_only at came (2 + length_in bytes) in
    let k : n ≡ 3 + length_in bytes = grind arith in
    let r = last (grind arith) in
    record {
      turn = grind arith;
      says = grind arith;
      tag = grind arith;
      right = grind arith;
      size = k;
      has = omega (arith, k, r.0);
      low = omega (arith, k, r.1);
    }

-- ---- a field that ends the log

pub broken_at : BrokenAt
unfolding next_in
broken_at at bytes came stage n h = grind arith

pub long_only : LongOnly
unfolding next_in
long_only at bytes came stage h = past_only at came (grind arith)

-- no field ends a log whole
pub never_whole : (at : ℕ) (bytes : List ℕ) (came : ℕ) (stage : Stage) → next_in at bytes came stage ≡ Ends whole → ⊥
unfolding next_in
never_whole at bytes came stage h = grind arith

-- ---- a field that is not finished

pub record PartIs (at : ℕ) (bytes : List ℕ) (came : ℕ) (stage : Stage) (n : ℕ) : Type 0 where
  pub same : n ≡ came
  pub sane : is_broken at bytes came stage ≡ false
  pub cut : is_whole at bytes came ≡ false
  pub low : came ≤ 2 ^ 48 - at
  pub has : came ≤ 2 + length_in bytes

pub part_is : (at : ℕ) (bytes : List ℕ) (came : ℕ) (stage : Stage) (n : ℕ) → next_in at bytes came stage ≡ Unfinished n → PartIs at bytes came stage n
unfolding next_in is_whole
part_is at bytes came stage n h =
    let low = not_past at came (grind arith) in
    let read = read_is at came (2 + length_in bytes) in
    let cut : is_read at came (2 + length_in bytes) ≡ false = grind arith in
    record { same = grind arith; sane = grind arith; cut = cut; low = low; has = grind arith }

-- a field of which nothing has come is not finished
pub none_come : (at : ℕ) (bytes : List ℕ) (stage : Stage) → next_in at bytes 0 stage ≡ Unfinished 0
unfolding is_past
none_come at bytes stage =
    let none = unread_is at 0 0 (inl (omega arith)) in
    rw (next_steps at bytes 0 stage, none, le-ltb (2 ^ 48 - at) 0 (omega arith))
