-- What the format says of a byte by the tag that it is. Assumes nothing.
use mathlib.Core.Path.{◌≡◌}
use mathlib.Core.Bool.{true, false, not, ◌&&◌, ◌||◌}
use mathlib.Core.Logic.{◌⊎◌, inl, inr}
use mathlib.Core.List.{List}
use Prim.Native.Nat.{ℕ, ◌+◌, ◌≤◌, ◌<◌}
use native.Mathlib.Omega.{arith}
use borrow.Author.Tests.{le-leb, lt-leb, ne_eqb}
use lib.Dec.{leb, eqb}
use Rattle.base.specs.Tests.{alike}
use Rattle.base.proofs.Numbers.{split}
use Rattle.log_bytes.specs.declared.Stage.{Stage}
use Rattle.log_bytes.specs.declared.Tag.{Tag}
use Rattle.log_bytes.specs.declared.Tag.TheVariants.{Open, Close, Rename, Record, Serve, Largest, Passed}
use Rattle.log_bytes.specs.declared.End.TheVariants.{Broken as broken}
use Rattle.log_bytes.specs.declared.Next.TheVariants.{Ends}
use Rattle.log_bytes.specs.Format.{tag_in, length_in, in_turn, is_read, next_in, last_tag, right_length, event_of, past_l, right_tag}
use Rattle.log_bytes.specs.Tags.{byte_of, IsTag}
use Rattle.log_bytes.proofs.Fields.{steps, next_steps}

-- all that the format asks of a field by its tag is the same of two bytes
pub record SameField (a b : ℕ) : Type 0 where
  pub stands : (stage : Stage) → right_tag a stage ≡ right_tag b stage
  pub has : (n : ℕ) → right_length a n ≡ right_length b n
  pub says : (bytes : List ℕ) (i : ℕ) → event_of bytes a i ≡ event_of bytes b i

same_is : (a b : ℕ) → a ≡ b → SameField a b
same_is a b e = record { stands = λ stage. rw e; has = λ n. rw e; says = λ bytes i. rw e }

pub same_passed : (a : ℕ) → 128 ≤ a → SameField a 128
unfolding right_tag right_length event_of
same_passed a l =
    let passed = le-leb 128 a l in
    let no : (k : ℕ) → k < 128 → eqb a k ≡ false = λ k m. ne_eqb a k (λ e. omega arith) in
    record {
      stands = λ stage. rw (passed, no 6 (omega arith));
      has = λ n. rw passed;
      says = λ bytes i.
          rw (no 6 (omega arith), no 1 (omega arith), no 2 (omega arith), no 3 (omega arith), no 4 (omega arith), no 5 (omega arith));
    }

-- so it is of a byte and its tag's
pub same_field : (tag : Tag) (byte : ℕ) → IsTag tag byte → SameField byte (byte_of tag)
same_field Open byte e = same_is byte 1 e
same_field Close byte e = same_is byte 2 e
same_field Rename byte e = same_is byte 3 e
same_field Record byte e = same_is byte 4 e
same_field Serve byte e = same_is byte 5 e
same_field Largest byte e = same_is byte 6 e
same_field Passed byte l = same_passed byte l

-- a byte that is no tag is below 1, or between the log's last tag and those passed over, and so may not stand anywhere
pub no_tag : (byte : ℕ) (stage : Stage) → ((tag : Tag) → IsTag tag byte → ⊥) → right_tag byte stage ≡ false
unfolding right_tag
no_tag byte stage none = go (split 1 byte) (split 128 byte)
  where
    go : (1 ≤ byte) ⊎ (byte < 1) → (128 ≤ byte) ⊎ (byte < 128)
        → (leb 128 byte || (leb 1 byte && leb byte last_tag)) && alike (eqb byte 6) (not (past_l stage)) ≡ false
    go (inr l) s = rw (lt-leb 128 byte (omega (arith, l)), lt-leb 1 byte l)
    go (inl l) (inl m) = absurd (none Passed m)
    go (inl l) (inr m) =
        let past : last_tag < byte = omega (arith, none Open, none Close, none Rename, none Record, none Serve, none Largest) in
        rw (lt-leb 128 byte m, le-leb 1 byte l, lt-leb byte last_tag past)

-- ---- what is known of a field, by the tests in the order in which its bytes come

-- whose first byte is no tag
pub known_no_tag : (at : ℕ) (bytes : List ℕ) (came : ℕ) (stage : Stage) → is_read at came 0 ≡ true → ((tag : Tag) → IsTag tag (tag_in bytes) → ⊥)
    → next_in at bytes came stage ≡ Ends (broken at)
known_no_tag at bytes came stage a none = rw (next_steps at bytes came stage, a, no_tag (tag_in bytes) stage none)

-- whose first byte is a tag
pub known_tag : (at : ℕ) (bytes : List ℕ) (came : ℕ) (stage : Stage) (tag : Tag) → IsTag tag (tag_in bytes) → next_in at bytes came stage
    ≡ steps at came (event_of bytes (byte_of tag) 3) (length_in bytes) (is_read at came 0) (right_tag (byte_of tag) stage) (is_read at came 2)
    (right_length (byte_of tag) (length_in bytes)) (is_read at came (2 + length_in bytes)) (in_turn (event_of bytes (byte_of tag) 3) stage)
known_tag at bytes came stage tag is =
    let s = same_field tag (tag_in bytes) is in
    rw (next_steps at bytes came stage, s.stands stage, s.has (length_in bytes), s.says bytes 3)

-- ---- what is passed over

-- a byte that is no tag is not passed over
pub not_passed : (byte : ℕ) → ((tag : Tag) → IsTag tag byte → ⊥) → byte < 128
not_passed byte none = let passed : 128 ≤ byte → ⊥ = none Passed in omega arith
