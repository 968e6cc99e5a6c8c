-- How each event is spelt in a log: its tag, and the numbers of its value.
use Rattle.std.specs.Prelude.{◌≡◌, Bool, true, false, List, [], ◌∷◌, ◌++◌, ℕ, zero, suc, ◌+◌, ◌/◌, ◌%◌, ◌^◌, ◌≤◌, ◌<◌}
use Rattle.std.specs.Prelude.{length, take, drop}
use Rattle.log_bytes.specs.Format.{length_in, tag_of, is_passed, past_l, stage_after, in_turn}
use Rattle.log_bytes.specs.Rows.{WholeField}
use Rattle.log_bytes.specs.declared.Stage.{Stage}
use Rattle.log_bytes.specs.declared.Event.{Event}
use Rattle.log_bytes.specs.declared.Event.TheVariants.{Largest, Open, Close, Rename, Arrive, Serve, Passed}

-- The number in a width of bytes, high byte first.
unfoldable pub bytes_of : (width number : ℕ) → List ℕ
bytes_of zero number = []
bytes_of (suc width) number = bytes_of width (number / 256) ++ (number % 256 ∷ [])

-- A number of a value, and how many bytes it has.
pub record Operand : Type 0 where
  pub width : ℕ
  pub number : ℕ

infix 70 ◌in_bytes◌
abbrev pub ◌in_bytes◌ : (number width : ℕ) → Operand
◌in_bytes◌ number width = record { width = width; number = number }

-- The numbers of each event, in the order of the value's bytes.
abbrev pub operands_of : Event → List Operand
operands_of (Largest l) = l in_bytes 2 ∷ []
operands_of (Open o) = o.number in_bytes 4 ∷ o.share in_bytes 4 ∷ []
operands_of (Close block) = block in_bytes 4 ∷ []
operands_of (Rename old new) = old in_bytes 4 ∷ new in_bytes 4 ∷ []
operands_of (Arrive block number length) = block in_bytes 4 ∷ number in_bytes 4 ∷ length in_bytes 2 ∷ []
operands_of Serve = []
operands_of Passed = []

abbrev pub value_of : List Operand → List ℕ
value_of [] = []
value_of (o ∷ os) = bytes_of o.width o.number ++ value_of os

-- How many bytes the numbers have.
abbrev pub width_of : List Operand → ℕ
width_of [] = 0
width_of (o ∷ os) = o.width + width_of os

-- Every number fits its bytes.
abbrev pub InWidth : List Operand → Type 0
InWidth [] = Unit {0}
InWidth (o ∷ os) = (o.number < 256 ^ o.width) × InWidth os

-- One tag byte, two length bytes, the value.
unfoldable pub field_of : (tag : ℕ) (value : List ℕ) → List ℕ
field_of tag value = tag ∷ (bytes_of 2 (length value) ++ value)

-- The value of the field that begins with these bytes.
abbrev pub value_in : (bytes : List ℕ) → List ℕ
value_in bytes = take (length_in bytes) (drop 3 bytes)

abbrev pub SaysIf : (passed : Bool) → Event → (tag : ℕ) (value : List ℕ) → Type 0
SaysIf true e tag value = ((128 ≤ tag) × (tag < 256)) × (length value < 65536)
SaysIf false e tag value = (tag ≡ tag_of e) × ((value ≡ value_of (operands_of e)) × InWidth (operands_of e))

-- A field of this tag and value says this event. One that is passed over may have any value that its two length bytes
-- can count.
abbrev pub Says : Event → (tag : ℕ) (value : List ℕ) → Type 0
Says e tag value = SaysIf (is_passed e) e tag value

-- Every number of the list is a byte.
abbrev pub AllBytes : List ℕ → Type 0
AllBytes [] = Unit {0}
AllBytes (b ∷ s) = (b < 256) × AllBytes s

-- A field as it is spelt, and a log of such fields.
pub record Spelt : Type 0 where
  pub event : Event
  pub tag : ℕ
  pub value : List ℕ

abbrev pub log_of : List Spelt → List ℕ
log_of [] = []
log_of (x ∷ xs) = field_of x.tag x.value ++ log_of xs

abbrev pub AllSay : List Spelt → Type 0
AllSay [] = Unit {0}
AllSay (x ∷ xs) = Says x.event x.tag x.value × AllSay xs

-- L comes first and once.
abbrev pub AllInTurn : Stage → List Spelt → Type 0
AllInTurn stage [] = past_l stage ≡ true
AllInTurn stage (x ∷ xs) = (in_turn x.event stage ≡ true) × AllInTurn (stage_after stage x.event) xs

-- The fields with their offsets, from an offset on.
abbrev pub with_offsets : (at : ℕ) → List Spelt → List WholeField
with_offsets at [] = []
with_offsets at (x ∷ xs) =
    let next = at + length (field_of x.tag x.value) in
    record { offset = at; event = x.event; next = next } ∷ with_offsets next xs
