-- The tag of each field of a log.
use Rattle.std.specs.Prelude.{◌≡◌, ℕ, ◌≤◌}
use Rattle.log_bytes.specs.declared.Tag.{Tag}
use Rattle.log_bytes.specs.declared.Tag.TheVariants.{Open, Close, Rename, Record, Serve, Largest, Passed}

-- The byte of each tag; of those passed over, which are 128 to 255, the first.
abbrev pub byte_of : Tag → ℕ
byte_of Open = 1
byte_of Close = 2
byte_of Rename = 3
byte_of Record = 4
byte_of Serve = 5
byte_of Largest = 6
byte_of Passed = 128

-- A byte is this tag.
abbrev pub IsTag : Tag → (byte : ℕ) → Type 0
IsTag Open byte = byte ≡ 1
IsTag Close byte = byte ≡ 2
IsTag Rename byte = byte ≡ 3
IsTag Record byte = byte ≡ 4
IsTag Serve byte = byte ≡ 5
IsTag Largest byte = byte ≡ 6
IsTag Passed byte = 128 ≤ byte
