-- PARTS AND BYTES (document 01, 'Numbers' and 'Classes, starts and credit'): one byte of credit is 65,536 parts.
-- Lengths, charges and L are bytes; credits, deficits and what is left of a slot are parts.
use Rattle.std.specs.Prelude.{ℕ, ◌+◌, ◌*◌, ◌^◌}
use Rattle.units.specs.Classes.{class_of}

-- bytes that the line carries with each record besides its own
unfoldable pub framing : ℕ
framing = 0

-- the bytes that a record of this length is charged, and the largest charge on a board whose largest record is L
unfoldable pub charged : (len : ℕ) → ℕ
charged len = len + framing

unfoldable pub largest_charge : (L : ℕ) → ℕ
largest_charge L = charged L

-- the charge of a record, in parts
unfoldable pub charge_of : (len : ℕ) → ℕ
charge_of len = charged len * 65536

-- Credit of one slot: s x 2^k x L parts, k the class of the share s.
unfoldable pub credit_of : (L share : ℕ) → ℕ
credit_of L share = share * 2 ^ class_of share * largest_charge L
