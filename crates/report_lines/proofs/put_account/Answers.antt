-- `report_lines::put_account` meets its contract: the line fits the room (account_fits_lem), and its columns are written one after
-- another. Assumes nothing.
use mathlib.Core.Path.{◌≡◌}
use mathlib.Core.List.{◌∷◌, []}
use Prim.Native.Nat.{ℕ, ◌+◌, ◌≤◌}
use native.Mathlib.Omega.{arith}
use mir.Syntax.{w64}
use mir.Val.{Fits, to_z, of_z}
use mir.Facts.{to_z-of_z}
use lib.ListN.{length}
use Rattle.lines.specs.Text.{decimal, columns}
use Rattle.report_lines.specs.Text.{signed, account_line}
use Rattle.report_lines.proofs.Signs.{size_most}
use Rattle.report_lines.proofs.Texts.{account_length, account_all}
use Rattle.report_lines.proofs.Fitting.{account_fits_lem}
use borrow.Author.Rules.{rules}
use Rattle.report_lines.proofs.put_account.Goals.{Start}
use Rattle.report_lines.proofs.put_account.Goals as goal

line_most : (c : Start)
    → length (account_line c.args.block c.args.slots c.args.credit.0 c.args.bytes.0 c.args.difference c.args.lost.0) ≤ 116
line_most c =
    let k : Fits w64 c.args.credit.0 = search rules in
    let b : Fits w64 c.args.bytes.0 = search rules in
    let l : Fits w64 c.args.lost.0 = search rules in
    account_fits_lem c.args.block c.args.slots c.args.credit.0 c.args.bytes.0 c.args.difference c.args.lost.0 c.ranges.block.fits
    c.ranges.slots.fits k.fits b.fits
    (size_most c.args.difference c.ranges.difference) l.fits

-- the room for the line, column by column; the difference as the i64 holds it
room : (c : Start) (block : ℕ) → block ≡ c.args.block → (let args = c.args in
    args.at + length (decimal block) + length (columns (args.slots ∷ args.credit.0 ∷ args.bytes.0 ∷ [])) + 1
    + length (signed (to_z w64 (of_z w64 args.difference))) + length (columns (args.lost.0 ∷ [])) + 1 ≤ length args.out.now)
room c block e =
    rw (to_z-of_z c.ranges.difference, e)
    (omega (
      arith,
      account_length c.args.block c.args.slots c.args.credit.0 c.args.bytes.0 c.args.difference c.args.lost.0,
      line_most c,
      c.requires,
    ))

pub put_number-a-requires : goal.put_number-a-requires
put_number-a-requires c =
    omega (arith, room (goal.at.put_number-a-requires c).Start _ c.into.ensures)

pub put_columns-b-requires : goal.put_columns-b-requires
put_columns-b-requires c =
    omega (arith, room (goal.at.put_columns-b-requires c).Start _ c.into.ensures)

pub put_byte-c-requires : goal.put_byte-c-requires
put_byte-c-requires c =
    omega (arith, room (goal.at.put_byte-c-requires c).Start _ c.into.ensures)

pub put_signed-d-requires : goal.put_signed-d-requires
put_signed-d-requires c =
    omega (arith, room (goal.at.put_signed-d-requires c).Start _ c.into.ensures)

pub put_columns-e-requires : goal.put_columns-e-requires
put_columns-e-requires c =
    omega (arith, room (goal.at.put_columns-e-requires c).Start _ c.into.ensures)

pub put_byte-requires : goal.put_byte-requires
put_byte-requires c =
    omega (arith, room (goal.at.put_byte-requires c).Start _ c.into.ensures)

pub returns : goal.returns
returns c =
    let whole =
    account_all c.args.block c.args.slots c.args.credit.0 c.args.bytes.0 c.args.difference
    c.args.lost.0 (rw c.into.ensures at c.put_number-a.ensures) c.put_columns-b.ensures
    c.put_byte-c.ensures (rw (to_z-of_z c.ranges.difference) at c.put_signed-d.ensures)
    c.put_columns-e.ensures c.put_byte.ensures in (
      whole,
      omega (arith, whole.ends, line_most (goal.at.returns c).Start),
    )
