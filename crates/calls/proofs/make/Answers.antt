-- `calls::make` meets its contract: each refusal by its test, in turn, the tables' lengths by their laws (ids_wrong,
-- lens_wrong, none_wrong); a done making is what `make_in` leaves. Assumes nothing.
use Rattle.board.proofs.Tables.{ids_wrong, lens_wrong, none_wrong}
use Rattle.calls.specs.Promises.{made}
use Rattle.rules.specs.Calls.{make}
use Rattle.board.specs.declared.Board as struct
use Rattle.board.specs.Leaving.{Returned, returned, replied}
use mathlib.Core.Path.{◌≡◌, ap}
use mathlib.Core.Bool.{◌&&◌}
use lib.Dec.{leb}
use borrow.Author.Rules.{rules}
use Rattle.calls.proofs.make.Goals.{After-contains}
use Rattle.calls.proofs.make.Goals.{then-ids-ne-TABLE_ENTRIES-via-then-ids-ne-TABLE_ENTRIES}
use Rattle.calls.proofs.make.Goals.{then-ids-ne-TABLE_ENTRIES-via-else-ids-ne-TABLE_ENTRIES+then-lens-ne-TABLE_ENTRIES}
use Rattle.calls.proofs.make.Goals as goal

pub returns-then-ids-ne-TABLE_ENTRIES : goal.returns-then-ids-ne-TABLE_ENTRIES
unfolding made make
returns-then-ids-ne-TABLE_ENTRIES c =
    elim c.then-ids-ne-TABLE_ENTRIES.branch [
      | then-ids-ne-TABLE_ENTRIES-via-then-ids-ne-TABLE_ENTRIES w ↦ rw (ids_wrong _ _ w.if-ids-ne-TABLE_ENTRIES.true)
      | then-ids-ne-TABLE_ENTRIES-via-else-ids-ne-TABLE_ENTRIES+then-lens-ne-TABLE_ENTRIES w ↦
          rw (lens_wrong _ _ w.if-lens-ne-TABLE_ENTRIES.true)
    ]

-- L is in its range, as the test found it
in_range : (c : After-contains) → c.contains.result ≡ (leb 64 c.args.largest && leb c.args.largest 2048)
in_range c = search rules

pub returns-then-not-contains : goal.returns-then-not-contains
unfolding made make
returns-then-not-contains c =
    rw (
      none_wrong _ _ c.if-ids-ne-TABLE_ENTRIES.false c.if-lens-ne-TABLE_ENTRIES.false,
      ← in_range (goal.at.returns-then-not-contains c).After-contains,
      c.if-not-contains.true,
    )

pub returns : goal.returns
unfolding made make
returns c =
    rw (
      none_wrong _ _ c.if-ids-ne-TABLE_ENTRIES.false c.if-lens-ne-TABLE_ENTRIES.false,
      ← in_range (goal.at.returns c).After-contains,
      c.if-not-contains.false,
    )
    (ap (λ (w : Returned struct.Board). returned (replied 0 w.reply) w.ids w.lens) c.make_in.ensures)
