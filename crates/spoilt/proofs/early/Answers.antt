-- `spoilt::early` meets its contract: the tables' lengths by their tests; then the computed test finds the code
-- (early_by), and a board that is refused nothing is known (known_by). Assumes nothing.
use mathlib.Core.Path.{sym, ◌∙◌}
use mathlib.Core.Bool.{true, false}
use Rattle.spoilt.proofs.Before.{early_short, early_by, known_by}
use Rattle.spoilt.proofs.early.Goals as goal

pub returns-then-not-tables_whole-clause-early : goal.returns-then-not-tables_whole-clause-early
returns-then-not-tables_whole-clause-early c = early_short _ _ _ (sym c.tables_whole.ensures ∙ c.if-not-tables_whole.true)

pub returns-then-not-sound-clause-early : goal.returns-then-not-sound-clause-early
returns-then-not-sound-clause-early c =
    early_by _ _ _ c.sound.ensures.sized (sym c.tables_whole.ensures ∙ c.if-not-tables_whole.false) false (sym c.sound.ensures.test ∙ c.if-not-sound.true)

pub returns-clause-early : goal.returns-clause-early
returns-clause-early c =
    early_by _ _ _ c.sound.ensures.sized (sym c.tables_whole.ensures ∙ c.if-not-tables_whole.false) true (sym c.sound.ensures.test ∙ c.if-not-sound.false)

pub returns-clause-known : goal.returns-clause-known
returns-clause-known c ok =
    known_by _ _ _
    (sym (early_by c.args.b.now c.args.ids.now c.args.lens.now c.sound.ensures.sized (sym c.tables_whole.ensures ∙ c.if-not-tables_whole.false) true
    (sym c.sound.ensures.test ∙ c.if-not-sound.false)))
