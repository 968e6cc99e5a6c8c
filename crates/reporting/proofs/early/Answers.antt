-- `reporting::early` meets its contract. Test by test, in the order of the codes. Assumes nothing.
use mathlib.Core.Path.{refl, sym, ◌∙◌}
use mathlib.Core.Logic.{⊎_elim}
use Rattle.std.proofs.lemmas.Result.{err_from_is_err_and}
use Rattle.numbers.proofs.Refusals.{refusal_not_done}
use Rattle.board.proofs.Tables.{ids_wrong, lens_wrong}
use Rattle.spoilt.proofs.Before.{sound_known}
use Rattle.counting.proofs.Fitting.{hands_small, counts_fit_decides}
use Rattle.reporting.specs.Feeding.{feed_code}
use Rattle.reporting.proofs.Codes.{code_over, code_kept, code_before, code_early, code_counts, code_ready, can_before, can_past}
use Rattle.reporting.proofs.early.Goals as goal

pub returns-then-ids-ne-TABLE_ENTRIES-clause-code : goal.returns-then-ids-ne-TABLE_ENTRIES-clause-code
unfolding feed_code
returns-then-ids-ne-TABLE_ENTRIES-clause-code c = rw (⊎_elim (ids_wrong _ _) (λ w. lens_wrong _ _ w.1) c.then-ids-ne-TABLE_ENTRIES.either) refl

pub returns-then-s-clause-code : goal.returns-then-s-clause-code
returns-then-s-clause-code c = code_over _ _ _ c.if-ids-ne-TABLE_ENTRIES.false c.if-lens-ne-TABLE_ENTRIES.false c.if-s.true

pub returns-then-not-is_fit-clause-code : goal.returns-then-not-is_fit-clause-code
returns-then-not-is_fit-clause-code c =
    code_kept _ _ _ c.if-ids-ne-TABLE_ENTRIES.false c.if-lens-ne-TABLE_ENTRIES.false c.if-s.false (sym c.is_fit.ensures.fit ∙ c.if-not-is_fit.true)

pub returns-then-not-past_l-clause-code : goal.returns-then-not-past_l-clause-code
returns-then-not-past_l-clause-code c =
    code_before _ _ _ c.if-ids-ne-TABLE_ENTRIES.false c.if-lens-ne-TABLE_ENTRIES.false c.if-s.false (sym c.is_fit.ensures.fit ∙ c.if-not-is_fit.false)
    (sym c.past_l.ensures ∙ c.if-not-past_l.true)

pub returns-then-not-past_l-clause-known : goal.returns-then-not-past_l-clause-known
returns-then-not-past_l-clause-known c =
    λ ok. can_before _ _ _ c.if-ids-ne-TABLE_ENTRIES.false c.if-lens-ne-TABLE_ENTRIES.false (sym c.is_fit.ensures.fit ∙ c.if-not-is_fit.false)
    (sym c.past_l.ensures ∙ c.if-not-past_l.true)

pub returns-in_err-early-clause-code : goal.returns-in_err-early-clause-code
returns-in_err-early-clause-code c =
    let err = err_from_is_err_and c.from_residual.result c.from_residual.ensures.1 in
    let is = c.in_err-early.ensures.early in
    rw (err.1, err.2)
    (is ∙ code_early _ _ _ c.if-ids-ne-TABLE_ENTRIES.false c.if-lens-ne-TABLE_ENTRIES.false c.if-s.false (sym c.is_fit.ensures.fit ∙ c.if-not-is_fit.false)
    (sym c.past_l.ensures ∙ c.if-not-past_l.false)
    (λ z. refusal_not_done _ (is ∙ z)))

pub counts_fit-requires : goal.counts_fit-requires
counts_fit-requires c = hands_small _ _ _ (c.in_ok-early.ensures.known refl)

pub returns-then-not-counts_fit-clause-code : goal.returns-then-not-counts_fit-clause-code
returns-then-not-counts_fit-clause-code c =
    code_counts _ _ _ c.if-ids-ne-TABLE_ENTRIES.false c.if-lens-ne-TABLE_ENTRIES.false c.if-s.false (sym c.is_fit.ensures.fit ∙ c.if-not-is_fit.false)
    (sym c.past_l.ensures ∙ c.if-not-past_l.false)
    (sound_known _ _ _ (c.in_ok-early.ensures.known refl)) (sym c.counts_fit.ensures.fit ∙ c.if-not-counts_fit.true)

pub returns-clause-code : goal.returns-clause-code
returns-clause-code c =
    code_ready _ _ _ c.if-ids-ne-TABLE_ENTRIES.false c.if-lens-ne-TABLE_ENTRIES.false c.if-s.false (sym c.is_fit.ensures.fit ∙ c.if-not-is_fit.false)
    (sym c.past_l.ensures ∙ c.if-not-past_l.false)
    (sound_known _ _ _ (c.in_ok-early.ensures.known refl)) (sym c.counts_fit.ensures.fit ∙ c.if-not-counts_fit.false)

pub returns-clause-known : goal.returns-clause-known
returns-clause-known c = λ ok.
    let known = c.in_ok-early.ensures.known refl in
    can_past _ _ _ c.if-ids-ne-TABLE_ENTRIES.false c.if-lens-ne-TABLE_ENTRIES.false (sym c.is_fit.ensures.fit ∙ c.if-not-is_fit.false)
    (record {
      good = known;
      fits = (counts_fit_decides _ _ _ _ known c.counts_fit.ensures.sized).yes (sym c.counts_fit.ensures.fit ∙ c.if-not-counts_fit.false);
      sized = c.counts_fit.ensures.sized;
    })
