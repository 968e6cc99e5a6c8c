-- `calls::record` meets its contract: a refusal that comes before all others refuses the call (early_reply); else the
-- value is known, and what the rules say is the promise (called_left). Assumes nothing.
use mathlib.Core.Path.{◌≡◌, refl}
use borrow.Author.Rules.{rules}
use Rattle.numbers.specs.Codes.{refusal_code, outcome_code}
use Rattle.taking.proofs.Answers.{record_needs, record_known}
use Rattle.calls.proofs.Calling.{called_left, early_reply}
use Rattle.calls.proofs.record.Goals as goal

pub returns-in_err-early : goal.returns-in_err-early
returns-in_err-early c = early_reply _ _ _ _ c.in_err-early.ensures.early _ _ (search rules)

pub record_in-requires : goal.record_in-requires
record_in-requires c = record_needs _ _ _ (c.in_ok-early.ensures.known refl)

pub returns-in_err-record_in : goal.returns-in_err-record_in
returns-in_err-record_in c =
    let k = c.in_ok-early.ensures.known refl in
    let e : outcome_code c.from_residual-in_err-record_in.result ≡ refusal_code c.in_err-record_in.field-0.0 = search rules in
    rw e (called_left _ _ _ k _ _ _ _ _ _ c.in_err-record_in.ensures.rest (record_known _ _ _ k _ _ _ _ c.in_err-record_in.ensures.recorded))

pub returns : goal.returns
returns c =
    let k = c.in_ok-early.ensures.known refl in
    called_left _ _ _ k _ _ _ _ _ _ c.in_ok-record_in.ensures.rest (record_known _ _ _ k _ _ _ _ c.in_ok-record_in.ensures.recorded)
