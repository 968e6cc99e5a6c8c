-- `c_calls::finish_on` meets its contract: a refusal leaves the feeder, and what is done is stored. Assumes nothing.
use borrow.Author.Rules.{rules}
use Rattle.c_calls.proofs.Feeding.{finish_refused, finish_done}
use Rattle.c_calls.proofs.finish_on.Goals as goal

pub returns-in_err-fed : goal.returns-in_err-fed
returns-in_err-fed c = finish_refused _ _ _ _ _ c.finish.new.s c.in_err-fed.field-0.0 (rw (← c.from-s.ensures) c.in_err-fed.ensures) _ (search rules)

pub returns : goal.returns
returns c = rw c.from.ensures (finish_done _ _ _ _ _ _ _ (rw (← c.from-s.ensures) c.in_ok-fed.ensures))
