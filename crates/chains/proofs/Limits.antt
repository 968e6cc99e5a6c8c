-- No answered clock is 2^62 or later, and no deficit that is left comes to L bytes.
use mathlib.Core.Path.{sym, ap, subst}
use mathlib.Core.List.{List, [], ◌∷◌}
use Prim.Native.Nat.{◌^◌, ◌<◌}
use native.Mathlib.Omega.{arith}
use Rattle.rules.specs.Board
use Rattle.rules.specs.Choice.{send, begin}
use Rattle.rules.specs.Calls.{Single, step, told}
use Rattle.rules.specs.Runs.{answer, clock_of}
use Rattle.rules.proofs.Cases.{call_cases}
use Rattle.rules.proofs.Promises
use Rattle.rules.proofs.Tidy.{Tidy}
use Rattle.rules.proofs.TidyCalls.{tidy_step}
use Rattle.rules.proofs.Turns.{busy}
use Rattle.chains.specs.Demands.{reads}
use Rattle.chains.specs.Limits.{InTime, ClocksInTime, DeficitsSmall}
use Rattle.chains.proofs.Values.{deficit_is}
use Rattle.chains.proofs.Rows.{At, at_made, at_tidy, at_on, said_of, along}

-- ---- clocks

pub answer_in_time : (b : Board.Board) → Tidy b → (x : Single) → clock_of (answer b x) < 2 ^ 62
unfolding send begin
answer_in_time b g = call_cases b g (λ x u. clock_of (told b u.out) < 2 ^ 62) (record {
  refused = λ x code r. omega arith;
  opens = λ o c. omega arith;
  renames = λ p old new c. omega arith;
  closes = λ p n c. omega arith;
  takes = λ p n r c. omega arith;
  goes_on = λ p c. omega (arith, g.time, ap busy c.slot);
  begins = λ r t p c e. c.soon;
})

said_in_time : (b : Board.Board) → Tidy b → (xs : List Single) → InTime (said_of b xs)
unfolding InTime said_of
said_in_time b g [] = tt
said_in_time b g (x ∷ xs) = (answer_in_time b g x, said_in_time (step b x).next (tidy_step b x g) xs)

pub clocks_in_time : ClocksInTime
clocks_in_time L s e cs told xs said made! r =
    let h = at_made L s made! in
    subst InTime (sym (along xs h.good r.singles).answers) (said_in_time (reads s) (at_tidy L s h) xs)

-- ---- deficits

pub deficits_small : DeficitsSmall
deficits_small L s e cs told made! chain p = rw (deficit_is e h.good p) (Promises.deficits_small L (reads e) h.run p)
  where
    h : At L e
    h = at_on L (at_made L s made!) chain
