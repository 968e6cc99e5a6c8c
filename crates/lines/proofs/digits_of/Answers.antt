-- `lines::digits_of` meets its contract: the number is below ten, or lies between two powers of ten. Assumes nothing.
use native.Mathlib.Nat.{pow-suc}
use native.Mathlib.Omega.{arith}
use Rattle.lines.proofs.Digits.{digits_one, digits_between}
use Rattle.lines.proofs.digits_of.Goals as goal

pub returns-then-n-lt10 : goal.returns-then-n-lt10
returns-then-n-lt10 c = digits_one _ c.if-n-lt10.true

pub returns : goal.returns
returns c =
    let w = c.ilog10.result in
    omega (arith, digits_between w c.args.n c.ilog10.ensures.power_le (omega (arith, pow-suc 10 w, c.ilog10.ensures.next_power_gt)))
