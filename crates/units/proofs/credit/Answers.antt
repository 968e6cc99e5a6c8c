-- `units::credit` meets its contract: the factors are those of the definition, and the product fits, since share x 2^k
-- is under two lines and L small (class_hi, charge_small, credit_fits). Assumes nothing.
use Prim.Native.Nat.{◌*◌, ◌^◌}
use native.Mathlib.Omega.{arith}
use Rattle.units.specs.Classes.{class_of}
use Rattle.units.specs.Credit.{largest_charge, credit_of}
use Rattle.units.proofs.Classes.{class_le, class_hi}
use Rattle.units.proofs.Credits.{charge_small, credit_fits}
use Rattle.units.proofs.credit.Goals as goal

pub interval-requires : goal.interval-requires
interval-requires c = omega (arith, class_le c.args.share)

pub overflow_mul-result : goal.overflow_mul-result
overflow_mul-result c =
    record { fits = rw (c.from.ensures, c.interval.ensures, c.requires.1.1.0) (omega (arith, class_hi c.args.share c.requires.1.0)) }

pub overflow_mul-result-2 : goal.overflow_mul-result-2
unfolding largest_charge
overflow_mul-result-2 c =
    record {
      fits = rw (c.from.ensures, c.interval.ensures, c.requires.1.1.0, c.charged.ensures)
          (credit_fits (c.args.share * 2 ^ class_of c.args.share) _ (class_hi c.args.share c.requires.1.0)
          (charge_small c.args.largest.0 c.requires.1.1.1));
    }

pub returns : goal.returns
unfolding credit_of largest_charge
returns c = rw (c.from.ensures, c.interval.ensures, c.requires.1.1.0, c.charged.ensures)
