-- `counting::place_fits` meets its contract: it is the test of one place, on the account that is read there.
-- Assumes nothing.
use mathlib.Core.Path.{sym, ap₂, ◌∙◌}
use Prim.Native.Nat.{ℕ}
use lib.Dec.{ltb}
use lib.ListN.{get_or}
use Rattle.accounts.specs.Accounts.{Account, fits_with}
use Rattle.counting.proofs.Accounts.{account_at}
use Rattle.counting.proofs.place_fits.Goals as goal

pub in_hand-requires : goal.in_hand-requires
in_hand-requires c = (c.requires.0, c.requires.1 c.args.place)

pub returns : goal.returns
returns c =
    c.fits.ensures
    ∙ ap₂ (λ (h : ℕ) (a : Account). fits_with (ltb 0 (get_or c.args.b.now.shares c.args.place 0)) h a) c.in_hand.ensures
    (sym (account_at c.args.c.now c.args.place))
