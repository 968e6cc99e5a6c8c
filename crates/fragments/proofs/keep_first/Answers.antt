-- `fragments::keep_first` meets its contract. No more are kept than have come. Assumes nothing.
use native.Mathlib.Omega.{arith}
use lib.ListN.{length}
use Rattle.log_bytes.specs.Format.{tag_in}
use Rattle.fragments.proofs.Kept.{kept_of_most}
use Rattle.fragments.proofs.keep_first.Goals as goal

pub keep-requires : goal.keep-requires
keep-requires c =
    let part = c.args.part.now in
    (omega (arith, c.requires.0), omega (arith, c.kept_of-count.ensures, kept_of_most (tag_in part) (length part)))
