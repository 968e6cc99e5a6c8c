-- `fragments::Reader::read_rest` meets its contract. So many bytes are put behind those that were kept as the field wants
-- and the part has. Assumes nothing.
use native.Mathlib.Omega.{arith}
use borrow.Author.Rules.{rules}
use Rattle.log_bytes.proofs.Wholes.{part_is}
use Rattle.fragments.proofs.Reading.{rest_fits, read_behind}
use Rattle.fragments.proofs.Reader.read_rest.Goals as goal

pub wanted-requires : goal.wanted-requires
wanted-requires c =
    (search rules, (part_is _ _ _ _ _ c.requires.1.1).has)

pub overflow_add-now : goal.overflow_add-now
overflow_add-now c =
    omega (arith, (part_is _ _ _ _ _ c.requires.1.1).low, c.min.ensures)

pub keep-requires : goal.keep-requires
keep-requires c =
    rest_fits _ _ c.args.self.now.kept _ c.args.part.now _ _ (search rules) c.requires.1.1 c.wanted.ensures c.min.ensures _
    c.kept_of-count.ensures

pub returns-clause-read : goal.returns-clause-read
returns-clause-read c =
    read_behind _ _ c.args.self.now.kept _ c.args.part.now _ _ (search rules) c.requires.1.1 c.wanted.ensures c.min.ensures
    c.requires.1.0 c.requires.0 _ c.kept_of-count.ensures _ _ c.keep.ensures c.next_in.ensures
