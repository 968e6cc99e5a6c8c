-- `fragments::Reader::read_first` meets its contract. What is known by the part is known, and its bytes are kept. Assumes
-- nothing.
use borrow.Author.Rules.{rules}
use Rattle.fragments.proofs.Reading.{first_read}
use Rattle.fragments.proofs.Reader.read_first.Goals as goal

pub returns-clause-read : goal.returns-clause-read
returns-clause-read c =
    rw c.requires.1 (first_read _ _ _ _ _ (search rules) c.requires.0 c.next_in.ensures _ c.keep_first.ensures)
