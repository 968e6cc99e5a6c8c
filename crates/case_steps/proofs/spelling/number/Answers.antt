-- `case_steps::spelling::number` meets its contract: it is spelled by the next eight bytes. Assumes nothing.
use Rattle.case_steps.proofs.spelling.number.Goals as goal

pub returns : goal.returns
returns g c = (c.read_exact.new.buf, c.in_ok-read_exact.ensures.bytes, c.read_exact.auto.buf, c.from_be_bytes.ensures)
