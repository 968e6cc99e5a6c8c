-- `report_lines::difference` meets its contract: both counts fit an i64, and so does their difference (sub_fits). Assumes nothing.
use Rattle.report_lines.proofs.Signs.{sub_fits, sub_is}
use Rattle.report_lines.proofs.difference.Goals as goal

pub overflow_sub-result : goal.overflow_sub-result
overflow_sub-result c =
    sub_fits c.args.got.0 c.args.due.0 c.requires.0 c.requires.1

pub returns : goal.returns
returns c =
    sub_is c.args.got.0 c.args.due.0 c.requires.0 c.requires.1
