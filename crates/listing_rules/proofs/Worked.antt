-- The listing of document 01's worked log, byte for byte.
use mathlib.Core.Path.{ap}
use Rattle.base.specs.Sums.{sum, below}
use Rattle.base.specs.Tests.{least}
use Rattle.units.specs.Classes.{class_of, next_start}
use Rattle.units.specs.Credit.{framing, charged, largest_charge, credit_of}
use Rattle.lanes.specs.Lanes.{ring_entry, ring_on, lane_depth, lane_first}
use Rattle.rules.specs.Board.{bytes_charged, entry, onward, some_wait, any_due, used_share, fresh}
use Rattle.rules.specs.Choice.{where_is, upd, taken_in, take_record, release, least_ready, settle, ended, send_from, send, lowest, begin, serve_by, serve}
use Rattle.rules.specs.Blocks.{free_at, open_block}
use Rattle.rules.specs.Calls.{step}
use Rattle.log_bytes.specs.Rows.{Reading}
use Rattle.log_bytes.proofs.Worked.{worked_reading}
use Rattle.lines.specs.Text.{decimal_in, decimal, columns, line_of}
use Rattle.lines.specs.Listing.{open_line, in_line, out_line, refused_line, end_line}
use Rattle.listing_rules.specs.Listing.{unmade, lines_of, listing_of}
use Rattle.listing_rules.specs.Laws.{WorkedLogListed}

pub worked_log_listed : WorkedLogListed
unfolding listing_of lines_of open_line in_line out_line refused_line end_line line_of columns decimal decimal_in sum below least class_of next_start framing
    charged
    largest_charge credit_of bytes_charged ring_entry ring_on lane_depth lane_first entry onward some_wait any_due used_share fresh where_is upd taken_in
    take_record release
    least_ready settle ended send_from send lowest begin serve_by serve free_at open_block step
worked_log_listed = ap (λ (r : Reading). lines_of unmade r.fields r.ends) worked_reading
