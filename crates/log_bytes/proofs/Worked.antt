-- The worked log and its reading are computed. Assumes nothing.
use mathlib.Core.Path.{refl}
use Rattle.log_bytes.specs.Format.{number_at, length_of, right_length, event_of, stage_after, right_tag, in_turn, is_read, is_broken, is_whole, is_past}
use Rattle.log_bytes.specs.Format.{next_in}
use Rattle.log_bytes.specs.Rows.{end_in, next_of, read_up_to, read_from, read_log}
use Rattle.log_bytes.specs.Worked.{WorkedLength, WorkedReading}

pub worked_length : WorkedLength
worked_length = refl

pub worked_reading : WorkedReading
unfolding read_log read_from read_up_to next_of next_in is_broken is_whole is_past is_read end_in right_tag number_at length_of right_length event_of
    stage_after in_turn
worked_reading = refl
