-- The worked listing, and one line of each kind that it lacks, are computed. Assumes nothing.
use mathlib.Core.Path.{refl}
use Rattle.lines.specs.Text.{decimal_in, decimal, columns, line_of}
use Rattle.lines.specs.Listing.{open_line, close_line, name_line, in_line, out_line, refused_line, end_line, broken_line, long_line}
use Rattle.lines.specs.Worked.{WorkedListing, OtherLines}

pub worked_listing : WorkedListing
unfolding open_line in_line out_line refused_line end_line line_of columns decimal decimal_in
worked_listing = refl

pub other_lines_lem : OtherLines
unfolding close_line name_line broken_line long_line line_of columns decimal decimal_in
other_lines_lem = refl
