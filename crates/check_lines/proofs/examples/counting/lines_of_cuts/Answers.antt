use Rattle.std.proofs.Common.{refl}
use Rattle.std.specs.Fmt.{digits}
use Rattle.check_lines.specs.Counting.{cuts_line, other_counts, well_counts}
use Rattle.check_lines.proofs.examples.counting.lines_of_cuts.Goals as goal

pub returns-clause-none : goal.returns-clause-none
unfolding cuts_line other_counts well_counts digits
returns-clause-none c = refl

pub returns-clause-each : goal.returns-clause-each
unfolding cuts_line other_counts well_counts digits
returns-clause-each c = refl

pub returns-clause-digits : goal.returns-clause-digits
unfolding cuts_line other_counts well_counts digits
returns-clause-digits c = refl
