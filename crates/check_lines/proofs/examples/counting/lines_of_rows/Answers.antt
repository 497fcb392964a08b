use Rattle.std.proofs.Common.{refl}
use Rattle.std.specs.Fmt.{digits}
use Rattle.check_lines.specs.Counting.{rows_line}
use Rattle.check_lines.proofs.examples.counting.lines_of_rows.Goals as goal

pub returns-clause-none : goal.returns-clause-none
unfolding rows_line digits
returns-clause-none c = refl

pub returns-clause-each : goal.returns-clause-each
unfolding rows_line digits
returns-clause-each c = refl

pub returns-clause-digits : goal.returns-clause-digits
unfolding rows_line digits
returns-clause-digits c = refl
