use Rattle.std.proofs.Common.{refl}
use Rattle.std.specs.Fmt.{digits}
use Rattle.check_lines.specs.Counting.{held_line, skipped_line}
use Rattle.check_lines.proofs.examples.counting.lines_of_events.Goals as goal

pub returns-clause-held : goal.returns-clause-held
unfolding held_line skipped_line digits
returns-clause-held c = refl

pub returns-clause-held_later : goal.returns-clause-held_later
unfolding held_line skipped_line digits
returns-clause-held_later c = refl

pub returns-clause-skipped : goal.returns-clause-skipped
unfolding held_line skipped_line digits
returns-clause-skipped c = refl

pub returns-clause-skipped_later : goal.returns-clause-skipped_later
unfolding held_line skipped_line digits
returns-clause-skipped_later c = refl
