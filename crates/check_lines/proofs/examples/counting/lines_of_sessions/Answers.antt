use Rattle.std.proofs.Common.{refl}
use Rattle.std.specs.Fmt.{padded_integral, digits, char_count}
use Rattle.check_lines.specs.Counting.{session_line, session_text}
use Rattle.check_lines.proofs.examples.counting.lines_of_sessions.Goals as goal

pub returns-clause-none : goal.returns-clause-none
unfolding session_line session_text padded_integral digits char_count
returns-clause-none c = refl

pub returns-clause-staged : goal.returns-clause-staged
unfolding session_line session_text padded_integral digits char_count
returns-clause-staged c = refl

pub returns-clause-gated : goal.returns-clause-gated
unfolding session_line session_text padded_integral digits char_count
returns-clause-gated c = refl

pub returns-clause-confined : goal.returns-clause-confined
unfolding session_line session_text padded_integral digits char_count
returns-clause-confined c = refl

pub returns-clause-script : goal.returns-clause-script
unfolding session_line session_text padded_integral digits char_count
returns-clause-script c = refl

pub returns-clause-windows : goal.returns-clause-windows
unfolding session_line session_text padded_integral digits char_count
returns-clause-windows c = refl

pub returns-clause-running : goal.returns-clause-running
unfolding session_line session_text padded_integral digits char_count
returns-clause-running c = refl

pub returns-clause-table : goal.returns-clause-table
unfolding session_line session_text padded_integral digits char_count
returns-clause-table c = refl

pub returns-clause-order : goal.returns-clause-order
unfolding session_line session_text padded_integral digits char_count
returns-clause-order c = refl
