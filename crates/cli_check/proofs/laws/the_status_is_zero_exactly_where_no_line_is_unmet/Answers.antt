use Rattle.cli_check.proofs.CheckRuleLemmas.{done-exactly, done-lines}
use Rattle.cli_check.proofs.laws.the_status_is_zero_exactly_where_no_line_is_unmet.Goals as goal

pub returns-clause-members : goal.returns-clause-members
returns-clause-members c = done-exactly

pub returns-clause-lines : goal.returns-clause-lines
returns-clause-lines c = done-lines
