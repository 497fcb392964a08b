-- By computing.
use Rattle.std.proofs.Common.{refl}
use Rattle.cli_check.specs.Reporting.{report_of}
use Rattle.cli_check.proofs.examples.reports.scripts_played_again.Goals as goal

pub returns-clause-yes : goal.returns-clause-yes
unfolding report_of
returns-clause-yes c = refl

pub returns-clause-step : goal.returns-clause-step
unfolding report_of
returns-clause-step c = refl

pub returns-clause-table : goal.returns-clause-table
unfolding report_of
returns-clause-table c = refl

pub returns-clause-target : goal.returns-clause-target
unfolding report_of
returns-clause-target c = refl
