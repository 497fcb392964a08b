-- By computing.
use Rattle.std.proofs.Common.{refl}
use Rattle.cli_check.specs.Reporting.{report_of}
use Rattle.cli_check.proofs.examples.reports.windows_with_data.Goals as goal

pub returns-clause-none : goal.returns-clause-none
unfolding report_of
returns-clause-none c = refl

pub returns-clause-each : goal.returns-clause-each
unfolding report_of
returns-clause-each c = refl

pub returns-clause-torn : goal.returns-clause-torn
unfolding report_of
returns-clause-torn c = refl

pub returns-clause-uncounted : goal.returns-clause-uncounted
unfolding report_of
returns-clause-uncounted c = refl
