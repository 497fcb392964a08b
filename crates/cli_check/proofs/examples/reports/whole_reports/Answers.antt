-- By computing.
use Rattle.std.proofs.Common.{refl}
use Rattle.cli_check.specs.Reporting.{report_of}
use Rattle.cli_check.proofs.examples.reports.whole_reports.Goals as goal

pub returns-clause-well : goal.returns-clause-well
unfolding report_of
returns-clause-well c = refl

pub returns-clause-lost : goal.returns-clause-lost
unfolding report_of
returns-clause-lost c = refl
