-- By computing.
use Rattle.std.proofs.Common.{refl}
use Rattle.cli_check.specs.Reporting.{report_of}
use Rattle.cli_check.proofs.examples.reports.windows_that_were_written.Goals as goal

pub returns-clause-valid : goal.returns-clause-valid
unfolding report_of
returns-clause-valid c = refl

pub returns-clause-fault : goal.returns-clause-fault
unfolding report_of
returns-clause-fault c = refl
