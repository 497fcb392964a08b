-- By computing.
use Rattle.std.proofs.Common.{refl}
use Rattle.cli_check.specs.Reporting.{report_of}
use Rattle.cli_check.proofs.examples.reports.records_that_are_well.Goals as goal

pub returns-clause-well : goal.returns-clause-well
unfolding report_of
returns-clause-well c = refl

pub returns-clause-refused : goal.returns-clause-refused
unfolding report_of
returns-clause-refused c = refl

pub returns-clause-unfinished : goal.returns-clause-unfinished
unfolding report_of
returns-clause-unfinished c = refl
