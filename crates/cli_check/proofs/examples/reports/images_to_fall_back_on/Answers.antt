-- By computing.
use Rattle.std.proofs.Common.{refl}
use Rattle.cli_check.specs.Reporting.{report_of}
use Rattle.cli_check.proofs.examples.reports.images_to_fall_back_on.Goals as goal

pub returns-clause-none : goal.returns-clause-none
unfolding report_of
returns-clause-none c = refl

pub returns-clause-fault : goal.returns-clause-fault
unfolding report_of
returns-clause-fault c = refl

pub returns-clause-valid : goal.returns-clause-valid
unfolding report_of
returns-clause-valid c = refl
