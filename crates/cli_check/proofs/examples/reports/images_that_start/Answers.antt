-- By computing.
use Rattle.std.proofs.Common.{refl}
use Rattle.cli_check.specs.Reporting.{report_of}
use Rattle.cli_check.proofs.examples.reports.images_that_start.Goals as goal

pub returns-clause-none : goal.returns-clause-none
unfolding report_of
returns-clause-none c = refl

pub returns-clause-hashed : goal.returns-clause-hashed
unfolding report_of
returns-clause-hashed c = refl

pub returns-clause-bare : goal.returns-clause-bare
unfolding report_of
returns-clause-bare c = refl

pub returns-clause-without : goal.returns-clause-without
unfolding report_of
returns-clause-without c = refl
