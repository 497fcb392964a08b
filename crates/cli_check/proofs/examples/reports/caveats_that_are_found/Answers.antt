-- By computing.
use Rattle.std.proofs.Common.{refl}
use Rattle.cli_check.specs.Reporting.{report_of}
use Rattle.cli_check.proofs.examples.reports.caveats_that_are_found.Goals as goal

pub returns-clause-former : goal.returns-clause-former
unfolding report_of
returns-clause-former c = refl

pub returns-clause-at_end : goal.returns-clause-at_end
unfolding report_of
returns-clause-at_end c = refl

pub returns-clause-no_event : goal.returns-clause-no_event
unfolding report_of
returns-clause-no_event c = refl

pub returns-clause-held : goal.returns-clause-held
unfolding report_of
returns-clause-held c = refl

pub returns-clause-skipped : goal.returns-clause-skipped
unfolding report_of
returns-clause-skipped c = refl

pub returns-clause-both : goal.returns-clause-both
unfolding report_of
returns-clause-both c = refl
