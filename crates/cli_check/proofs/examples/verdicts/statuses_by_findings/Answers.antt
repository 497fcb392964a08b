-- By computing.
use Rattle.std.proofs.Common.{refl}
use Rattle.cli_check.specs.Reporting.{report_of}
use Rattle.cli_check.proofs.examples.verdicts.statuses_by_findings.Goals as goal

pub returns-clause-lost : goal.returns-clause-lost
unfolding report_of
returns-clause-lost c = refl

pub returns-clause-lower : goal.returns-clause-lower
unfolding report_of
returns-clause-lower c = refl

pub returns-clause-no_effect : goal.returns-clause-no_effect
unfolding report_of
returns-clause-no_effect c = refl

pub returns-clause-refused : goal.returns-clause-refused
unfolding report_of
returns-clause-refused c = refl

pub returns-clause-unfinished : goal.returns-clause-unfinished
unfolding report_of
returns-clause-unfinished c = refl

pub returns-clause-dead : goal.returns-clause-dead
unfolding report_of
returns-clause-dead c = refl

pub returns-clause-half_written : goal.returns-clause-half_written
unfolding report_of
returns-clause-half_written c = refl
