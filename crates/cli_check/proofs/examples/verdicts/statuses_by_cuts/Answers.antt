-- By computing.
use Rattle.std.proofs.Common.{refl}
use Rattle.cli_check.specs.Reporting.{report_of}
use Rattle.cli_check.proofs.examples.verdicts.statuses_by_cuts.Goals as goal

pub returns-clause-passes : goal.returns-clause-passes
unfolding report_of
returns-clause-passes c = refl

pub returns-clause-former_end : goal.returns-clause-former_end
unfolding report_of
returns-clause-former_end c = refl

pub returns-clause-whole : goal.returns-clause-whole
unfolding report_of
returns-clause-whole c = refl

pub returns-clause-tail : goal.returns-clause-tail
unfolding report_of
returns-clause-tail c = refl

pub returns-clause-tail_end : goal.returns-clause-tail_end
unfolding report_of
returns-clause-tail_end c = refl

pub returns-clause-mixed : goal.returns-clause-mixed
unfolding report_of
returns-clause-mixed c = refl

pub returns-clause-mixed_end : goal.returns-clause-mixed_end
unfolding report_of
returns-clause-mixed_end c = refl

pub returns-clause-bootsel : goal.returns-clause-bootsel
unfolding report_of
returns-clause-bootsel c = refl

pub returns-clause-bootsel_end : goal.returns-clause-bootsel_end
unfolding report_of
returns-clause-bootsel_end c = refl

pub returns-clause-both : goal.returns-clause-both
unfolding report_of
returns-clause-both c = refl
