use Rattle.std.proofs.Common.{refl}
use Rattle.check_records.proofs.examples.again.the_first_reason_is_told.Goals as goal

pub returns-clause-step : goal.returns-clause-step
returns-clause-step c = refl

pub returns-clause-table : goal.returns-clause-table
returns-clause-table c = refl

pub returns-clause-target : goal.returns-clause-target
returns-clause-target c = refl

pub returns-clause-former : goal.returns-clause-former
returns-clause-former c = refl

pub returns-clause-no_download : goal.returns-clause-no_download
returns-clause-no_download c = refl

pub returns-clause-nothing : goal.returns-clause-nothing
returns-clause-nothing c = refl
