use Rattle.std.proofs.Common.{refl}
use Rattle.check_records.proofs.examples.records.blocks_that_begin.Goals as goal

pub returns-clause-taken : goal.returns-clause-taken
returns-clause-taken c = refl

pub returns-clause-lost : goal.returns-clause-lost
returns-clause-lost c = refl

pub returns-clause-done : goal.returns-clause-done
returns-clause-done c = refl

pub returns-clause-continued : goal.returns-clause-continued
returns-clause-continued c = refl

pub returns-clause-another_count : goal.returns-clause-another_count
returns-clause-another_count c = refl

pub returns-clause-another_family : goal.returns-clause-another_family
returns-clause-another_family c = refl

pub returns-clause-refused : goal.returns-clause-refused
returns-clause-refused c = refl

pub returns-clause-skipped : goal.returns-clause-skipped
returns-clause-skipped c = refl

pub returns-clause-again : goal.returns-clause-again
returns-clause-again c = refl

pub returns-clause-form : goal.returns-clause-form
returns-clause-form c = λ fault. refl
