use Rattle.std.proofs.Common.{refl}
use Rattle.check_records.proofs.examples.records.blocks_of_a_kind.Goals as goal

pub returns-clause-same : goal.returns-clause-same
returns-clause-same c = refl

pub returns-clause-another_count : goal.returns-clause-another_count
returns-clause-another_count c = refl

pub returns-clause-another_family : goal.returns-clause-another_family
returns-clause-another_family c = refl
