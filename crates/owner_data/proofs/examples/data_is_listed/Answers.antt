-- By computing.
use Rattle.std.proofs.Common.{refl}
use Rattle.owner_data.proofs.examples.data_is_listed.Goals as goal

pub returns-clause-pair_a : goal.returns-clause-pair_a
returns-clause-pair_a c = refl

pub returns-clause-pair_b : goal.returns-clause-pair_b
returns-clause-pair_b c = refl

pub returns-clause-of_b : goal.returns-clause-of_b
returns-clause-of_b c = refl

pub returns-clause-of_data : goal.returns-clause-of_data
returns-clause-of_data c = refl

pub returns-clause-two_a : goal.returns-clause-two_a
returns-clause-two_a c = refl

pub returns-clause-two_b : goal.returns-clause-two_b
returns-clause-two_b c = refl

pub returns-clause-other_a : goal.returns-clause-other_a
returns-clause-other_a c = refl

pub returns-clause-other_b : goal.returns-clause-other_b
returns-clause-other_b c = refl
