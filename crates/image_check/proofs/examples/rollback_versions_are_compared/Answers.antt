-- By computing.
use Rattle.std.proofs.Common.{refl}
use Rattle.std.specs.Int.Count.{ones, ones_in}
use Rattle.image_check.proofs.examples.rollback_versions_are_compared.Goals as goal

pub returns-clause-equal : goal.returns-clause-equal
unfolding ones ones_in
returns-clause-equal c = refl

pub returns-clause-one_row_alone : goal.returns-clause-one_row_alone
unfolding ones ones_in
returns-clause-one_row_alone c = refl

pub returns-clause-below : goal.returns-clause-below
unfolding ones ones_in
returns-clause-below c = refl

pub returns-clause-required_and_listed : goal.returns-clause-required_and_listed
unfolding ones ones_in
returns-clause-required_and_listed c = refl
