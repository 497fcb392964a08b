use Rattle.std.proofs.Common.{refl}
use Rattle.check_images.proofs.examples.members_of_units.Goals as goal

pub returns-clause-pair : goal.returns-clause-pair
returns-clause-pair c = refl

pub returns-clause-alone : goal.returns-clause-alone
returns-clause-alone c = refl
