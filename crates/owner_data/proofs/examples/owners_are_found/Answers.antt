-- By computing.
use Rattle.std.proofs.Common.{refl}
use Rattle.owner_data.proofs.examples.owners_are_found.Goals as goal

pub returns-clause-pair : goal.returns-clause-pair
returns-clause-pair c = refl

pub returns-clause-second : goal.returns-clause-second
returns-clause-second c = refl

pub returns-clause-image : goal.returns-clause-image
returns-clause-image c = refl

pub returns-clause-far : goal.returns-clause-far
returns-clause-far c = refl

pub returns-clause-lone : goal.returns-clause-lone
returns-clause-lone c = refl

pub returns-clause-both : goal.returns-clause-both
returns-clause-both c = refl

pub returns-clause-last : goal.returns-clause-last
returns-clause-last c = refl
