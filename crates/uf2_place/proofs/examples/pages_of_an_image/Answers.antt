-- By computing.
use Rattle.std.proofs.Common.{refl}
use Rattle.uf2_place.proofs.examples.pages_of_an_image.Goals as goal

pub returns-clause-one : goal.returns-clause-one
returns-clause-one c = refl

pub returns-clause-full : goal.returns-clause-full
returns-clause-full c = refl

pub returns-clause-two : goal.returns-clause-two
returns-clause-two c = refl

pub returns-clause-most : goal.returns-clause-most
returns-clause-most c = refl

pub returns-clause-rest : goal.returns-clause-rest
returns-clause-rest c = refl

pub returns-clause-address : goal.returns-clause-address
returns-clause-address c = λ image. refl

pub returns-clause-flags : goal.returns-clause-flags
returns-clause-flags c = λ image. refl

pub returns-clause-number : goal.returns-clause-number
returns-clause-number c = λ image. refl
