-- By computing.
use Rattle.std.proofs.Common.{refl}
use Rattle.uf2_place.proofs.examples.blocks_that_continue.Goals as goal

pub returns-clause-same : goal.returns-clause-same
returns-clause-same c = refl

pub returns-clause-family : goal.returns-clause-family
returns-clause-family c = refl

pub returns-clause-count : goal.returns-clause-count
returns-clause-count c = refl

pub returns-clause-wants : goal.returns-clause-wants
returns-clause-wants c = refl

pub returns-clause-current : goal.returns-clause-current
returns-clause-current c = refl

pub returns-clause-skipped : goal.returns-clause-skipped
returns-clause-skipped c = refl
