use Rattle.std.proofs.Common.{refl}
use Rattle.cli_inputs.specs.Forms.{filled_flash}
use Rattle.cli_inputs.proofs.examples.filled_flashes.Goals as goal

pub returns-clause-own : goal.returns-clause-own
unfolding filled_flash
returns-clause-own c = refl

pub returns-clause-behind : goal.returns-clause-behind
unfolding filled_flash
returns-clause-behind c = refl

pub returns-clause-last : goal.returns-clause-last
unfolding filled_flash
returns-clause-last c = refl

pub returns-clause-past : goal.returns-clause-past
unfolding filled_flash
returns-clause-past c = refl
