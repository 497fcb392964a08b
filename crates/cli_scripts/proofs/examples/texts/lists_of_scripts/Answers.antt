use Rattle.std.proofs.Common.{refl}
use Rattle.std.specs.Fmt.{digits}
use Rattle.cli_scripts.proofs.examples.texts.lists_of_scripts.Goals as goal

pub returns-clause-power : goal.returns-clause-power
unfolding digits
returns-clause-power c = refl
