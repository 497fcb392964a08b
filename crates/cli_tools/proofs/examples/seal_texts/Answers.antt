use Rattle.std.proofs.Common.{refl}
use Rattle.std.specs.Fmt.{digits}
use Rattle.cli_tools.proofs.examples.seal_texts.Goals as goal

pub returns-clause-block_too_long : goal.returns-clause-block_too_long
unfolding digits
returns-clause-block_too_long c = refl
