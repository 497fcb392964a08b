use Rattle.std.proofs.Common.{refl}
use Rattle.std.specs.Fmt.{digits}
use Rattle.cli_tools.proofs.examples.elf_texts.Goals as goal

pub returns-clause-segment : goal.returns-clause-segment
unfolding digits
returns-clause-segment c = refl

pub returns-clause-too_many : goal.returns-clause-too_many
unfolding digits
returns-clause-too_many c = refl

pub returns-clause-mixed : goal.returns-clause-mixed
unfolding digits
returns-clause-mixed c = refl

pub returns-clause-overlap : goal.returns-clause-overlap
unfolding digits
returns-clause-overlap c = refl
