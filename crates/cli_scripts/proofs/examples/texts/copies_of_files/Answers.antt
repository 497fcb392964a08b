use Rattle.std.proofs.Common.{refl}
use Rattle.std.specs.Fmt.{digits}
use Rattle.cli_scripts.proofs.examples.texts.copies_of_files.Goals as goal

pub returns-clause-line : goal.returns-clause-line
unfolding digits
returns-clause-line c = refl

pub returns-clause-copied : goal.returns-clause-copied
unfolding digits
returns-clause-copied c = refl
