use Rattle.std.proofs.Common.{refl}
use Rattle.std.specs.Fmt.{padded_integral, digits, char_count}
use Rattle.cli_tools.proofs.examples.lines_of_sealings.Goals as goal

pub returns-clause-sealed : goal.returns-clause-sealed
unfolding padded_integral digits char_count
returns-clause-sealed c = refl

pub returns-clause-table : goal.returns-clause-table
unfolding padded_integral digits char_count
returns-clause-table c = refl
