use Rattle.std.proofs.Common.{refl}
use Rattle.std.specs.Fmt.{padded_integral, digits, char_count}
use Rattle.cli_tools.proofs.examples.least_and_greatest_images.Goals as goal

pub returns-clause-whole_window : goal.returns-clause-whole_window
unfolding padded_integral digits char_count
returns-clause-whole_window c = refl

pub returns-clause-one_byte : goal.returns-clause-one_byte
unfolding padded_integral digits char_count
returns-clause-one_byte c = refl

pub returns-clause-one_block : goal.returns-clause-one_block
unfolding padded_integral digits char_count
returns-clause-one_block c = refl
