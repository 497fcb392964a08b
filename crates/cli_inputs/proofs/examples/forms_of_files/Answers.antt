use Rattle.std.proofs.Common.{refl}
use Rattle.std.specs.Fmt.{padded_integral, digits, char_count}
use Rattle.block_codec.specs.Words.{word_of}
use Rattle.cli_inputs.proofs.examples.forms_of_files.Goals as goal

pub returns-clause-rows : goal.returns-clause-rows
unfolding word_of
returns-clause-rows c = refl

pub returns-clause-narrow : goal.returns-clause-narrow
unfolding word_of
returns-clause-narrow c = refl

pub returns-clause-wide : goal.returns-clause-wide
unfolding word_of padded_integral digits char_count
returns-clause-wide c = refl
