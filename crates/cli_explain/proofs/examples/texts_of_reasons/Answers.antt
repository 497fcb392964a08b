use Rattle.std.proofs.Common.{refl}
use Rattle.std.specs.Fmt.{padded_integral, digits, char_count}
use Rattle.cli_explain.specs.Partitions.{partition_text}
use Rattle.cli_explain.proofs.examples.texts_of_reasons.Goals as goal

pub returns-clause-table : goal.returns-clause-table
unfolding padded_integral digits char_count partition_text
returns-clause-table c = refl

pub returns-clause-bare : goal.returns-clause-bare
unfolding padded_integral digits char_count partition_text
returns-clause-bare c = refl
