use Rattle.std.proofs.Common.{refl}
use Rattle.std.specs.Fmt.{padded_integral, digits, char_count}
use Rattle.cli_explain.proofs.examples.names_of_partitions.Goals as goal

pub returns-clause-none : goal.returns-clause-none
unfolding padded_integral digits char_count
returns-clause-none c = refl

pub returns-clause-empty : goal.returns-clause-empty
unfolding padded_integral digits char_count
returns-clause-empty c = refl

pub returns-clause-plain : goal.returns-clause-plain
unfolding padded_integral digits char_count
returns-clause-plain c = refl

pub returns-clause-low : goal.returns-clause-low
unfolding padded_integral digits char_count
returns-clause-low c = refl

pub returns-clause-short : goal.returns-clause-short
unfolding padded_integral digits char_count
returns-clause-short c = refl

pub returns-clause-high : goal.returns-clause-high
unfolding padded_integral digits char_count
returns-clause-high c = refl

pub returns-clause-quote : goal.returns-clause-quote
unfolding padded_integral digits char_count
returns-clause-quote c = refl
