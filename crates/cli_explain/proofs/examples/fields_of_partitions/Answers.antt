use Rattle.std.proofs.Common.{refl}
use Rattle.std.specs.Fmt.{padded_integral, digits, char_count}
use Rattle.cli_explain.proofs.examples.fields_of_partitions.Goals as goal

pub returns-clause-no_id : goal.returns-clause-no_id
unfolding padded_integral digits char_count
returns-clause-no_id c = refl

pub returns-clause-id : goal.returns-clause-id
unfolding padded_integral digits char_count
returns-clause-id c = refl

pub returns-clause-no_family : goal.returns-clause-no_family
unfolding padded_integral digits char_count
returns-clause-no_family c = refl

pub returns-clause-all_families : goal.returns-clause-all_families
unfolding padded_integral digits char_count
returns-clause-all_families c = refl

pub returns-clause-extra_families : goal.returns-clause-extra_families
unfolding padded_integral digits char_count
returns-clause-extra_families c = refl

pub returns-clause-rights : goal.returns-clause-rights
unfolding padded_integral digits char_count
returns-clause-rights c = refl

pub returns-clause-reads : goal.returns-clause-reads
unfolding padded_integral digits char_count
returns-clause-reads c = refl

pub returns-clause-writes : goal.returns-clause-writes
unfolding padded_integral digits char_count
returns-clause-writes c = refl

pub returns-clause-no_rights : goal.returns-clause-no_rights
unfolding padded_integral digits char_count
returns-clause-no_rights c = refl

pub returns-clause-plain : goal.returns-clause-plain
unfolding padded_integral digits char_count
returns-clause-plain c = refl

pub returns-clause-second : goal.returns-clause-second
unfolding padded_integral digits char_count
returns-clause-second c = refl

pub returns-clause-owned : goal.returns-clause-owned
unfolding padded_integral digits char_count
returns-clause-owned c = refl

pub returns-clause-ignored : goal.returns-clause-ignored
unfolding padded_integral digits char_count
returns-clause-ignored c = refl

pub returns-clause-place : goal.returns-clause-place
unfolding padded_integral digits char_count
returns-clause-place c = refl
