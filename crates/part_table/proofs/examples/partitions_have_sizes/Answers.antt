-- By computing.
use Rattle.std.proofs.Common.{refl}
use Rattle.part_table.proofs.examples.partitions_have_sizes.Goals as goal

pub returns-clause-plain : goal.returns-clause-plain
returns-clause-plain c = refl

pub returns-clause-id : goal.returns-clause-id
returns-clause-id c = refl

pub returns-clause-half_id : goal.returns-clause-half_id
returns-clause-half_id c = refl

pub returns-clause-families : goal.returns-clause-families
returns-clause-families c = refl

pub returns-clause-short : goal.returns-clause-short
returns-clause-short c = refl

pub returns-clause-no_name : goal.returns-clause-no_name
returns-clause-no_name c = refl

pub returns-clause-empty : goal.returns-clause-empty
returns-clause-empty c = refl

pub returns-clause-three : goal.returns-clause-three
returns-clause-three c = refl

pub returns-clause-four : goal.returns-clause-four
returns-clause-four c = refl

pub returns-clause-four_short : goal.returns-clause-four_short
returns-clause-four_short c = refl

pub returns-clause-flags : goal.returns-clause-flags
returns-clause-flags c = refl

pub returns-clause-nothing : goal.returns-clause-nothing
returns-clause-nothing c = refl
