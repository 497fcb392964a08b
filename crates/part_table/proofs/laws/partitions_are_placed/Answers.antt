-- By the lemmas on tables.
use Rattle.part_table.proofs.TableLemmas.{partition_placed, sound_placed, partitions_apart}
use Rattle.part_table.proofs.laws.partitions_are_placed.Goals as goal

pub returns-clause-placed : goal.returns-clause-placed
returns-clause-placed c = partition_placed

pub returns-clause-sound : goal.returns-clause-sound
returns-clause-sound c = sound_placed

pub returns-clause-apart : goal.returns-clause-apart
returns-clause-apart c = partitions_apart
