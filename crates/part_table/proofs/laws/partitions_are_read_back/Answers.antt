-- By the lemma on written partitions.
use Rattle.part_table.proofs.WrittenLemmas.{partitions_back}
use Rattle.part_table.proofs.laws.partitions_are_read_back.Goals as goal

pub returns : goal.returns
returns c = partitions_back
