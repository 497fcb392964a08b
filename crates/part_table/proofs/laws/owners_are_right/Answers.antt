-- By the lemmas on links.
use Rattle.part_table.proofs.LinkLemmas.{right_owner_of}
use Rattle.part_table.proofs.laws.owners_are_right.Goals as goal

pub returns : goal.returns
returns c = right_owner_of
