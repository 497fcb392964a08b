-- By the lemmas on data.
use Rattle.owner_data.proofs.DataLemmas.{without_owner, with_owner}
use Rattle.owner_data.proofs.laws.owners_are_partitions.Goals as goal

pub returns-clause-none : goal.returns-clause-none
returns-clause-none c = without_owner

pub returns-clause-some : goal.returns-clause-some
returns-clause-some c = with_owner
