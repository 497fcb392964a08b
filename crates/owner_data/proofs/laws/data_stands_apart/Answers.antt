-- By the lemmas on data.
use Rattle.owner_data.proofs.DataLemmas.{data_apart}
use Rattle.owner_data.proofs.laws.data_stands_apart.Goals as goal

pub returns : goal.returns
returns c = data_apart
