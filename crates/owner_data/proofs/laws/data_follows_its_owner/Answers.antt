-- By the lemmas on data.
use Rattle.owner_data.proofs.DataLemmas.{data_listed, data_whole, data_few}
use Rattle.owner_data.proofs.laws.data_follows_its_owner.Goals as goal

pub returns-clause-listed : goal.returns-clause-listed
returns-clause-listed c = data_listed

pub returns-clause-whole : goal.returns-clause-whole
returns-clause-whole c = data_whole

pub returns-clause-few : goal.returns-clause-few
returns-clause-few c = data_few
