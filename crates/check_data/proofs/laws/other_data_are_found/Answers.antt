use Rattle.check_data.proofs.OtherLemmas.{other-exactly}
use Rattle.check_data.proofs.laws.other_data_are_found.Goals as goal

pub returns : goal.returns
returns c = other-exactly
