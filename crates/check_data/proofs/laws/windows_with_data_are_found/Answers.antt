use Rattle.check_data.proofs.WindowLemmas.{windows-exactly}
use Rattle.check_data.proofs.laws.windows_with_data_are_found.Goals as goal

pub returns : goal.returns
returns c = windows-exactly
