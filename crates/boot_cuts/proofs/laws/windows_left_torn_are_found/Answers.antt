use Rattle.boot_cuts.proofs.TearLemmas.{torn-exactly}
use Rattle.boot_cuts.proofs.laws.windows_left_torn_are_found.Goals as goal

pub returns : goal.returns
returns c = torn-exactly
