use Rattle.check_data.proofs.EarlyLemmas.{early-exactly}
use Rattle.check_data.proofs.laws.early_starts_are_found.Goals as goal

pub returns : goal.returns
returns g = λ c z cpu moves d. early-exactly c z moves cpu d
