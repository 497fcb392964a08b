use Rattle.check_records.proofs.UnerasedLemmas.{first-exactly, none-exactly}
use Rattle.check_records.proofs.laws.the_first_unerased_step_is_told.Goals as goal

pub returns-clause-some : goal.returns-clause-some
returns-clause-some c = first-exactly

pub returns-clause-none : goal.returns-clause-none
returns-clause-none c = none-exactly
