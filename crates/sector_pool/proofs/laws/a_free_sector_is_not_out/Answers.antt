use Rattle.sector_pool.proofs.FreeCountLemmas.{has_free, none_free}
use Rattle.sector_pool.proofs.laws.a_free_sector_is_not_out.Goals as goal

pub returns-clause-some : goal.returns-clause-some
returns-clause-some c = has_free

pub returns-clause-none : goal.returns-clause-none
returns-clause-none c = none_free
