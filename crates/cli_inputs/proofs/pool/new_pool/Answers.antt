use Rattle.cli_inputs.proofs.PoolLemmas.{four-free}
use Rattle.cli_inputs.proofs.pool.new_pool.Goals as goal

pub returns-clause-four : goal.returns-clause-four
returns-clause-four c = four-free c.make.result c.make.ensures
