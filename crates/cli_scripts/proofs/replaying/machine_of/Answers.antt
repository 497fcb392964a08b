use Rattle.cli_scripts.proofs.ReplayLemmas.{pool-free}
use Rattle.cli_scripts.proofs.replaying.machine_of.Goals as goal

pub new-requires-clause-leases : goal.new-requires-clause-leases
new-requires-clause-leases c = pool-free c.in_ok-pool.pool c.in_ok-pool.ensures
