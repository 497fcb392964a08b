use Rattle.block_loop.proofs.CycleLemmas.{IsSameCycle-from_links, IsSameCycle-offsets}
use Rattle.block_loop.proofs.laws.same_cycle.Goals as goal

pub returns-clause-same : goal.returns-clause-same
returns-clause-same c = IsSameCycle-from_links

pub returns-clause-offsets : goal.returns-clause-offsets
returns-clause-offsets c = IsSameCycle-offsets
