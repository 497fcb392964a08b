use Rattle.sector_pool.proofs.KeptLemmas.{KeepsOut-lent}
use Rattle.sector_pool.proofs.laws.lending_leaves_others.Goals as goal

pub returns : goal.returns
returns c = KeepsOut-lent
