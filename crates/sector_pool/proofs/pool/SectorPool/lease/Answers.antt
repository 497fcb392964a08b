use Rattle.sector_pool.proofs.FreeCountLemmas.{lent_if_free, out_if_lent, still_out_if_lent}
use Rattle.sector_pool.proofs.pool.SectorPool.lease.Goals as goal

pub returns-clause-some : goal.returns-clause-some
returns-clause-some c = lent_if_free c.args.self.now _ c.take_least.ensures.none

pub returns-clause-out : goal.returns-clause-out
returns-clause-out c = out_if_lent _ _ _ c.take_least.ensures.free c.take_least.ensures.lent

pub returns-clause-still_out : goal.returns-clause-still_out
returns-clause-still_out c =
    still_out_if_lent _ _ _ c.take_least.ensures.free c.take_least.ensures.lent c.take_least.ensures.unchanged
