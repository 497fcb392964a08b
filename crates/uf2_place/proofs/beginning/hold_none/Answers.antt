use Rattle.std.proofs.Common.{None, Some, sym, subst}
use Rattle.sector_pool.specs.Keeping.{HandsOver}
use Rattle.sector_pool.proofs.HandedLemmas.{HandsOver-leased}
use Rattle.uf2_place.proofs.beginning.hold_none.Goals as goal

pub returns-clause-pool : goal.returns-clause-pool
returns-clause-pool c =
    subst (λ pool. HandsOver None (Some c.in-Some.lease) c.args.pool.now pool) (sym c.in-Some.ensures.lent)
    (HandsOver-leased c.args.pool.now c.in-Some.lease c.in-Some.ensures.free)
