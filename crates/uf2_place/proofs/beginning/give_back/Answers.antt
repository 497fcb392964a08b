use Rattle.std.proofs.Common.{◌≡◌, ◌<◌, None, Some, arith, sym, ap, subst}
use Rattle.sector_pool.specs.Pool.{returned, free_count}
use Rattle.sector_pool.specs.Keeping.{HandsOver}
use Rattle.sector_pool.proofs.FreeCountLemmas.{free_count-returned}
use Rattle.sector_pool.proofs.HandedLemmas.{HandsOver-returned}
use Rattle.uf2_place.specs.Downloads.{lease_in}
use Rattle.uf2_place.proofs.beginning.give_back.Goals as goal

pub returns-in-Some-clause-pool : goal.returns-in-Some-clause-pool
returns-in-Some-clause-pool c =
    let held : lease_in c.args.held ≡ Some c.in-Some.held.lease = ap lease_in c.in-Some.is in
    let out = c.requires c.in-Some.held.lease held in
    subst (λ lease. HandsOver lease None c.args.pool.now c.give_back.new.self) (sym held)
    (subst (λ pool. HandsOver (Some c.in-Some.held.lease) None c.args.pool.now pool) (sym c.give_back.ensures)
    (HandsOver-returned c.args.pool.now c.in-Some.held.lease out))

pub returns-in-Some-clause-free : goal.returns-in-Some-clause-free
returns-in-Some-clause-free c = λ free.
    let held : lease_in c.args.held ≡ Some c.in-Some.held.lease = ap lease_in c.in-Some.is in
    let out = c.requires c.in-Some.held.lease held in
    let more : 0 < free_count (returned c.args.pool.now c.in-Some.held.lease) =
    omega (arith, free_count-returned c.args.pool.now c.in-Some.held.lease out) in
    subst (λ pool. 0 < free_count pool) (sym c.give_back.ensures) more
