use Rattle.sector_pool.proofs.KeptLemmas.{KeepsOut-call, KeepsOutBut-written}
use Rattle.load_map.proofs.digest.covered_digest.Goals as goal

pub returns-clause-kept : goal.returns-clause-kept
returns-clause-kept g c =
    KeepsOut-call c.args.pool.now c.lease.new.self _ c.give_back.new.self c.in-Some.lease c.in-Some.ensures.free
    c.in-Some.ensures.lent
    (KeepsOutBut-written c.lease.new.self c.in-Some.lease c.digest_through-digest.new.piece) c.give_back.ensures
