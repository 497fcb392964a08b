use Rattle.uf2_place.proofs.BeginningLemmas.{follows-none}
use Rattle.uf2_place.proofs.beginning.begin.Goals as goal

pub returns-clause-follows : goal.returns-clause-follows
returns-clause-follows c =
    follows-none c.release.new.pool c.hold_none.new.pool c.clear.new.self c.args.block.now.family c.args.block.now.count
    c.args.target c.hold_none.result c.hold_none.ensures.pool c.hold_none.ensures.gated c.hold_none.ensures.pages
    c.clear.ensures.numbers c.clear.ensures.sectors
