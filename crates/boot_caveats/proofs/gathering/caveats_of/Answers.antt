use Rattle.boot_caveats.proofs.CaveatLemmas.{answered-right}
use Rattle.boot_caveats.proofs.gathering.caveats_of.Goals as goal

pub gather_by-reasons-requires-clause-knows : goal.gather_by-reasons-requires-clause-knows
gather_by-reasons-requires-clause-knows g c = c.none-digests.ensures.knows (g.B.Board.state c.args.board.now).content

pub returns-clause-rules : goal.returns-clause-rules
returns-clause-rules g c =
    answered-right (g.B.Board.state c.args.board.now).content c.args.cpu c.args.kind c.caveats_with.result
    c.caveats_with.ensures.exact
