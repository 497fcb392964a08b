use Rattle.boot_reasons.proofs.gathering.gather.Goals as goal

pub gather_by-requires-clause-knows : goal.gather_by-requires-clause-knows
gather_by-requires-clause-knows g c = c.none.ensures.knows (g.B.Board.state c.args.board.now).content
