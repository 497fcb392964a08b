use Rattle.boot_rules.proofs.deciding.decide.Goals as goal

pub decide_by-requires-clause-knows : goal.decide_by-requires-clause-knows
decide_by-requires-clause-knows g c = c.none.ensures.knows (g.B.Board.state c.args.board.now).content
