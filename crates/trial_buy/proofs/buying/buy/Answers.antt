use Rattle.trial_buy.proofs.buying.buy.Goals as goal

pub better_sector-sector-requires-clause-knows : goal.better_sector-sector-requires-clause-knows
better_sector-sector-requires-clause-knows g c = c.none.ensures.knows (g.B.Board.state c.args.board.now).content
