use Rattle.trial_buy.proofs.settling.settle.Goals as goal

pub start_sector-sector-requires-clause-knows : goal.start_sector-sector-requires-clause-knows
start_sector-sector-requires-clause-knows g c = c.none.ensures.knows (g.B.Board.state c.args.board.now).content
