use Rattle.boot_rules.proofs.targets.target.Goals as goal

pub target_by-requires-clause-knows : goal.target_by-requires-clause-knows
target_by-requires-clause-knows g c = c.none.ensures.knows (g.B.Board.state c.args.board.now).content
