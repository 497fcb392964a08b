use Rattle.boot_sweep.proofs.results.result_on.Goals as goal

pub verdict_on-verdict-requires-clause-knows : goal.verdict_on-verdict-requires-clause-knows
verdict_on-verdict-requires-clause-knows g c = c.none.ensures.knows (g.B.Board.state c.args.board.now).content
