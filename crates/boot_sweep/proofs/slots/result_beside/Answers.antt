use Rattle.boot_sweep.proofs.slots.result_beside.Goals as goal

pub verdict_beside-verdict-requires-clause-knows : goal.verdict_beside-verdict-requires-clause-knows
verdict_beside-verdict-requires-clause-knows g c =
    c.none-digests.ensures.knows (g.B.Board.state c.args.board.now).content
