use Rattle.boot_caveats.proofs.gathering.caveats_by.Goals as goal

pub caveats_with-requires-clause-knows : goal.caveats_with-requires-clause-knows
caveats_with-requires-clause-knows g c = c.none.ensures.knows (g.B.Board.state c.args.board.now).content
