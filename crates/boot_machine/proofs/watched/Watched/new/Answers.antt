use Rattle.boot_machine.proofs.watched.Watched.new.Goals as goal

pub invariant_of-result : goal.invariant_of-result
invariant_of-result g c = record {
  digests = c.none.ensures.knows (g.B.Board.state c.args.board).content;
  table = tt;
}
