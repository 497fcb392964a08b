use Rattle.boot_rules.proofs.DecisionLemmas.{chosen-exactly}
use Rattle.boot_rules.proofs.deciding.decide_with.Goals as goal

pub returns-clause-chosen : goal.returns-clause-chosen
returns-clause-chosen g c =
    (chosen-exactly (g.B.Board.state c.args.board.now).content c.args.cpu c.args.kind c.decision_in.result).1
    c.decision_in.ensures.exact
