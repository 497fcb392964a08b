use Rattle.cli_explain.proofs.ReasonWorkLemmas.{explain-works}
use Rattle.cli_explain.proofs.laws.works_are_right.Goals as goal

pub returns : goal.returns
returns c = explain-works
