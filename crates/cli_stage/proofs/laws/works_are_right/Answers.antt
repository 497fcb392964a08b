use Rattle.cli_stage.proofs.StageRuleLemmas.{stage-works}
use Rattle.cli_stage.proofs.laws.works_are_right.Goals as goal

pub returns : goal.returns
returns c = stage-works
