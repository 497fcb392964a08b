use Rattle.cli_scripts.proofs.ReplayRuleLemmas.{replay-works}
use Rattle.cli_scripts.proofs.laws.replays.works_are_right.Goals as goal

pub returns : goal.returns
returns c = replay-works
