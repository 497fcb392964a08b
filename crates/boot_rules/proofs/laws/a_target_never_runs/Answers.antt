use Rattle.boot_rules.proofs.TargetLemmas.{target-apart}
use Rattle.boot_rules.proofs.laws.a_target_never_runs.Goals as goal

pub returns : goal.returns
returns c = target-apart
