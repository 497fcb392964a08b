use Rattle.law_scripts.proofs.LimitLemmas.{script-within}
use Rattle.law_scripts.proofs.laws.scripts_are_within_the_limits.Goals as goal

pub returns : goal.returns
returns c = script-within
