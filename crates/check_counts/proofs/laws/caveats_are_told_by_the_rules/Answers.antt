use Rattle.check_counts.proofs.RuleLemmas.{seen-right}
use Rattle.check_counts.proofs.laws.caveats_are_told_by_the_rules.Goals as goal

pub returns : goal.returns
returns c = seen-right
