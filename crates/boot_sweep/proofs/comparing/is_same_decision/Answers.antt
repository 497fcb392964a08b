use Rattle.std.proofs.Common.{◌∙◌}
use Rattle.boot_sweep.proofs.DerivedLemmas.{derived-decision}
use Rattle.boot_sweep.proofs.comparing.is_same_decision.Goals as goal

pub returns : goal.returns
returns c = c.eq.ensures ∙ derived-decision c.args.decision.now c.args.other.now
