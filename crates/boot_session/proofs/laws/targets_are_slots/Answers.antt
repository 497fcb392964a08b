use Rattle.boot_session.proofs.TargetLemmas.{gated-target, target-stands}
use Rattle.boot_session.proofs.laws.targets_are_slots.Goals as goal

pub returns-clause-stands : goal.returns-clause-stands
returns-clause-stands c = target-stands

pub returns-clause-gated : goal.returns-clause-gated
returns-clause-gated c = gated-target
