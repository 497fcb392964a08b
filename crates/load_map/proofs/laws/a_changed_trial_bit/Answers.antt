use Rattle.load_map.proofs.AgreementLemmas.{AgreeOn-refl}
use Rattle.load_map.proofs.BlockWordLemmas.{SameButTrial-changed}
use Rattle.load_map.proofs.laws.a_changed_trial_bit.Goals as goal

pub returns-clause-window : goal.returns-clause-window
returns-clause-window c = AgreeOn-refl

pub returns-clause-block : goal.returns-clause-block
returns-clause-block c = SameButTrial-changed
