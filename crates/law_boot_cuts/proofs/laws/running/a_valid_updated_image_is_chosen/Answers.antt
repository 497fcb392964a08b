use Rattle.law_boot_cuts.proofs.ChosenLemmas.{chosen-valid, valid-chosen}
use Rattle.law_boot_cuts.proofs.laws.running.a_valid_updated_image_is_chosen.Goals as goal

pub returns-clause-valid : goal.returns-clause-valid
returns-clause-valid k = valid-chosen

pub returns-clause-chosen : goal.returns-clause-chosen
returns-clause-chosen k = λ c cpu kind choice right chosen updated. chosen-valid c cpu choice kind chosen updated
