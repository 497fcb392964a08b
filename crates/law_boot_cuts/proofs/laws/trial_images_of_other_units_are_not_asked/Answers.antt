use Rattle.law_boot_cuts.proofs.laws.trial_images_of_other_units_are_not_asked.Goals as goal

pub returns-clause-rows : goal.returns-clause-rows
returns-clause-rows c = λ content cpu u steps apart. record { apart = apart }

pub returns-clause-triples : goal.returns-clause-triples
returns-clause-triples c = λ content cpu choice u steps apart. record { apart = apart }
