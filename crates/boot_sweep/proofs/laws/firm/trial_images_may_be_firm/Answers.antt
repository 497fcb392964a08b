use Rattle.boot_sweep.proofs.laws.firm.trial_images_may_be_firm.Goals as goal

pub returns : goal.returns
returns c = λ content w cpu s valid firm. record { valid = valid; firm = firm }
