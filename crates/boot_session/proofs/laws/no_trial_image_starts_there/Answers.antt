use Rattle.boot_session.proofs.laws.no_trial_image_starts_there.Goals as goal

pub returns : goal.returns
returns c = λ d w cpu there. there.valid
