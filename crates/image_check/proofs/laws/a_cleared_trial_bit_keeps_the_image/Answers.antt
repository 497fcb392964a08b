use Rattle.image_check.proofs.ClearedLemmas.{cleared-sound, cleared-valid, clears-set, digest-same}
use Rattle.image_check.proofs.laws.a_cleared_trial_bit_keeps_the_image.Goals as goal

pub returns-clause-sound : goal.returns-clause-sound
returns-clause-sound c = λ a cpu w v image entry s change. cleared-sound a cpu w v image entry s change

pub returns-clause-valid : goal.returns-clause-valid
returns-clause-valid c = cleared-valid

pub returns-clause-digest : goal.returns-clause-digest
returns-clause-digest c = λ a cpu w v image entry s change. digest-same a cpu w v image entry s change

pub returns-clause-made : goal.returns-clause-made
returns-clause-made c = clears-set
