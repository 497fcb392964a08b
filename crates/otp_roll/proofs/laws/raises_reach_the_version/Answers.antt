use Rattle.otp_roll.proofs.CountedLemmas.{count-raises}
use Rattle.otp_roll.proofs.laws.raises_reach_the_version.Goals as goal

pub returns : goal.returns
returns c = count-raises
