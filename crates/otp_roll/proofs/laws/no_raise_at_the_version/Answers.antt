use Rattle.otp_roll.proofs.RisingLemmas.{raises-none}
use Rattle.otp_roll.proofs.laws.no_raise_at_the_version.Goals as goal

pub returns-clause-reached : goal.returns-clause-reached
returns-clause-reached c = raises-none
