-- By computing.
use Rattle.std.proofs.Common.{refl}
use Rattle.trial_buy.proofs.examples.what_follows_a_choice.Goals as goal

pub returns-clause-sector : goal.returns-clause-sector
returns-clause-sector c = refl

pub returns-clause-no_sector : goal.returns-clause-no_sector
returns-clause-no_sector c = refl

pub returns-clause-version : goal.returns-clause-version
returns-clause-version c = λ otp rows v. refl

pub returns-clause-no_version : goal.returns-clause-no_version
returns-clause-no_version c = λ otp rows. refl
