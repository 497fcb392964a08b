use Rattle.std.proofs.Common.{refl}
use Rattle.image_pack.specs.Faults.{zero_otp}
use Rattle.cli_tools.proofs.examples.contents_that_are_made.Goals as goal

pub returns-clause-otp : goal.returns-clause-otp
unfolding zero_otp
returns-clause-otp c = λ n. refl
