use Rattle.std.proofs.Common.{refl}
use Rattle.std.specs.Fmt.{padded_integral, digits, char_count}
use Rattle.cli_otp.proofs.examples.texts_of_otps.Goals as goal

pub returns-clause-least : goal.returns-clause-least
unfolding padded_integral digits char_count
returns-clause-least c = refl

pub returns-clause-greatest : goal.returns-clause-greatest
unfolding padded_integral digits char_count
returns-clause-greatest c = refl
