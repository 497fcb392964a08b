use Rattle.std.proofs.Common.{refl}
use Rattle.image_check.proofs.laws.an_open_loop_has_a_first_block.Goals as goal

pub returns : goal.returns
returns c = λ a cpu trial otp bytes why. why.0 refl
