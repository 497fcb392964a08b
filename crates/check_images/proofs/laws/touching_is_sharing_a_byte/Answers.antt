use Rattle.check_images.proofs.TouchLemmas.{touches-is}
use Rattle.check_images.proofs.laws.touching_is_sharing_a_byte.Goals as goal

pub returns : goal.returns
returns c = touches-is
