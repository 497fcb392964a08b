use Rattle.image_pack.proofs.TextLaws.{covered-first}
use Rattle.image_pack.proofs.laws.all_bytes_before_the_new_block_are_covered.Goals as goal

pub returns : goal.returns
returns c = covered-first
