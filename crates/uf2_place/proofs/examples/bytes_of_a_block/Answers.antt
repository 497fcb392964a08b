-- By computing.
use Rattle.std.proofs.Common.{refl}
use Rattle.uf2_place.specs.Blocks.{written_block}
use Rattle.uf2_place.specs.Blocks.{word_bytes}
use Rattle.uf2_place.proofs.examples.bytes_of_a_block.Goals as goal

pub returns : goal.returns
unfolding written_block word_bytes
returns c = λ page. refl
