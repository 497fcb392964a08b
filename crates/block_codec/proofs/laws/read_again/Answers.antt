use Rattle.block_codec.proofs.BlockLemmas.{front_block-found}
use Rattle.block_codec.proofs.laws.read_again.Goals as goal

pub returns : goal.returns
returns c = front_block-found
