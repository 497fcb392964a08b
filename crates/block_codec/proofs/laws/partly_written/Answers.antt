use Rattle.block_codec.proofs.PageLemmas.{block_written}
use Rattle.block_codec.proofs.laws.partly_written.Goals as goal

pub returns : goal.returns
returns c = block_written
