use Rattle.block_codec.proofs.HighByteLemmas.{block_at-changed, changed-items}
use Rattle.block_codec.proofs.laws.high_byte_changed.Goals as goal

pub returns-clause-blocks : goal.returns-clause-blocks
returns-clause-blocks c = block_at-changed

pub returns-clause-items : goal.returns-clause-items
returns-clause-items c = changed-items
