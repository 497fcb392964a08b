use Rattle.block_codec.proofs.AtLemmas.{BlockAt-from_found, block_at-stands, block_at-none, no_block-from_none, BlockAt-unique}
use Rattle.block_codec.proofs.laws.block_at_exact.Goals as goal

pub returns-clause-found : goal.returns-clause-found
returns-clause-found c w x b = (BlockAt-from_found w x b, block_at-stands w x b)

pub returns-clause-none : goal.returns-clause-none
returns-clause-none c w x = (λ none b. no_block-from_none w x b none, block_at-none w x)

pub returns-clause-unique : goal.returns-clause-unique
returns-clause-unique c = BlockAt-unique
