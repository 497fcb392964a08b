use Rattle.block_codec.proofs.AtLemmas.{BlockAt-first_byte, BlockAt-last_byte, block_at-erased, block_at-in_erased}
use Rattle.block_codec.proofs.laws.erased_bytes.Goals as goal

pub returns-clause-first : goal.returns-clause-first
returns-clause-first c = BlockAt-first_byte

pub returns-clause-last : goal.returns-clause-last
returns-clause-last c = BlockAt-last_byte

pub returns-clause-behind : goal.returns-clause-behind
returns-clause-behind c = block_at-erased

pub returns-clause-within : goal.returns-clause-within
returns-clause-within c = block_at-in_erased
