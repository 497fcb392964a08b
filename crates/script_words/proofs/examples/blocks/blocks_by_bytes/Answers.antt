use Rattle.std.proofs.Common.{refl}
use Rattle.uf2_place.specs.Blocks.{word_bytes, written_block}
use Rattle.script_words.proofs.examples.blocks.blocks_by_bytes.Goals as goal

pub returns-clause-flag : goal.returns-clause-flag
unfolding word_bytes written_block
returns-clause-flag c = refl

pub returns-clause-payload : goal.returns-clause-payload
unfolding word_bytes written_block
returns-clause-payload c = refl

pub returns-clause-behind : goal.returns-clause-behind
unfolding word_bytes written_block
returns-clause-behind c = refl
