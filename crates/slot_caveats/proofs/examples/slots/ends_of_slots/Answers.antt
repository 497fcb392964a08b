-- By computing.
use Rattle.std.proofs.Common.{refl}
use Rattle.block_loop.specs.Loop.{loop_of, follow, block_from}
use Rattle.block_codec.specs.Blocks.{frame}
use Rattle.block_codec.specs.Reading.{block_at, front_block, item_words}
use Rattle.block_codec.specs.Items.{size_of}
use Rattle.block_codec.specs.Words.{word_of, word_bytes}
use Rattle.slot_caveats.proofs.examples.slots.ends_of_slots.Goals as goal

pub returns-clause-behind : goal.returns-clause-behind
unfolding loop_of follow block_from block_at front_block item_words frame size_of word_of word_bytes
returns-clause-behind c = refl

pub returns-clause-no_block : goal.returns-clause-no_block
unfolding loop_of follow block_from block_at front_block item_words frame size_of word_of word_bytes
returns-clause-no_block c = refl

pub returns-clause-table : goal.returns-clause-table
unfolding loop_of follow block_from block_at front_block item_words frame size_of word_of word_bytes
returns-clause-table c = refl

pub returns-clause-least : goal.returns-clause-least
unfolding loop_of follow block_from block_at front_block item_words frame size_of word_of word_bytes
returns-clause-least c = refl

pub returns-clause-second : goal.returns-clause-second
unfolding loop_of follow block_from block_at front_block item_words frame size_of word_of word_bytes
returns-clause-second c = refl

pub returns-clause-before_fault : goal.returns-clause-before_fault
unfolding loop_of follow block_from block_at front_block item_words frame size_of word_of word_bytes
returns-clause-before_fault c = refl
