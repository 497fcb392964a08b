-- By computing.
use Rattle.std.proofs.Common.{refl}
use Rattle.block_loop.specs.Loop.{loop_of, follow, block_from}
use Rattle.block_codec.specs.Blocks.{frame}
use Rattle.block_codec.specs.Reading.{block_at, front_block, item_words}
use Rattle.block_codec.specs.Items.{size_of}
use Rattle.block_codec.specs.Words.{word_of, word_bytes}
use Rattle.slot_caveats.proofs.examples.slots.images_in_slots.Goals as goal

pub returns-clause-inside : goal.returns-clause-inside
unfolding loop_of follow block_from block_at front_block item_words frame size_of word_of word_bytes
returns-clause-inside c = refl

pub returns-clause-no_table : goal.returns-clause-no_table
unfolding loop_of follow block_from block_at front_block item_words frame size_of word_of word_bytes
returns-clause-no_table c = refl

pub returns-clause-second : goal.returns-clause-second
unfolding loop_of follow block_from block_at front_block item_words frame size_of word_of word_bytes
returns-clause-second c = refl

pub returns-clause-data : goal.returns-clause-data
unfolding loop_of follow block_from block_at front_block item_words frame size_of word_of word_bytes
returns-clause-data c = refl

pub returns-clause-outside : goal.returns-clause-outside
unfolding loop_of follow block_from block_at front_block item_words frame size_of word_of word_bytes
returns-clause-outside c = refl

pub returns-clause-broken : goal.returns-clause-broken
unfolding loop_of follow block_from block_at front_block item_words frame size_of word_of word_bytes
returns-clause-broken c = refl
