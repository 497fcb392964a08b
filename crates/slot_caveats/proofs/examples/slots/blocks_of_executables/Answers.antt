-- By computing.
use Rattle.std.proofs.Common.{refl}
use Rattle.block_loop.specs.Loop.{loop_of, follow, block_from}
use Rattle.block_codec.specs.Blocks.{frame}
use Rattle.block_codec.specs.Reading.{block_at, front_block, item_words}
use Rattle.block_codec.specs.Items.{size_of}
use Rattle.block_codec.specs.Words.{word_of, word_bytes}
use Rattle.slot_caveats.proofs.examples.slots.blocks_of_executables.Goals as goal

pub returns-clause-arm : goal.returns-clause-arm
unfolding loop_of follow block_from block_at front_block item_words frame size_of word_of word_bytes
returns-clause-arm c = refl

pub returns-clause-other_chip : goal.returns-clause-other_chip
unfolding loop_of follow block_from block_at front_block item_words frame size_of word_of word_bytes
returns-clause-other_chip c = refl

pub returns-clause-data : goal.returns-clause-data
unfolding loop_of follow block_from block_at front_block item_words frame size_of word_of word_bytes
returns-clause-data c = refl

pub returns-clause-none : goal.returns-clause-none
unfolding loop_of follow block_from block_at front_block item_words frame size_of word_of word_bytes
returns-clause-none c = refl

pub returns-clause-later : goal.returns-clause-later
unfolding loop_of follow block_from block_at front_block item_words frame size_of word_of word_bytes
returns-clause-later c = refl
