-- By computing.
use Rattle.std.proofs.Common.{refl}
use Rattle.image_def.specs.Definition.{def_of}
use Rattle.block_loop.specs.Loop.{loop_of, follow, block_from}
use Rattle.block_codec.specs.Blocks.{frame}
use Rattle.block_codec.specs.Reading.{block_at, front_block, item_words}
use Rattle.block_codec.specs.Items.{size_of}
use Rattle.block_codec.specs.Words.{word_of, word_bytes}
use Rattle.boot_caveats.proofs.examples.members.lengths_of_definitions.Goals as goal

pub returns-clause-longer : goal.returns-clause-longer
unfolding def_of loop_of follow block_from block_at front_block item_words frame size_of word_of word_bytes
returns-clause-longer c = refl

pub returns-clause-most : goal.returns-clause-most
unfolding def_of loop_of follow block_from block_at front_block item_words frame size_of word_of word_bytes
returns-clause-most c = refl

pub returns-clause-other : goal.returns-clause-other
unfolding def_of loop_of follow block_from block_at front_block item_words frame size_of word_of word_bytes
returns-clause-other c = refl

pub returns-clause-data : goal.returns-clause-data
unfolding def_of loop_of follow block_from block_at front_block item_words frame size_of word_of word_bytes
returns-clause-data c = refl

pub returns-clause-told : goal.returns-clause-told
unfolding def_of loop_of follow block_from block_at front_block item_words frame size_of word_of word_bytes
returns-clause-told c = refl

pub returns-clause-short : goal.returns-clause-short
unfolding def_of loop_of follow block_from block_at front_block item_words frame size_of word_of word_bytes
returns-clause-short c = refl

pub returns-clause-last_of_two : goal.returns-clause-last_of_two
unfolding def_of loop_of follow block_from block_at front_block item_words frame size_of word_of word_bytes
returns-clause-last_of_two c = refl
