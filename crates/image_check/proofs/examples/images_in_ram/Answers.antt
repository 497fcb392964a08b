-- By computing.
use Rattle.std.proofs.Common.{refl}
use Rattle.block_codec.specs.Blocks.{frame}
use Rattle.block_codec.specs.Reading.{block_at, front_block, item_words}
use Rattle.block_codec.specs.Items.{size_of}
use Rattle.block_codec.specs.Words.{word_bytes, word_of}
use Rattle.block_loop.specs.Loop.{block_from, follow, loop_of}
use Rattle.image_def.specs.Definition.{def_of}
use Rattle.image_check.specs.Image.{image_in}
use Rattle.image_check.proofs.examples.images_in_ram.Goals as goal

pub returns-clause-starts : goal.returns-clause-starts
unfolding image_in def_of loop_of follow block_from block_at front_block item_words frame size_of word_of word_bytes
returns-clause-starts c = refl

pub returns-clause-in_block : goal.returns-clause-in_block
unfolding image_in def_of loop_of follow block_from block_at front_block item_words frame size_of word_of word_bytes
returns-clause-in_block c = refl

pub returns-clause-before : goal.returns-clause-before
unfolding image_in def_of loop_of follow block_from block_at front_block item_words frame size_of word_of word_bytes
returns-clause-before c = refl

pub returns-clause-flash_table : goal.returns-clause-flash_table
unfolding image_in def_of loop_of follow block_from block_at front_block item_words frame size_of word_of word_bytes
returns-clause-flash_table c = refl

pub returns-clause-in_place : goal.returns-clause-in_place
unfolding image_in def_of loop_of follow block_from block_at front_block item_words frame size_of word_of word_bytes
returns-clause-in_place c = refl

pub returns-clause-elsewhere : goal.returns-clause-elsewhere
unfolding image_in def_of loop_of follow block_from block_at front_block item_words frame size_of word_of word_bytes
returns-clause-elsewhere c = refl

pub returns-clause-clear : goal.returns-clause-clear
unfolding image_in def_of loop_of follow block_from block_at front_block item_words frame size_of word_of word_bytes
returns-clause-clear c = refl
