-- By computing.
use Rattle.std.proofs.Common.{refl}
use Rattle.block_codec.specs.Words.{word_of, word_bytes}
use Rattle.image_check.specs.Image.{image_in}
use Rattle.image_def.specs.Definition.{def_of}
use Rattle.block_loop.specs.Loop.{loop_of, follow, block_from}
use Rattle.block_codec.specs.Blocks.{frame}
use Rattle.block_codec.specs.Reading.{block_at, front_block, item_words}
use Rattle.block_codec.specs.Items.{size_of}
use Rattle.ram_start.proofs.examples.images_in_ram.Goals as goal

pub returns-clause-first : goal.returns-clause-first
unfolding image_in def_of loop_of follow block_from block_at front_block item_words frame size_of word_of
    word_bytes
returns-clause-first c = refl

pub returns-clause-later : goal.returns-clause-later
unfolding image_in def_of loop_of follow block_from block_at front_block item_words frame size_of word_of
    word_bytes
returns-clause-later c = refl

pub returns-clause-processor : goal.returns-clause-processor
unfolding image_in def_of loop_of follow block_from block_at front_block item_words frame size_of word_of
    word_bytes
returns-clause-processor c = refl

pub returns-clause-part : goal.returns-clause-part
unfolding image_in def_of loop_of follow block_from block_at front_block item_words frame size_of word_of
    word_bytes
returns-clause-part c = refl

pub returns-clause-trial : goal.returns-clause-trial
unfolding image_in def_of loop_of follow block_from block_at front_block item_words frame size_of word_of
    word_bytes
returns-clause-trial c = refl

pub returns-clause-trial_status : goal.returns-clause-trial_status
unfolding image_in def_of loop_of follow block_from block_at front_block item_words frame size_of word_of
    word_bytes
returns-clause-trial_status c = refl

pub returns-clause-required : goal.returns-clause-required
unfolding image_in def_of loop_of follow block_from block_at front_block item_words frame size_of word_of
    word_bytes
returns-clause-required c = refl
