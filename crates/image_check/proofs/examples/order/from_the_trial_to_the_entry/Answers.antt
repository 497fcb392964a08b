-- By computing.
use Rattle.std.proofs.Common.{refl}
use Rattle.std.specs.Int.Count.{ones, ones_in}
use Rattle.block_codec.specs.Blocks.{frame}
use Rattle.block_codec.specs.Reading.{block_at, front_block, item_words}
use Rattle.block_codec.specs.Items.{size_of}
use Rattle.block_codec.specs.Words.{word_bytes, word_of}
use Rattle.block_loop.specs.Loop.{block_from, follow, loop_of}
use Rattle.image_def.specs.Definition.{def_of}
use Rattle.image_check.specs.Image.{image_in}
use Rattle.image_check.proofs.examples.order.from_the_trial_to_the_entry.Goals as goal

pub returns-clause-below : goal.returns-clause-below
unfolding ones ones_in image_in def_of loop_of follow block_from block_at front_block item_words frame size_of word_of
    word_bytes
returns-clause-below c = refl

pub returns-clause-map : goal.returns-clause-map
unfolding ones ones_in image_in def_of loop_of follow block_from block_at front_block item_words frame size_of word_of
    word_bytes
returns-clause-map c = refl

pub returns-clause-trial : goal.returns-clause-trial
unfolding image_in def_of loop_of follow block_from block_at front_block item_words frame size_of word_of word_bytes
returns-clause-trial c = refl

pub returns-clause-required : goal.returns-clause-required
unfolding image_in def_of loop_of follow block_from block_at front_block item_words frame size_of word_of word_bytes
returns-clause-required c = refl

pub returns-clause-table : goal.returns-clause-table
unfolding image_in def_of loop_of follow block_from block_at front_block item_words frame size_of word_of word_bytes
returns-clause-table c = refl

pub returns-clause-in_block : goal.returns-clause-in_block
unfolding image_in def_of loop_of follow block_from block_at front_block item_words frame size_of word_of word_bytes
returns-clause-in_block c = refl

pub returns-clause-nowhere : goal.returns-clause-nowhere
unfolding image_in def_of loop_of follow block_from block_at front_block item_words frame size_of word_of word_bytes
returns-clause-nowhere c = refl

pub returns-clause-delta : goal.returns-clause-delta
unfolding image_in def_of loop_of follow block_from block_at front_block item_words frame size_of word_of word_bytes
returns-clause-delta c = refl
