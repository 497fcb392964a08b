-- By computing.
use Rattle.std.proofs.Common.{refl}
use Rattle.block_codec.specs.Blocks.{frame}
use Rattle.block_codec.specs.Reading.{block_at, front_block, item_words}
use Rattle.block_codec.specs.Items.{size_of}
use Rattle.block_codec.specs.Words.{word_bytes, word_of}
use Rattle.block_loop.specs.Loop.{block_from, follow, loop_of}
use Rattle.image_def.specs.Definition.{def_of}
use Rattle.image_check.specs.Image.{image_in}
use Rattle.image_check.proofs.examples.order.from_the_loop_to_the_trial.Goals as goal

pub returns-clause-no_block : goal.returns-clause-no_block
unfolding image_in def_of loop_of follow block_from block_at front_block item_words frame size_of word_of word_bytes
returns-clause-no_block c = refl

pub returns-clause-loop_ : goal.returns-clause-loop_
unfolding image_in def_of loop_of follow block_from block_at front_block item_words frame size_of word_of word_bytes
returns-clause-loop_ c = refl

pub returns-clause-definition : goal.returns-clause-definition
unfolding image_in def_of loop_of follow block_from block_at front_block item_words frame size_of word_of word_bytes
returns-clause-definition c = refl

pub returns-clause-processor : goal.returns-clause-processor
unfolding image_in def_of loop_of follow block_from block_at front_block item_words frame size_of word_of word_bytes
returns-clause-processor c = refl

pub returns-clause-items : goal.returns-clause-items
unfolding image_in def_of loop_of follow block_from block_at front_block item_words frame size_of word_of word_bytes
returns-clause-items c = refl
