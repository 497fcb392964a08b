-- By computing.
use Rattle.std.proofs.Common.{refl}
use Rattle.image_check.specs.Image.{image_in}
use Rattle.image_def.specs.Definition.{def_of}
use Rattle.block_loop.specs.Loop.{loop_of, follow, block_from}
use Rattle.block_codec.specs.Blocks.{frame}
use Rattle.block_codec.specs.Reading.{block_at, front_block, item_words}
use Rattle.block_codec.specs.Items.{size_of}
use Rattle.block_codec.specs.Words.{word_of, word_bytes}
use Rattle.law_caveats.proofs.examples.windows.members_for_the_other_processor.Goals as goal

pub returns-clause-image : goal.returns-clause-image
unfolding image_in def_of loop_of follow block_from block_at front_block item_words frame size_of word_of word_bytes
returns-clause-image c = refl

pub returns-clause-same : goal.returns-clause-same
unfolding image_in def_of loop_of follow block_from block_at front_block item_words frame size_of word_of word_bytes
returns-clause-same c = refl

pub returns-clause-counts : goal.returns-clause-counts
unfolding image_in def_of loop_of follow block_from block_at front_block item_words frame size_of word_of word_bytes
returns-clause-counts c = refl

pub returns-clause-trial : goal.returns-clause-trial
unfolding image_in def_of loop_of follow block_from block_at front_block item_words frame size_of word_of word_bytes
returns-clause-trial c = refl

pub returns-clause-no_trial : goal.returns-clause-no_trial
unfolding image_in def_of loop_of follow block_from block_at front_block item_words frame size_of word_of word_bytes
returns-clause-no_trial c = refl
