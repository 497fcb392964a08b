-- By computing.
use Rattle.std.proofs.Common.{refl}
use Rattle.image_check.specs.Image.{image_in}
use Rattle.image_def.specs.Definition.{def_of}
use Rattle.block_loop.specs.Loop.{loop_of, follow, block_from}
use Rattle.block_codec.specs.Blocks.{frame}
use Rattle.block_codec.specs.Reading.{block_at, front_block, item_words}
use Rattle.block_codec.specs.Items.{size_of}
use Rattle.block_codec.specs.Words.{word_of, word_bytes}
use Rattle.law_caveats.proofs.examples.windows.images_of_owned_partitions.Goals as goal

pub returns-clause-image : goal.returns-clause-image
unfolding image_in def_of loop_of follow block_from block_at front_block item_words frame size_of word_of word_bytes
returns-clause-image c = refl

pub returns-clause-free : goal.returns-clause-free
unfolding image_in def_of loop_of follow block_from block_at front_block item_words frame size_of word_of word_bytes
returns-clause-free c = refl

pub returns-clause-no_image : goal.returns-clause-no_image
unfolding image_in def_of loop_of follow block_from block_at front_block item_words frame size_of word_of word_bytes
returns-clause-no_image c = refl

pub returns-clause-trial : goal.returns-clause-trial
unfolding image_in def_of loop_of follow block_from block_at front_block item_words frame size_of word_of word_bytes
returns-clause-trial c = refl
