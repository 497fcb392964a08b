-- By computing.
use Rattle.std.proofs.Common.{refl}
use Rattle.block_codec.specs.Blocks.{frame}
use Rattle.block_codec.specs.Items.{size_of}
use Rattle.block_codec.specs.Reading.{block_at, front_block, item_words}
use Rattle.block_codec.specs.Words.{word_bytes, word_of}
use Rattle.block_loop.specs.Loop.{block_from, follow, loop_of}
use Rattle.image_check.specs.Image.{image_in}
use Rattle.image_def.specs.Definition.{def_of}
use Rattle.boot_sweep.specs.Comparing.{agree_on}
use Rattle.boot_cuts.proofs.examples.standing.images_that_stand.Goals as goal

pub returns-clause-this : goal.returns-clause-this
unfolding agree_on image_in def_of loop_of follow block_from block_at front_block item_words frame size_of word_of word_bytes
returns-clause-this c = refl

pub returns-clause-another : goal.returns-clause-another
unfolding agree_on image_in def_of loop_of follow block_from block_at front_block item_words frame size_of word_of word_bytes
returns-clause-another c = refl

pub returns-clause-none : goal.returns-clause-none
unfolding agree_on image_in def_of loop_of follow block_from block_at front_block item_words frame size_of word_of word_bytes
returns-clause-none c = refl

pub returns-clause-processor : goal.returns-clause-processor
unfolding agree_on image_in def_of loop_of follow block_from block_at front_block item_words frame size_of word_of word_bytes
returns-clause-processor c = refl
