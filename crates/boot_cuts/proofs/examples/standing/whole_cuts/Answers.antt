-- By computing.
use Rattle.std.proofs.Common.{refl}
use Rattle.block_codec.specs.Blocks.{frame}
use Rattle.block_codec.specs.Items.{size_of}
use Rattle.block_codec.specs.Reading.{block_at, front_block, item_words}
use Rattle.block_codec.specs.Words.{word_bytes, word_of}
use Rattle.block_loop.specs.Loop.{block_from, follow, loop_of}
use Rattle.image_check.specs.Image.{image_in}
use Rattle.image_def.specs.Definition.{def_of}
use Rattle.boot_sweep.specs.Comparing.{agree_on}
use Rattle.boot_cuts.proofs.examples.standing.whole_cuts.Goals as goal

pub returns-clause-former : goal.returns-clause-former
unfolding agree_on image_in def_of loop_of follow block_from block_at front_block item_words frame size_of word_of word_bytes
returns-clause-former c = refl

pub returns-clause-end : goal.returns-clause-end
unfolding agree_on image_in def_of loop_of follow block_from block_at front_block item_words frame size_of word_of word_bytes
returns-clause-end c = refl

pub returns-clause-in_neither : goal.returns-clause-in_neither
unfolding agree_on image_in def_of loop_of follow block_from block_at front_block item_words frame size_of word_of word_bytes
returns-clause-in_neither c = refl

pub returns-clause-another : goal.returns-clause-another
unfolding agree_on image_in def_of loop_of follow block_from block_at front_block item_words frame size_of word_of word_bytes
returns-clause-another c = refl
