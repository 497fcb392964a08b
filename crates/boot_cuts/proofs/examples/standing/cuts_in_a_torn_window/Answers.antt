-- By computing.
use Rattle.std.proofs.Common.{refl}
use Rattle.block_codec.specs.Blocks.{frame}
use Rattle.block_codec.specs.Items.{size_of}
use Rattle.block_codec.specs.Reading.{block_at, front_block, item_words}
use Rattle.block_codec.specs.Words.{word_bytes, word_of}
use Rattle.block_loop.specs.Loop.{block_from, follow, loop_of}
use Rattle.image_check.specs.Image.{image_in}
use Rattle.image_def.specs.Definition.{def_of}
use Rattle.boot_sweep.specs.Comparing.{agree_on}
use Rattle.boot_cuts.proofs.examples.standing.cuts_in_a_torn_window.Goals as goal

pub returns-clause-mended : goal.returns-clause-mended
unfolding agree_on image_in def_of loop_of follow block_from block_at front_block item_words frame size_of word_of word_bytes
returns-clause-mended c = refl

pub returns-clause-end : goal.returns-clause-end
unfolding agree_on image_in def_of loop_of follow block_from block_at front_block item_words frame size_of word_of word_bytes
returns-clause-end c = refl

pub returns-clause-beside : goal.returns-clause-beside
unfolding agree_on image_in def_of loop_of follow block_from block_at front_block item_words frame size_of word_of word_bytes
returns-clause-beside c = refl

pub returns-clause-stood_before : goal.returns-clause-stood_before
unfolding agree_on image_in def_of loop_of follow block_from block_at front_block item_words frame size_of word_of word_bytes
returns-clause-stood_before c = refl

pub returns-clause-former : goal.returns-clause-former
unfolding agree_on image_in def_of loop_of follow block_from block_at front_block item_words frame size_of word_of word_bytes
returns-clause-former c = refl

pub returns-clause-no_tail : goal.returns-clause-no_tail
unfolding agree_on image_in def_of loop_of follow block_from block_at front_block item_words frame size_of word_of word_bytes
returns-clause-no_tail c = refl
