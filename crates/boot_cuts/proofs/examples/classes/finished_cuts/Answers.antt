-- By computing.
use Rattle.std.proofs.Common.{refl}
use Rattle.block_codec.specs.Blocks.{frame}
use Rattle.block_codec.specs.Items.{size_of}
use Rattle.block_codec.specs.Reading.{block_at, front_block, item_words}
use Rattle.block_codec.specs.Words.{word_bytes, word_of}
use Rattle.block_loop.specs.Loop.{block_from, follow, loop_of}
use Rattle.image_def.specs.Definition.{def_of}
use Rattle.boot_sweep.specs.Comparing.{agree_on}
use Rattle.boot_cuts.proofs.examples.classes.finished_cuts.Goals as goal

pub returns-clause-start : goal.returns-clause-start
unfolding agree_on def_of loop_of follow block_from block_at front_block item_words frame size_of word_of word_bytes
returns-clause-start c = refl

pub returns-clause-one_start : goal.returns-clause-one_start
unfolding agree_on def_of loop_of follow block_from block_at front_block item_words frame size_of word_of word_bytes
returns-clause-one_start c = refl
