-- By computing.
use Rattle.std.proofs.Common.{refl}
use Rattle.image_check.specs.Image.{image_in}
use Rattle.image_def.specs.Definition.{def_of}
use Rattle.block_loop.specs.Loop.{loop_of, follow, block_from}
use Rattle.block_codec.specs.Blocks.{frame}
use Rattle.block_codec.specs.Reading.{block_at, front_block, item_words}
use Rattle.block_codec.specs.Items.{size_of}
use Rattle.block_codec.specs.Words.{word_of, word_bytes}
use Rattle.law_caveats.proofs.examples.windows.slots_without_a_table.Goals as goal

pub returns-clause-no_image : goal.returns-clause-no_image
unfolding image_in def_of loop_of follow block_from block_at front_block item_words frame size_of word_of word_bytes
returns-clause-no_image c = refl

pub returns-clause-off : goal.returns-clause-off
unfolding image_in def_of loop_of follow block_from block_at front_block item_words frame size_of word_of word_bytes
returns-clause-off c = refl

pub returns-clause-first_alone : goal.returns-clause-first_alone
unfolding image_in def_of loop_of follow block_from block_at front_block item_words frame size_of word_of word_bytes
returns-clause-first_alone c = refl

pub returns-clause-start : goal.returns-clause-start
unfolding image_in def_of loop_of follow block_from block_at front_block item_words frame size_of word_of word_bytes
returns-clause-start c = refl

pub returns-clause-table : goal.returns-clause-table
unfolding image_in def_of loop_of follow block_from block_at front_block item_words frame size_of word_of word_bytes
returns-clause-table c = refl

pub returns-clause-larger : goal.returns-clause-larger
unfolding image_in def_of loop_of follow block_from block_at front_block item_words frame size_of word_of word_bytes
returns-clause-larger c = refl
