-- By computing.
use Rattle.std.proofs.Common.{refl}
use Rattle.block_codec.specs.Blocks.{frame}
use Rattle.block_codec.specs.Reading.{block_at, front_block, item_words}
use Rattle.block_codec.specs.Items.{size_of}
use Rattle.block_codec.specs.Words.{word_bytes, word_of}
use Rattle.block_loop.specs.Loop.{block_from, follow, loop_of}
use Rattle.image_def.specs.Definition.{def_of}
use Rattle.image_check.specs.Image.{image_in}
use Rattle.image_check.proofs.examples.whole_windows.Goals as goal

pub returns-clause-starts : goal.returns-clause-starts
unfolding image_in def_of loop_of follow block_from block_at front_block item_words frame size_of word_of word_bytes
returns-clause-starts c = refl

pub returns-clause-outside : goal.returns-clause-outside
unfolding image_in def_of loop_of follow block_from block_at front_block item_words frame size_of word_of word_bytes
returns-clause-outside c = refl

pub returns-clause-in_block : goal.returns-clause-in_block
unfolding image_in def_of loop_of follow block_from block_at front_block item_words frame size_of word_of word_bytes
returns-clause-in_block c = refl

pub returns-clause-riscv : goal.returns-clause-riscv
unfolding image_in def_of loop_of follow block_from block_at front_block item_words frame size_of word_of word_bytes
returns-clause-riscv c = refl

pub returns-clause-trial : goal.returns-clause-trial
unfolding image_in def_of loop_of follow block_from block_at front_block item_words frame size_of word_of word_bytes
returns-clause-trial c = refl

pub returns-clause-tried : goal.returns-clause-tried
unfolding image_in def_of loop_of follow block_from block_at front_block item_words frame size_of word_of word_bytes
returns-clause-tried c = refl
