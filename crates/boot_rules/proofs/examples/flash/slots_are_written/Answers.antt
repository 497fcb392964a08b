-- By computing.
use Rattle.std.proofs.Common.{refl}
use Rattle.boot_rules.specs.Tables.{table_in}
use Rattle.boot_rules.specs.Choosing.{decision_in}
use Rattle.image_check.specs.Image.{image_in}
use Rattle.image_def.specs.Definition.{def_of}
use Rattle.block_loop.specs.Loop.{loop_of, follow, block_from}
use Rattle.block_codec.specs.Blocks.{frame}
use Rattle.block_codec.specs.Reading.{block_at, front_block, item_words}
use Rattle.block_codec.specs.Items.{size_of}
use Rattle.block_codec.specs.Words.{word_of, word_bytes}
use Rattle.boot_rules.proofs.examples.flash.slots_are_written.Goals as goal

pub returns-clause-second : goal.returns-clause-second
unfolding table_in decision_in image_in def_of loop_of follow block_from block_at front_block item_words frame size_of
    word_of word_bytes
returns-clause-second c = refl

pub returns-clause-first : goal.returns-clause-first
unfolding table_in decision_in image_in def_of loop_of follow block_from block_at front_block item_words frame size_of
    word_of word_bytes
returns-clause-first c = refl

pub returns-clause-tie : goal.returns-clause-tie
unfolding table_in decision_in image_in def_of loop_of follow block_from block_at front_block item_words frame size_of
    word_of word_bytes
returns-clause-tie c = refl

pub returns-clause-riscv : goal.returns-clause-riscv
unfolding table_in decision_in image_in def_of loop_of follow block_from block_at front_block item_words frame size_of
    word_of word_bytes
returns-clause-riscv c = refl

pub returns-clause-data : goal.returns-clause-data
unfolding table_in decision_in image_in def_of loop_of follow block_from block_at front_block item_words frame size_of
    word_of word_bytes
returns-clause-data c = refl

pub returns-clause-absolute : goal.returns-clause-absolute
unfolding table_in decision_in image_in def_of loop_of follow block_from block_at front_block item_words frame size_of
    word_of word_bytes
returns-clause-absolute c = refl

pub returns-clause-rp2040 : goal.returns-clause-rp2040
unfolding table_in decision_in image_in def_of loop_of follow block_from block_at front_block item_words frame size_of
    word_of word_bytes
returns-clause-rp2040 c = refl

pub returns-clause-unknown : goal.returns-clause-unknown
unfolding table_in decision_in image_in def_of loop_of follow block_from block_at front_block item_words frame size_of
    word_of word_bytes
returns-clause-unknown c = refl
