-- By computing.
use Rattle.std.proofs.Common.{refl}
use Rattle.block_codec.specs.Blocks.{frame}
use Rattle.block_codec.specs.Reading.{block_at, front_block, item_words}
use Rattle.block_codec.specs.Items.{size_of}
use Rattle.block_codec.specs.Words.{word_bytes, word_of}
use Rattle.part_table.proofs.examples.pair_is_read.Goals as goal

pub returns-clause-block : goal.returns-clause-block
unfolding block_at front_block item_words frame size_of word_bytes word_of
returns-clause-block c = refl

pub returns-clause-has : goal.returns-clause-has
unfolding block_at front_block item_words frame size_of word_bytes word_of
returns-clause-has c = refl

pub returns-clause-hasnt : goal.returns-clause-hasnt
unfolding block_at front_block item_words frame size_of word_bytes word_of
returns-clause-hasnt c = refl

pub returns-clause-table : goal.returns-clause-table
unfolding block_at front_block item_words frame size_of word_bytes word_of
returns-clause-table c = refl

pub returns-clause-first : goal.returns-clause-first
unfolding block_at front_block item_words frame size_of word_bytes word_of
returns-clause-first c = refl

pub returns-clause-second : goal.returns-clause-second
unfolding block_at front_block item_words frame size_of word_bytes word_of
returns-clause-second c = refl

pub returns-clause-pair : goal.returns-clause-pair
unfolding block_at front_block item_words frame size_of word_bytes word_of
returns-clause-pair c = refl

pub returns-clause-alone : goal.returns-clause-alone
unfolding block_at front_block item_words frame size_of word_bytes word_of
returns-clause-alone c = refl

pub returns-clause-arm : goal.returns-clause-arm
unfolding block_at front_block item_words frame size_of word_bytes word_of
returns-clause-arm c = refl

pub returns-clause-riscv : goal.returns-clause-riscv
unfolding block_at front_block item_words frame size_of word_bytes word_of
returns-clause-riscv c = refl

pub returns-clause-absolute : goal.returns-clause-absolute
unfolding block_at front_block item_words frame size_of word_bytes word_of
returns-clause-absolute c = refl
