-- By computing.
use Rattle.std.proofs.Common.{refl}
use Rattle.block_codec.specs.Blocks.{frame}
use Rattle.block_codec.specs.Items.{size_of}
use Rattle.block_codec.specs.Words.{word_bytes}
use Rattle.part_table.proofs.examples.parts_of_partition_are_read.Goals as goal

pub returns-clause-table : goal.returns-clause-table
unfolding frame size_of word_bytes
returns-clause-table c = refl

pub returns-clause-extra : goal.returns-clause-extra
unfolding frame size_of word_bytes
returns-clause-extra c = refl

pub returns-clause-none : goal.returns-clause-none
unfolding frame size_of word_bytes
returns-clause-none c = refl

pub returns-clause-other : goal.returns-clause-other
unfolding frame size_of word_bytes
returns-clause-other c = refl

pub returns-clause-id : goal.returns-clause-id
unfolding frame size_of word_bytes
returns-clause-id c = refl

pub returns-clause-families : goal.returns-clause-families
unfolding frame size_of word_bytes
returns-clause-families c = refl

pub returns-clause-short : goal.returns-clause-short
unfolding frame size_of word_bytes
returns-clause-short c = refl

pub returns-clause-name : goal.returns-clause-name
unfolding frame size_of word_bytes
returns-clause-name c = refl
