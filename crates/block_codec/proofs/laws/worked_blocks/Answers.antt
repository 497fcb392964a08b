use Rattle.std.proofs.Common.{refl}
use Rattle.block_codec.specs.Words.{word_bytes, word_of}
use Rattle.block_codec.specs.Items.{size_of}
use Rattle.block_codec.specs.Reading.{item_words, front_block, block_at}
use Rattle.block_codec.proofs.laws.worked_blocks.Goals as goal

pub returns-clause-minimal : goal.returns-clause-minimal
unfolding word_bytes word_of size_of item_words front_block block_at
returns-clause-minimal c = refl

pub returns-clause-fourth_byte : goal.returns-clause-fourth_byte
unfolding word_bytes word_of size_of item_words front_block block_at
returns-clause-fourth_byte c = refl

pub returns-clause-no_size : goal.returns-clause-no_size
unfolding word_bytes word_of size_of item_words front_block block_at
returns-clause-no_size c = refl

pub returns-clause-unaligned : goal.returns-clause-unaligned
unfolding word_bytes word_of size_of item_words front_block block_at
returns-clause-unaligned c = refl
