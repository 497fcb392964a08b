use Rattle.std.proofs.Common.{refl}
use Rattle.block_codec.specs.Words.{word_bytes, word_of}
use Rattle.block_codec.specs.Items.{size_of}
use Rattle.block_codec.specs.Reading.{item_words, front_block, block_at}
use Rattle.block_loop.specs.Loop.{block_from, follow, loop_of}
use Rattle.block_loop.proofs.laws.worked_loops.Goals as goal

pub returns-clause-two : goal.returns-clause-two
unfolding word_bytes word_of size_of item_words front_block block_at block_from follow loop_of
returns-clause-two c = refl

pub returns-clause-broken : goal.returns-clause-broken
unfolding word_bytes word_of size_of item_words front_block block_at block_from follow loop_of
returns-clause-broken c = refl

pub returns-clause-overlap : goal.returns-clause-overlap
unfolding word_bytes word_of size_of item_words front_block block_at block_from follow loop_of
returns-clause-overlap c = refl
