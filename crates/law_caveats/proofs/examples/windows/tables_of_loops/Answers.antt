-- By computing.
use Rattle.std.proofs.Common.{refl}
use Rattle.block_loop.specs.Loop.{loop_of, follow, block_from}
use Rattle.block_codec.specs.Blocks.{frame}
use Rattle.block_codec.specs.Reading.{block_at, front_block, item_words}
use Rattle.block_codec.specs.Items.{size_of}
use Rattle.block_codec.specs.Words.{word_of, word_bytes}
use Rattle.law_caveats.proofs.examples.windows.tables_of_loops.Goals as goal

pub returns-clause-first : goal.returns-clause-first
unfolding loop_of follow block_from block_at front_block item_words frame size_of word_of word_bytes
returns-clause-first c = refl

pub returns-clause-none : goal.returns-clause-none
unfolding loop_of follow block_from block_at front_block item_words frame size_of word_of word_bytes
returns-clause-none c = refl

pub returns-clause-broken : goal.returns-clause-broken
unfolding loop_of follow block_from block_at front_block item_words frame size_of word_of word_bytes
returns-clause-broken c = refl
