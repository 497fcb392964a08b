-- By computing.
use Rattle.std.proofs.Common.{refl}
use Rattle.image_def.specs.Definition.{def_of}
use Rattle.block_loop.specs.Loop.{loop_of, follow, block_from}
use Rattle.block_codec.specs.Blocks.{frame}
use Rattle.block_codec.specs.Reading.{block_at, front_block, item_words}
use Rattle.block_codec.specs.Items.{size_of}
use Rattle.block_codec.specs.Words.{word_of, word_bytes}
use Rattle.boot_caveats.proofs.examples.members.digests_without_a_map.Goals as goal

pub returns-clause-bare : goal.returns-clause-bare
unfolding def_of loop_of follow block_from block_at front_block item_words frame size_of word_of word_bytes
returns-clause-bare c = refl

pub returns-clause-no_value : goal.returns-clause-no_value
unfolding def_of loop_of follow block_from block_at front_block item_words frame size_of word_of word_bytes
returns-clause-no_value c = refl

pub returns-clause-mapped : goal.returns-clause-mapped
unfolding def_of loop_of follow block_from block_at front_block item_words frame size_of word_of word_bytes
returns-clause-mapped c = refl
