-- By computing.
use Rattle.std.proofs.Common.{refl}
use Rattle.block_codec.specs.Blocks.{frame}
use Rattle.block_codec.specs.Items.{size_of}
use Rattle.block_codec.specs.Reading.{block_at, front_block, item_words}
use Rattle.block_codec.specs.Words.{word_bytes, word_of}
use Rattle.block_loop.specs.Loop.{block_from, follow, loop_of}
use Rattle.image_check.specs.Image.{image_in}
use Rattle.image_def.specs.Definition.{def_of}
use Rattle.boot_sweep.specs.Comparing.{agree_on}
use Rattle.boot_cuts.proofs.examples.standing.tail_cuts.Goals as goal

pub returns-clause-behind : goal.returns-clause-behind
unfolding agree_on image_in def_of loop_of follow block_from block_at front_block item_words frame size_of word_of word_bytes
returns-clause-behind c = refl

pub returns-clause-last_byte : goal.returns-clause-last_byte
unfolding agree_on image_in def_of loop_of follow block_from block_at front_block item_words frame size_of word_of word_bytes
returns-clause-last_byte c = refl

pub returns-clause-whole : goal.returns-clause-whole
unfolding agree_on image_in def_of loop_of follow block_from block_at front_block item_words frame size_of word_of word_bytes
returns-clause-whole c = refl

pub returns-clause-one_block : goal.returns-clause-one_block
unfolding agree_on image_in def_of loop_of follow block_from block_at front_block item_words frame size_of word_of word_bytes
returns-clause-one_block c = refl

pub returns-clause-mapped : goal.returns-clause-mapped
unfolding agree_on image_in def_of loop_of follow block_from block_at front_block item_words frame size_of word_of word_bytes
returns-clause-mapped c = refl
