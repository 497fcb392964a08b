-- By computing.
use Rattle.std.proofs.Common.{refl}
use Rattle.block_codec.specs.Words.{word_of, word_bytes}
use Rattle.image_check.specs.Image.{image_in}
use Rattle.block_loop.specs.Loop.{loop_of, block_from}
use Rattle.block_codec.specs.Reading.{block_at, front_block, item_words}
use Rattle.ram_start.proofs.examples.the_first_check_that_fails.Goals as goal

pub returns-clause-reboot : goal.returns-clause-reboot
unfolding word_bytes
returns-clause-reboot c = λ content ram. refl

pub returns-clause-range : goal.returns-clause-range
unfolding word_bytes
returns-clause-range c = λ content ram. refl

pub returns-clause-no_image : goal.returns-clause-no_image
unfolding image_in loop_of block_from block_at front_block item_words word_of word_bytes
returns-clause-no_image c = λ content. refl
