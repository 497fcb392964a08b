-- By computing.
use Rattle.std.proofs.Common.{refl}
use Rattle.std.specs.Fmt.{padded_integral, digits, char_count}
use Rattle.block_codec.specs.Words.{word_of, word_bytes}
use Rattle.image_check.specs.Image.{image_in}
use Rattle.image_def.specs.Definition.{def_of}
use Rattle.block_loop.specs.Loop.{loop_of, follow, block_from}
use Rattle.block_codec.specs.Blocks.{frame}
use Rattle.block_codec.specs.Reading.{block_at, front_block, item_words}
use Rattle.block_codec.specs.Items.{size_of}
use Rattle.boot_machine.proofs.examples.command.commands_of_ram.Goals as goal

pub returns-clause-write : goal.returns-clause-write
unfolding padded_integral digits char_count
returns-clause-write c = refl

pub returns-clause-busy : goal.returns-clause-busy
unfolding padded_integral digits char_count
returns-clause-busy c = refl

pub returns-clause-transfer : goal.returns-clause-transfer
unfolding padded_integral digits char_count
returns-clause-transfer c = refl

pub returns-clause-outside : goal.returns-clause-outside
unfolding padded_integral digits char_count
returns-clause-outside c = refl

pub returns-clause-read_outside : goal.returns-clause-read_outside
unfolding padded_integral digits char_count
returns-clause-read_outside c = refl

pub returns-clause-range : goal.returns-clause-range
unfolding padded_integral digits char_count word_bytes
returns-clause-range c = refl

pub returns-clause-no_image : goal.returns-clause-no_image
unfolding padded_integral digits char_count image_in def_of loop_of follow block_from block_at front_block
    item_words frame size_of word_of word_bytes
returns-clause-no_image c = refl
