-- By computing.
use Rattle.std.proofs.Common.{refl}
use Rattle.std.specs.Fmt.{padded_integral, digits, char_count}
use Rattle.block_codec.specs.Words.{word_of, word_bytes}
use Rattle.image_check.specs.Image.{image_in}
use Rattle.image_def.specs.Definition.{def_of}
use Rattle.block_loop.specs.Loop.{loop_of, follow, block_from}
use Rattle.block_codec.specs.Blocks.{frame}
use Rattle.block_codec.specs.Reading.{block_at, front_block, item_words}
use Rattle.block_codec.specs.Items.{size_of}
use Rattle.boot_rules.specs.Tables.{table_in}
use Rattle.boot_rules.specs.Choosing.{decision_in}
use Rattle.boot_tape.proofs.examples.notes.commands_that_write_nothing.Goals as goal

pub returns-clause-reboot : goal.returns-clause-reboot
unfolding padded_integral digits char_count decision_in table_in image_in def_of loop_of follow block_from block_at
    front_block item_words frame size_of word_of word_bytes
returns-clause-reboot c = refl

pub returns-clause-refused : goal.returns-clause-refused
unfolding padded_integral digits char_count word_of word_bytes
returns-clause-refused c = refl
