-- By computing.
use Rattle.std.proofs.Common.{refl}
use Rattle.std.specs.Fmt.{padded_integral, digits, char_count}
use Rattle.block_codec.specs.Words.{word_of, word_bytes}
use Rattle.image_check.specs.Image.{image_in}
use Rattle.image_def.specs.Definition.{def_of}
use Rattle.block_loop.specs.Loop.{loop_of, follow, block_from}
use Rattle.block_codec.specs.Blocks.{frame}
use Rattle.block_codec.specs.Reading.{block_at, front_block, item_words}
use Rattle.block_codec.specs.Items.{size_of}
use Rattle.boot_machine.proofs.examples.command.starts_in_ram.Goals as goal

pub returns-clause-start : goal.returns-clause-start
unfolding padded_integral digits char_count image_in def_of loop_of follow block_from block_at front_block
    item_words frame size_of word_of word_bytes
returns-clause-start c = refl

pub returns-clause-busy : goal.returns-clause-busy
unfolding image_in def_of loop_of follow block_from block_at front_block item_words frame size_of word_of
    word_bytes
returns-clause-busy c = refl

pub returns-clause-short : goal.returns-clause-short
unfolding padded_integral digits char_count image_in def_of loop_of follow block_from block_at front_block
    item_words frame size_of word_of word_bytes
returns-clause-short c = refl
