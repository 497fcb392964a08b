-- By computing.
use Rattle.std.proofs.Common.{refl}
use Rattle.std.specs.Fmt.{padded_integral, digits, char_count}
use Rattle.block_codec.specs.Words.{word_of, word_bytes}
use Rattle.image_check.specs.Image.{image_in}
use Rattle.image_def.specs.Definition.{def_of}
use Rattle.block_loop.specs.Loop.{loop_of, follow, block_from}
use Rattle.block_codec.specs.Blocks.{frame}
use Rattle.block_codec.specs.Reading.{block_at, front_block, item_words}
use Rattle.block_codec.specs.Items.{size_of}
use Rattle.boot_rules.specs.Tables.{table_in}
use Rattle.boot_machine.proofs.examples.command.the_kept_table_serves.Goals as goal

pub returns-clause-content : goal.returns-clause-content
unfolding table_in image_in def_of loop_of follow block_from block_at front_block item_words frame size_of word_of
    word_bytes
returns-clause-content c = refl

pub returns-clause-guarded : goal.returns-clause-guarded
unfolding padded_integral digits char_count
returns-clause-guarded c = refl

pub returns-clause-bare : goal.returns-clause-bare
unfolding padded_integral digits char_count
returns-clause-bare c = refl

pub returns-clause-busy : goal.returns-clause-busy
unfolding padded_integral digits char_count
returns-clause-busy c = refl
