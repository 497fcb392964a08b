-- By computing.
use Rattle.std.proofs.Common.{refl}
use Rattle.block_codec.specs.Blocks.{frame}
use Rattle.block_codec.specs.Items.{size_of}
use Rattle.block_codec.specs.Reading.{block_at, front_block, item_words}
use Rattle.block_codec.specs.Words.{word_bytes, word_of}
use Rattle.block_loop.specs.Loop.{block_from, follow, loop_of}
use Rattle.image_def.specs.Definition.{def_of}
use Rattle.image_check.specs.Image.{image_in}
use Rattle.boot_rules.specs.Tables.{table_in}
use Rattle.uf2_place.specs.Blocks.{written_block, word_bytes as uf2_bytes}
use Rattle.uf2_place.specs.Placement.{programs_in}
use Rattle.law_premises.proofs.examples.sessions.a_script_that_stays_in_bootsel.Goals as goal

pub returns : goal.returns
unfolding written_block uf2_bytes programs_in table_in image_in def_of loop_of follow block_from block_at front_block
    item_words frame size_of word_of word_bytes
returns c = (refl, (refl, (refl, tt)))
