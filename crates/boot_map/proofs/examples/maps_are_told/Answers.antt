-- By computing.
use Rattle.std.proofs.Common.{refl}
use Rattle.boot_rules.specs.Tables.{table_in}
use Rattle.boot_rules.specs.Choosing.{decision_in}
use Rattle.image_check.specs.Image.{image_in}
use Rattle.image_def.specs.Definition.{def_of}
use Rattle.block_loop.specs.Loop.{loop_of, follow, block_from}
use Rattle.block_codec.specs.Blocks.{frame}
use Rattle.block_codec.specs.Reading.{block_at, front_block, item_words}
use Rattle.block_codec.specs.Items.{size_of}
use Rattle.block_codec.specs.Words.{word_of, word_bytes}
use Rattle.boot_map.specs.Maps.{map_in}
use Rattle.boot_map.proofs.examples.maps_are_told.Goals as goal

pub returns-clause-pair : goal.returns-clause-pair
unfolding map_in table_in decision_in image_in def_of loop_of follow block_from block_at front_block item_words frame
    size_of word_of word_bytes
returns-clause-pair c = refl

pub returns-clause-slots : goal.returns-clause-slots
unfolding map_in table_in decision_in image_in def_of loop_of follow block_from block_at front_block item_words frame
    size_of word_of word_bytes
returns-clause-slots c = refl

pub returns-clause-nothing : goal.returns-clause-nothing
unfolding map_in table_in decision_in image_in def_of loop_of follow block_from block_at front_block item_words frame
    size_of word_of word_bytes
returns-clause-nothing c = refl
