-- By computing.
use Rattle.std.proofs.Common.{refl}
use Rattle.std.specs.Int.Count.{ones, ones_in}
use Rattle.boot_rules.specs.Tables.{table_in}
use Rattle.boot_rules.specs.Choosing.{decision_in}
use Rattle.boot_reasons.specs.Reasons.{reasons_in}
use Rattle.image_check.specs.Image.{image_in}
use Rattle.image_def.specs.Definition.{def_of}
use Rattle.block_loop.specs.Loop.{loop_of, follow, block_from}
use Rattle.block_codec.specs.Blocks.{frame}
use Rattle.block_codec.specs.Reading.{block_at, front_block, item_words}
use Rattle.block_codec.specs.Items.{size_of}
use Rattle.block_codec.specs.Words.{word_of, word_bytes}
use Rattle.boot_caveats.specs.Caveats.{caveats_by}
use Rattle.slot_caveats.specs.OtpCaveats.{voted_bits}
use Rattle.boot_caveats.specs.StartCaveats.{is_filled_from}
use Rattle.law_caveats.proofs.examples.flashes.caveats_in_order.Goals as goal

pub returns-clause-processor : goal.returns-clause-processor
unfolding caveats_by voted_bits reasons_in is_filled_from table_in decision_in image_in def_of loop_of follow block_from block_at
    front_block item_words frame size_of word_of word_bytes
returns-clause-processor c = refl

pub returns-clause-update : goal.returns-clause-update
unfolding ones ones_in caveats_by voted_bits reasons_in is_filled_from table_in decision_in image_in def_of loop_of follow block_from block_at
    front_block item_words frame size_of word_of word_bytes
returns-clause-update c = refl

pub returns-clause-tables : goal.returns-clause-tables
unfolding caveats_by voted_bits reasons_in is_filled_from table_in decision_in image_in def_of loop_of follow block_from block_at
    front_block item_words frame size_of word_of word_bytes
returns-clause-tables c = refl

pub returns-clause-rows : goal.returns-clause-rows
unfolding ones ones_in caveats_by voted_bits reasons_in is_filled_from table_in decision_in image_in def_of loop_of follow block_from block_at
    front_block item_words frame size_of word_of word_bytes
returns-clause-rows c = refl
