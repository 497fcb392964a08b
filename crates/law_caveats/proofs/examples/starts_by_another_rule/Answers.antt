-- By computing.
use Rattle.std.proofs.Common.{refl}
use Rattle.boot_rules.specs.Tables.{table_in}
use Rattle.boot_rules.specs.Choosing.{decision_in}
use Rattle.image_check.specs.Image.{image_in}
use Rattle.image_def.specs.Definition.{def_of}
use Rattle.block_loop.specs.Loop.{loop_of, follow, block_from}
use Rattle.block_codec.specs.Blocks.{frame}
use Rattle.block_codec.specs.Reading.{block_at, front_block, item_words}
use Rattle.block_codec.specs.Items.{size_of}
use Rattle.block_codec.specs.Words.{word_of, word_bytes}
use Rattle.boot_reasons.specs.Reasons.{reasons_in}
use Rattle.slot_caveats.specs.OtpCaveats.{voted_bits}
use Rattle.boot_caveats.specs.Caveats.{caveats_by}
use Rattle.boot_caveats.specs.StartCaveats.{is_filled_from}
use Rattle.boot_caveats.specs.Unread.{unread_rows}
use Rattle.law_caveats.proofs.examples.starts_by_another_rule.Goals as goal

pub returns-clause-slot : goal.returns-clause-slot
unfolding table_in decision_in image_in def_of loop_of follow block_from block_at front_block item_words frame size_of word_of word_bytes unread_rows
returns-clause-slot c = refl

pub returns-clause-slot_of_model : goal.returns-clause-slot_of_model
unfolding table_in decision_in image_in def_of loop_of follow block_from block_at front_block item_words frame size_of word_of word_bytes unread_rows
returns-clause-slot_of_model c = refl

pub returns-clause-order : goal.returns-clause-order
unfolding table_in decision_in image_in def_of loop_of follow block_from block_at front_block item_words frame size_of word_of word_bytes unread_rows
returns-clause-order c = refl

pub returns-clause-order_of_model : goal.returns-clause-order_of_model
unfolding table_in decision_in image_in def_of loop_of follow block_from block_at front_block item_words frame size_of word_of word_bytes unread_rows
returns-clause-order_of_model c = refl

pub returns-clause-processor : goal.returns-clause-processor
unfolding table_in decision_in image_in def_of loop_of follow block_from block_at front_block item_words frame size_of word_of word_bytes unread_rows
returns-clause-processor c = refl

pub returns-clause-processor_of_model : goal.returns-clause-processor_of_model
unfolding table_in decision_in image_in def_of loop_of follow block_from block_at front_block item_words frame size_of word_of word_bytes unread_rows
returns-clause-processor_of_model c = refl

pub returns-clause-rows : goal.returns-clause-rows
unfolding table_in decision_in image_in def_of loop_of follow block_from block_at front_block item_words frame size_of word_of word_bytes unread_rows
returns-clause-rows c = refl

pub returns-clause-rows_of_model : goal.returns-clause-rows_of_model
unfolding table_in decision_in image_in def_of loop_of follow block_from block_at front_block item_words frame size_of word_of word_bytes unread_rows
returns-clause-rows_of_model c = refl

pub returns-clause-slot_listed : goal.returns-clause-slot_listed
unfolding caveats_by voted_bits reasons_in is_filled_from table_in decision_in image_in def_of loop_of follow block_from block_at
    front_block item_words frame size_of word_of word_bytes
returns-clause-slot_listed c = refl

pub returns-clause-order_listed : goal.returns-clause-order_listed
unfolding caveats_by voted_bits reasons_in is_filled_from table_in decision_in image_in def_of loop_of follow block_from block_at
    front_block item_words frame size_of word_of word_bytes
returns-clause-order_listed c = refl

pub returns-clause-rows_listed : goal.returns-clause-rows_listed
unfolding unread_rows caveats_by voted_bits reasons_in is_filled_from table_in decision_in image_in def_of loop_of follow block_from block_at
    front_block item_words frame size_of word_of word_bytes
returns-clause-rows_listed c = refl
