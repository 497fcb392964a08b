-- By computing.
use Rattle.std.proofs.Common.{◌≡◌, length, Some, None, refl}
use Rattle.pico_board.specs.declared.boot.Cpu.TheVariants.{Arm}
use Rattle.pico_board.specs.declared.boot.BootKind.TheVariants.{Normal}
use Rattle.pico_board.specs.declared.window.TheConstants.{SMALLEST_SLOT}
use Rattle.otp_roll.specs.Flags.{slot_size}
use Rattle.boot_rules.specs.declared.decision.Decision.TheVariants.{Bootsel}
use Rattle.boot_rules.specs.declared.decision.Fall.TheVariants.{NoImage}
use Rattle.boot_rules.specs.Tables.{table_in}
use Rattle.boot_rules.specs.Choosing.{choose, decision_in, images_in}
use Rattle.boot_reasons.specs.Reasons.{reasons_in}
use Rattle.image_check.specs.Image.{image_in}
use Rattle.image_def.specs.Definition.{def_of}
use Rattle.block_loop.specs.Loop.{loop_of, follow, block_from}
use Rattle.block_codec.specs.Blocks.{frame}
use Rattle.block_codec.specs.Reading.{block_at, front_block, item_words}
use Rattle.block_codec.specs.Items.{size_of}
use Rattle.block_codec.specs.Words.{word_of, word_bytes}
use Rattle.boot_caveats.specs.Caveats.{caveats_by}
use Rattle.slot_caveats.specs.OtpCaveats.{voted_bits}
use Rattle.boot_caveats.specs.StartCaveats.{is_filled_from}
use Rattle.law_caveats.specs.Alternatives.{slots_alone}
use Rattle.law_caveats.specs.Examples.{second_slot_flash, second_slot_start}
use Rattle.law_caveats.proofs.ExampleLemmas.{with-slots}
use Rattle.law_caveats.proofs.examples.starts.boots_from_slots.Goals as goal

no-image : decision_in second_slot_flash Arm Normal ≡ Bootsel NoImage
unfolding table_in decision_in image_in def_of loop_of follow block_from block_at front_block item_words frame size_of word_of word_bytes
no-image = refl

no-table : table_in second_slot_flash ≡ None
unfolding table_in decision_in image_in def_of loop_of follow block_from block_at front_block item_words frame size_of word_of word_bytes
no-table = refl

slot-of-size : slot_size second_slot_flash.otp (length second_slot_flash.flash) ≡ SMALLEST_SLOT
unfolding word_bytes
slot-of-size = refl

slot-start : choose (images_in second_slot_flash Arm) slots_alone ≡ Some second_slot_start
unfolding table_in decision_in image_in def_of loop_of follow block_from block_at front_block item_words frame size_of word_of word_bytes
slot-start = refl

pub returns-clause-other : goal.returns-clause-other
returns-clause-other c = with-slots second_slot_flash Arm Normal second_slot_start no-image no-table slot-of-size slot-start

pub returns-clause-model : goal.returns-clause-model
returns-clause-model c = no-image

pub returns-clause-listed : goal.returns-clause-listed
unfolding caveats_by voted_bits reasons_in is_filled_from table_in decision_in image_in def_of loop_of follow block_from block_at front_block item_words frame size_of word_of word_bytes
returns-clause-listed c = refl
