-- By computing.
use Rattle.std.proofs.Common.{refl, false, arith}
use Rattle.pico_board.specs.declared.boot.Cpu.TheVariants.{Arm}
use Rattle.worked_flashes.specs.Tables.{owned_table}
use Rattle.slot_choice.specs.Examples.{window_at}
use Rattle.worked_flashes.specs.Flashes.{arm_owner, owned_content}
use Rattle.boot_rules.specs.Examples.{found_in_slot}
use Rattle.worked_flashes.specs.Choices.{to}
use Rattle.law_targets.proofs.ExampleLemmas.{answered, not-other, other-window}
use Rattle.boot_rules.specs.Tables.{table_in}
use Rattle.boot_rules.specs.Choosing.{decision_in}
use Rattle.image_check.specs.Image.{image_in}
use Rattle.image_def.specs.Definition.{def_of}
use Rattle.block_loop.specs.Loop.{loop_of, follow, block_from}
use Rattle.block_codec.specs.Blocks.{frame}
use Rattle.block_codec.specs.Reading.{block_at, front_block, item_words}
use Rattle.block_codec.specs.Items.{size_of}
use Rattle.block_codec.specs.Words.{word_of, word_bytes}
use Rattle.law_targets.proofs.examples.owned_data_by_the_words.Goals as goal

pub returns-clause-second : goal.returns-clause-second
unfolding table_in decision_in image_in def_of loop_of follow block_from block_at front_block item_words frame size_of
    word_of word_bytes
returns-clause-second c = answered (owned_content (arm_owner 0x10009) (arm_owner 0x10009))
    Arm 0xe48bff58 (found_in_slot 0 owned_table) refl
    (to (window_at 0x1a000 0x8000) false false) refl

pub returns-clause-first : goal.returns-clause-first
unfolding table_in decision_in image_in def_of loop_of follow block_from block_at front_block item_words frame size_of
    word_of word_bytes
returns-clause-first c = answered (owned_content (arm_owner 0x10009) (arm_owner 0x1000a))
    Arm 0xe48bff58 (found_in_slot 0 owned_table) refl
    (to (window_at 0x12000 0x8000) false false) refl

pub returns-clause-not_second : goal.returns-clause-not_second
unfolding table_in decision_in image_in def_of loop_of follow block_from block_at front_block item_words frame size_of
    word_of word_bytes
returns-clause-not_second c = not-other (owned_content (arm_owner 0x10009) (arm_owner 0x1000a))
    Arm 0xe48bff58 (found_in_slot 0 owned_table) refl
    (to (window_at 0x12000 0x8000) false false) (to (window_at 0x1a000 0x8000) false false) refl
    (other-window _ _ (λ same. absurd (omega (arith, same))))
