-- By computing.
use Rattle.std.proofs.Common.{refl, true, false, arith}
use Rattle.pico_board.specs.declared.boot.Cpu.TheVariants.{Arm}
use Rattle.worked_flashes.specs.Tables.{pair_table}
use Rattle.slot_choice.specs.Examples.{window_at}
use Rattle.worked_flashes.specs.Flashes.{arm_member, bare, pair_content}
use Rattle.boot_rules.specs.Examples.{found_in_slot}
use Rattle.worked_flashes.specs.Choices.{to}
use Rattle.law_targets.proofs.ExampleLemmas.{answered, not-other, nowhere, other-gate, other-window}
use Rattle.boot_rules.specs.Tables.{table_in}
use Rattle.boot_rules.specs.Choosing.{decision_in}
use Rattle.image_check.specs.Image.{image_in}
use Rattle.image_def.specs.Definition.{def_of}
use Rattle.block_loop.specs.Loop.{loop_of, follow, block_from}
use Rattle.block_codec.specs.Blocks.{frame}
use Rattle.block_codec.specs.Reading.{block_at, front_block, item_words}
use Rattle.block_codec.specs.Items.{size_of}
use Rattle.block_codec.specs.Words.{word_of, word_bytes}
use Rattle.law_targets.proofs.examples.a_pair_by_the_words.Goals as goal

pub returns-clause-second : goal.returns-clause-second
unfolding table_in decision_in image_in def_of loop_of follow block_from block_at front_block item_words frame size_of
    word_of word_bytes
returns-clause-second c = answered (pair_content 0 (arm_member 0x10009) bare)
    Arm 0xe48bff59 (found_in_slot 0 pair_table) refl
    (to (window_at 0x20000 0x1e000) true false) refl

pub returns-clause-not_first : goal.returns-clause-not_first
unfolding table_in decision_in image_in def_of loop_of follow block_from block_at front_block item_words frame size_of
    word_of word_bytes
returns-clause-not_first c = not-other (pair_content 0 (arm_member 0x10009) bare)
    Arm 0xe48bff59 (found_in_slot 0 pair_table) refl
    (to (window_at 0x20000 0x1e000) true false) (to (window_at 0x2000 0x1e000) true false) refl
    (other-window _ _ (λ same. absurd (omega (arith, same))))

pub returns-clause-not_ungated : goal.returns-clause-not_ungated
unfolding table_in decision_in image_in def_of loop_of follow block_from block_at front_block item_words frame size_of
    word_of word_bytes
returns-clause-not_ungated c = not-other (pair_content 0 (arm_member 0x10009) bare)
    Arm 0xe48bff59 (found_in_slot 0 pair_table) refl
    (to (window_at 0x20000 0x1e000) true false) (to (window_at 0x20000 0x1e000) false false) refl
    (other-gate _ _ refl refl)

pub returns-clause-neither : goal.returns-clause-neither
unfolding table_in decision_in image_in def_of loop_of follow block_from block_at front_block item_words frame size_of
    word_of word_bytes
returns-clause-neither c = answered (pair_content 0 bare bare)
    Arm 0xe48bff59 (found_in_slot 0 pair_table) refl
    (to (window_at 0x2000 0x1e000) true false) refl

pub returns-clause-nowhere : goal.returns-clause-nowhere
unfolding table_in decision_in image_in def_of loop_of follow block_from block_at front_block item_words frame size_of
    word_of word_bytes
returns-clause-nowhere c = nowhere (pair_content 0 bare bare) Arm 0xe48bff58 (found_in_slot 0 pair_table) refl refl
