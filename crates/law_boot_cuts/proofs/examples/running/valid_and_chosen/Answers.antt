-- By computing.
use Rattle.std.proofs.Common.{◌≡◌, true, false, refl}
use Rattle.pico_board.specs.declared.boot.BootKind.TheVariants.{Update}
use Rattle.pico_board.specs.declared.boot.Cpu.TheVariants.{Arm}
use Rattle.slot_choice.specs.Examples.{window_at}
use Rattle.boot_rules.specs.Tables.{table_in}
use Rattle.boot_rules.specs.Choosing.{decision_in}
use Rattle.worked_flashes.specs.Images.{in_b}
use Rattle.worked_flashes.specs.Choices.{starts_b}
use Rattle.boot_rules.specs.declared.decision.Decision.TheVariants.{Start}
use Rattle.boot_rules.proofs.DecisionLemmas.{chosen-exactly, found-valid}
use Rattle.boot_rules.proofs.StartLemmas.{start-trial}
use Rattle.image_check.specs.Image.{image_in}
use Rattle.image_def.specs.Definition.{def_of}
use Rattle.block_loop.specs.Loop.{loop_of, follow, block_from}
use Rattle.block_codec.specs.Blocks.{frame}
use Rattle.block_codec.specs.Reading.{block_at, front_block, item_words}
use Rattle.block_codec.specs.Items.{size_of}
use Rattle.block_codec.specs.Words.{word_of, word_bytes}
use Rattle.law_boot_cuts.specs.RunningExamples.{trial_content}
use Rattle.law_boot_cuts.proofs.ChosenLemmas.{start-on}
use Rattle.law_boot_cuts.proofs.examples.running.valid_and_chosen.Goals as goal

pub returns-clause-valid : goal.returns-clause-valid
unfolding table_in decision_in image_in def_of loop_of follow block_from block_at front_block item_words frame size_of
    word_of word_bytes
returns-clause-valid c = found-valid (trial_content 0) Arm (window_at 0x20000 0x1e000) true (in_b 1 1 true) refl

pub returns-clause-stands : goal.returns-clause-stands
unfolding table_in decision_in image_in def_of loop_of follow block_from block_at front_block item_words frame size_of
    word_of word_bytes
returns-clause-stands c = record {
  updated = refl;
  unit = record { place = 0; tried = refl; stands = refl; other = refl };
  valid = found-valid (trial_content 0) Arm (window_at 0x20000 0x1e000) true (in_b 1 1 true) refl;
  on = refl;
}

pub returns-clause-chosen : goal.returns-clause-chosen
unfolding table_in decision_in image_in def_of loop_of follow block_from block_at front_block item_words frame size_of
    word_of word_bytes
returns-clause-chosen c = (chosen-exactly (trial_content 0) Arm (Update 0x10020000)
    (Start (starts_b true (in_b 1 1 true)))).1 refl

pub returns-clause-not_updated : goal.returns-clause-not_updated
unfolding table_in decision_in image_in def_of loop_of follow block_from block_at front_block item_words frame size_of
    word_of word_bytes
returns-clause-not_updated c = λ kind chosen.
    (let updated : false ≡ true =
    start-trial (trial_content 0) Arm kind (starts_b false (in_b 1 1 true)) chosen refl in cc)

pub returns-clause-valid_and_off : goal.returns-clause-valid_and_off
unfolding table_in decision_in image_in def_of loop_of follow block_from block_at front_block item_words frame size_of
    word_of word_bytes
returns-clause-valid_and_off c = found-valid (trial_content 2) Arm (window_at 0x20000 0x1e000) true (in_b 1 1 true) refl

pub returns-clause-off : goal.returns-clause-off
unfolding table_in decision_in image_in def_of loop_of follow block_from block_at front_block item_words frame size_of
    word_of word_bytes
returns-clause-off c = λ kind chosen.
    (let on : true ≡ false = start-on (trial_content 2) Arm (starts_b true (in_b 1 1 true)) kind chosen in cc)
