-- By computing.
use Rattle.std.proofs.Common.{◌≡◌, refl}
use Rattle.pico_board.specs.declared.boot.Cpu.TheVariants.{Arm, Riscv}
use Rattle.pico_board.specs.declared.boot.BootKind.TheVariants.{Normal}
use Rattle.boot_rules.specs.declared.decision.Decision.TheVariants.{Bootsel, Start}
use Rattle.boot_rules.specs.declared.decision.Fall.TheVariants.{NoImage}
use Rattle.boot_rules.specs.Tables.{table_in}
use Rattle.boot_rules.specs.Choosing.{decision_in}
use Rattle.boot_reasons.specs.Reasons.{reasons_in}
use Rattle.image_check.specs.Image.{image_in}
use Rattle.image_def.specs.Definition.{def_of}
use Rattle.block_loop.specs.Loop.{loop_of, follow, block_from}
use Rattle.block_codec.specs.Blocks.{frame}
use Rattle.block_codec.specs.Reading.{block_at, front_block, item_words}
use Rattle.block_codec.specs.Items.{size_of}
use Rattle.block_codec.specs.Words.{word_of, word_bytes}
use Rattle.boot_caveats.specs.Caveats.{caveats_by}
use Rattle.slot_caveats.specs.OtpCaveats.{voted_bits}
use Rattle.boot_caveats.specs.StartCaveats.{is_filled_from}
use Rattle.law_caveats.specs.Examples.{riscv_flash, riscv_start}
use Rattle.law_caveats.proofs.ExampleLemmas.{of-both}
use Rattle.law_caveats.proofs.examples.starts.boots_of_both_processors.Goals as goal

no-image : decision_in riscv_flash Arm Normal ≡ Bootsel NoImage
unfolding table_in decision_in image_in def_of loop_of follow block_from block_at front_block item_words frame size_of word_of word_bytes
no-image = refl

other-start : decision_in riscv_flash Riscv Normal ≡ Start riscv_start
unfolding table_in decision_in image_in def_of loop_of follow block_from block_at front_block item_words frame size_of word_of word_bytes
other-start = refl

pub returns-clause-other : goal.returns-clause-other
returns-clause-other c = of-both riscv_flash Arm Normal (Start riscv_start) no-image other-start

pub returns-clause-model : goal.returns-clause-model
returns-clause-model c = no-image

pub returns-clause-listed : goal.returns-clause-listed
unfolding caveats_by voted_bits reasons_in is_filled_from table_in decision_in image_in def_of loop_of follow block_from block_at front_block item_words frame size_of word_of word_bytes
returns-clause-listed c = refl
