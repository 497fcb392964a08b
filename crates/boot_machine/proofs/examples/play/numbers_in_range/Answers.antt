-- By computing.
use Rattle.std.proofs.Common.{replicate, refl, arith}
use Rattle.pico_board.specs.Content.{IsContent}
use Rattle.boot_rules.specs.Tables.{table_in}
use Rattle.boot_rules.specs.Choosing.{decision_in}
use Rattle.image_check.specs.Image.{image_in}
use Rattle.image_def.specs.Definition.{def_of}
use Rattle.block_loop.specs.Loop.{loop_of, follow, block_from}
use Rattle.block_codec.specs.Blocks.{frame}
use Rattle.block_codec.specs.Reading.{block_at, front_block, item_words}
use Rattle.block_codec.specs.Items.{size_of}
use Rattle.block_codec.specs.Words.{word_of, word_bytes}
use Rattle.picoboot_cmd.specs.Commands.{written_command}
use Rattle.picoboot_cmd.specs.Examples.{erase_command}
use Rattle.ram_start.proofs.RamLemmas.{zeros-right}
use Rattle.ram_start.specs.Sram.{zero_ram}
use Rattle.boot_machine.specs.Examples.{erased_flash}
use Rattle.worked_flashes.proofs.ContentLemmas.{all_below, below-all, content-by}
use Rattle.boot_machine.proofs.examples.play.numbers_in_range.Goals as goal

right : IsContent erased_flash
unfolding all_below
right = content-by erased_flash 0x2000 refl refl refl refl refl refl refl

pub returns-clause-erase : goal.returns-clause-erase
unfolding all_below zero_ram
returns-clause-erase c = record {
  content = right;
  sram = zeros-right 532480 zero_ram refl refl;
  bytes = (refl, below-all 256 (written_command (erase_command 0x10000000 0x2000)) refl);
  steps = (omega arith, (omega arith, tt));
}

pub returns-clause-off : goal.returns-clause-off
unfolding decision_in table_in image_in def_of loop_of follow block_from block_at front_block item_words frame size_of
    word_of word_bytes
returns-clause-off c = record { content = right; sram = tt; bytes = tt; steps = tt }

pub returns-clause-sram : goal.returns-clause-sram
returns-clause-sram c = λ event is. let long = is.sram.long in omega (arith, long)

pub returns-clause-short : goal.returns-clause-short
returns-clause-short c = λ m payload is. let long = is.bytes.0 in omega (arith, long)

pub returns-clause-number : goal.returns-clause-number
returns-clause-number c = λ m is. let low = is.bytes 0 0 (omega arith) in omega (arith, low)

pub returns-clause-command_number : goal.returns-clause-command_number
returns-clause-command_number c = λ m payload is. let low = is.bytes.1 0 0 (omega arith) in omega (arith, low)

pub returns-clause-command_bytes : goal.returns-clause-command_bytes
unfolding all_below
returns-clause-command_bytes c = (refl, below-all 256 (replicate 32 255) refl)
