-- By computing.
use Rattle.std.proofs.Common.{[], ◌∷◌, refl, inl}
use Rattle.std.specs.Fmt.{padded_integral, digits, char_count}
use Rattle.image_check.specs.Image.{image_in}
use Rattle.image_def.specs.Definition.{def_of}
use Rattle.block_loop.specs.Loop.{loop_of, follow, block_from}
use Rattle.block_codec.specs.Blocks.{frame}
use Rattle.block_codec.specs.Reading.{block_at, front_block, item_words}
use Rattle.block_codec.specs.Items.{size_of}
use Rattle.block_codec.specs.Words.{word_of, word_bytes}
use Rattle.boot_script.specs.Events.{EventView}
use Rattle.picoboot_cmd.specs.Commands.{written_command}
use Rattle.picoboot_cmd.specs.Examples.{write_command}
use Rattle.ram_start.specs.Examples.{reboot_into}
use Rattle.text_lines.specs.Examples.{ram_image}
use Rattle.text_lines.specs.declared.outcome.CommandAnswer.TheVariants.{RamStarted}
use Rattle.text_lines.specs.declared.outcome.EventOutcome.{EventOutcome}
use Rattle.boot_machine.specs.Machines.{FromRam, InBootsel, Running}
use Rattle.boot_machine.specs.Moves.{Moves}
use Rattle.boot_machine.specs.Examples.{erased_flash, fresh_host, image_bytes, loaded_host, machine_at, told_command, told_done}
use Rattle.boot_machine.proofs.examples.play.a_run_into_ram.Goals as goal

abbrev loaded : EventOutcome
loaded = told_done 0x05

abbrev started : EventOutcome
started = told_command 0x0a (RamStarted ram_image)

loads : Moves (machine_at erased_flash (InBootsel fresh_host))
    (EventView.Command (written_command (write_command 0x20000000 28)) image_bytes)
    (machine_at erased_flash (InBootsel loaded_host)) loaded
unfolding padded_integral digits char_count image_in def_of loop_of follow block_from block_at front_block
    item_words frame size_of word_of word_bytes
loads = inl (record {
  content = refl;
  armed_cut = record { answer = refl; left = refl; next = refl };
  cpu = refl;
  place = refl;
  told = refl;
})

starts : Moves (machine_at erased_flash (InBootsel loaded_host))
    (EventView.Command (written_command (reboot_into 3 0x20000000 28)) [])
    (machine_at erased_flash (Running (FromRam ram_image))) started
unfolding padded_integral digits char_count image_in def_of loop_of follow block_from block_at front_block
    item_words frame size_of word_of word_bytes
starts = inl (record {
  content = refl;
  armed_cut = record { answer = refl; left = refl; next = refl };
  cpu = refl;
  place = refl;
  told = refl;
})

pub returns-clause-plays : goal.returns-clause-plays
returns-clause-plays c = (
  machine_at erased_flash (InBootsel loaded_host),
  loaded,
  started ∷ [],
  loads,
  (machine_at erased_flash (Running (FromRam ram_image)), started, [], starts, (refl, refl), refl),
  refl,
)

pub returns-clause-writes : goal.returns-clause-writes
unfolding word_bytes
returns-clause-writes c =
    (machine_at erased_flash (InBootsel loaded_host), loaded, [], loads, (refl, refl, refl), refl)

pub returns-clause-starts : goal.returns-clause-starts
returns-clause-starts c = record { moves = starts; former = λ same. cc same; running = refl }
