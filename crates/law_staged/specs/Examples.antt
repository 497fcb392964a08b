-- Worked scripts of a host.
use Rattle.std.specs.Prelude.{List, ◌∷◌}
use Rattle.pico_board.specs.declared.boot.BootKind.TheVariants.{Bootsel}
use Rattle.picoboot_cmd.specs.Commands.{written_command}
use Rattle.picoboot_cmd.specs.Examples.{write_command}
use Rattle.worked_flashes.specs.Flashes.{data_page}
use Rattle.boot_script.specs.Events.{EventView, PowerOn, Reset}

-- power comes back, BOOTSEL is entered, and these events follow
abbrev pub hosts_script : List EventView → List EventView
hosts_script events = PowerOn ∷ (Reset Bootsel ∷ events)

-- the command that programs the first page of the pair's second slot
abbrev pub page_write : EventView
page_write = EventView.Command (written_command (write_command 0x10020000 256)) data_page
