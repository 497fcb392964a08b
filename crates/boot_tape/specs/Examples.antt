-- Worked notes, which the examples of this crate take.
use Rattle.std.specs.Prelude.{ℕ, Bool, []}
use Rattle.picoboot_cmd.specs.Commands.{written_command}
use Rattle.picoboot_cmd.specs.Examples.{erase_command}
use Rattle.text_lines.specs.declared.outcome.EventOutcome.{EventOutcome}
use Rattle.boot_script.specs.Events.{EventView}
use Rattle.boot_tape.specs.declared.notes.Behind.{Behind}
use Rattle.boot_tape.specs.declared.notes.Note.{Note}

-- a note
abbrev pub noting : EventOutcome → ℕ → Behind → ℕ → Bool → Note
noting outcome own behind moves whole =
    record { outcome = outcome; own = own; behind = behind; moves = moves; whole = whole }

-- a command to erase sectors 0 and 1
abbrev pub erase_two : EventView
erase_two = EventView.Command (written_command (erase_command 0x10000000 0x2000)) []
