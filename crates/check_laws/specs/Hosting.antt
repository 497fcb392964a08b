-- Whether a script is a host's, and what its host does, as functions: by the events, and by what is
-- noted of each and the moves.
use Rattle.std.specs.Prelude.{ℕ, ◌&&◌, ◌||◌, not, is_none, Bool, true, false, if◌then◌else◌, List, [], ◌∷◌, ◌++◌, take, drop, Option, Some, None}
use Rattle.std.specs.List.{list_any}
use Rattle.pico_board.specs.declared.Step.{Step}
use Rattle.pico_board.specs.declared.boot.Cpu.{Cpu}
use Rattle.pico_board.specs.declared.boot.BootKind.{BootKind}
use Rattle.pico_board.specs.declared.boot.BootKind.TheVariants.{Bootsel}
use Rattle.pico_board.specs.Content.{Content}
use Rattle.pico_board.specs.Steps.{after_all}
use Rattle.boot_script.specs.Events.{EventView, PowerOn, Reset}
use Rattle.boot_machine.specs.Boots.{entered}
use Rattle.boot_machine.specs.Machines.{StateView}
use Rattle.boot_machine.specs.Serving.{is_hosted}
use Rattle.boot_sweep.specs.Moving.{MoveView}
use Rattle.boot_tape.specs.declared.notes.Note.{Note}
use Rattle.boot_tape.specs.Doers.{is_boot}
use Rattle.boot_tape.specs.Moving.{does_step, done_steps}
use Rattle.check_laws.specs.Hosts.{is_own, served_at}

-- the events from this place on are those of a host, where the one before them asked for this boot
-- or for none, and then normal resets and buys; the host's are over where one of these has come
abbrev pub hosting : Content → Cpu → StateView → Option BootKind → Bool → List EventView → Bool
hosting c cpu place asked over [] = true
hosting c cpu place asked over (event ∷ events) =
    if is_hosted event then (not over && is_none asked) && (let s = served_at c cpu place event in
    hosting (after_all c s.steps) cpu s.place s.boot over events)
    else is_own event && hosting c cpu place asked true events

-- of the moves of noted events, one of a host's own completes or is torn
abbrev pub host_writes : List Note → List MoveView → Bool
host_writes [] moves = false
host_writes (note ∷ notes) moves =
    list_any does_step (take note.own (take note.moves moves))
    || host_writes notes (drop note.moves moves)

-- the events behind a first one of power that comes back and a reset to BOOTSEL
abbrev pub hosted_events : List EventView → Option (List EventView)
hosted_events (PowerOn ∷ (Reset Bootsel ∷ events)) = Some events
hosted_events _ = None

abbrev pub is_hosted_on : Content → Cpu → Option (List EventView) → Bool
is_hosted_on c cpu None = false
is_hosted_on c cpu (Some events) = hosting c cpu (entered c) None false events

-- a host's script may go on with the event, where the host's events are over or not
abbrev pub fits : Bool → EventView → Bool
fits over event = is_own event || (not over && is_hosted event)

-- the host's events are over behind an event of this note: it is none of them, or asks for a boot
abbrev pub ends : EventView → Note → Bool
ends event note = not (is_hosted event) || is_boot note.behind

-- the same as `hosting`, by what is noted of each event
abbrev pub are_hosts : Bool → List EventView → List Note → Bool
are_hosts over [] notes = true
are_hosts over (event ∷ events) [] = true
are_hosts over (event ∷ events) (note ∷ notes) =
    fits over event && are_hosts (ends event note) events notes

abbrev pub is_noted : Option (List EventView) → List Note → Bool
is_noted None notes = false
is_noted (Some events) notes = are_hosts false events notes

-- the steps of a host's own that complete, of the moves of noted events
abbrev pub host_done : List Note → List MoveView → List Step
host_done [] moves = []
host_done (note ∷ notes) moves =
    done_steps (take note.own (take note.moves moves)) ++ host_done notes (drop note.moves moves)

-- how many moves the first of noted events does
abbrev pub boot_count : List Note → ℕ
boot_count [] = 0
boot_count (note ∷ notes) = note.moves
