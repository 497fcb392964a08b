-- Scripts of a host: power comes back, BOOTSEL is entered, and a host sends commands and UF2 blocks.
-- Then the board resets, and what runs may buy itself.
use Rattle.std.specs.Prelude.{◌≡◌, ◌⊎◌, ⊤, Bool, true, false, List, [], ◌∷◌, ◌++◌, Option, None}
use Rattle.std.specs.List.{AllByRecursion, list_any}
use Rattle.pico_board.specs.declared.boot.Cpu.{Cpu}
use Rattle.pico_board.specs.declared.boot.BootKind.{BootKind}
use Rattle.pico_board.specs.declared.boot.BootKind.TheVariants.{Normal, Bootsel}
use Rattle.pico_board.specs.Content.{Content}
use Rattle.pico_board.specs.Steps.{after_all}
use Rattle.boot_script.specs.Events.{EventView, PowerOn, Reset, Buy}
use Rattle.text_lines.specs.declared.outcome.EventOutcome.TheVariants as event_outcomes
use Rattle.boot_machine.specs.Boots.{booted, entered}
use Rattle.boot_machine.specs.Machines.{MachineView, StateView, Off, InBootsel, Running}
use Rattle.boot_machine.specs.Serving.{ServedEvent, is_hosted, served_event}
use Rattle.boot_machine.specs.Plays.{moved_machine, powerless}
use Rattle.boot_tape.specs.Moving.{does_step}
use Rattle.boot_tape.specs.Traces.{own_moves}

-- c1: the content when the first event of a host comes. Power that came back made a normal boot;
-- the reset to BOOTSEL wrote nothing.
abbrev pub first_content : Content → Cpu → Content
first_content c cpu = after_all c (booted c cpu Normal None).steps

-- what BOOTSEL does for a host's event, before a boot that it asks for; elsewhere nothing is done
abbrev pub served_at : Content → Cpu → StateView → EventView → ServedEvent
served_at c cpu (InBootsel host) event = served_event c cpu host event
served_at c cpu Off event =
    record { steps = []; place = Off; outcome = event_outcomes.Off; boot = None }
served_at c cpu (Running program) event =
    record { steps = []; place = Running program; outcome = event_outcomes.Ignored; boot = None }

-- Each event is a Command or a Uf2 event, and comes where the one before it asked for no boot. What
-- the one before the first asked for is given. The start of an image in RAM is no boot.
abbrev pub AreServed : Content → Cpu → StateView → Option BootKind → List EventView → Type 0
AreServed c cpu place asked [] = ⊤
AreServed c cpu place asked (event ∷ events) =
    (is_hosted event ≡ true) × (asked ≡ None)
    × (let s = served_at c cpu place event in
    AreServed (after_all c s.steps) cpu s.place s.boot events)

-- the event is a normal reset, or the buy of what runs
abbrev pub is_own : EventView → Bool
is_own (Reset Normal) = true
is_own Buy = true
is_own event = false

-- The script is a host's: PowerOn, Reset BOOTSEL, then Command and Uf2 events, at most the last of
-- which asks for a boot, then normal resets and buys, and its end.
pub record IsHosts (c : Content) (cpu : Cpu) (events : List EventView) : Type 0 where
  pub hosted : List EventView
  pub own : List EventView
  pub whole : events ≡ PowerOn ∷ (Reset Bootsel ∷ (hosted ++ own))
  pub served : AreServed (first_content c cpu) cpu (entered (first_content c cpu)) None hosted
  pub rest : AllByRecursion (λ (event : EventView). is_own event ≡ true) own

-- some Command or Uf2 event of those that the machine plays completes or tears a step of its own
abbrev pub Writes : MachineView → List EventView → Type 0
Writes m [] = ⊥
Writes m (event ∷ events) =
    ((is_hosted event ≡ true) × (list_any does_step (own_moves m event) ≡ true))
    ⊎ Writes (moved_machine m event).next events

-- a Command or Uf2 event of a script completes or tears a step of its own
abbrev pub HostWrites : Content → Cpu → List EventView → Type 0
HostWrites c cpu events = Writes (powerless c cpu) events
