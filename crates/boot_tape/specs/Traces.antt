-- The trace of a script. It has the steps that a machine completes while it plays the script's
-- events, each with the content before it. It has the content at the end too, and what is noted of
-- each event.
use Rattle.std.specs.Prelude.{◌≡◌, ℕ, ◌+◌, if◌then◌else◌, List, [], ◌∷◌, ◌++◌, length, map, replicate, take, Option, Some, None}
use Rattle.pico_board.specs.declared.Step.{Step}
use Rattle.pico_board.specs.declared.boot.Cpu.{Cpu}
use Rattle.pico_board.specs.declared.boot.BootKind.{BootKind}
use Rattle.pico_board.specs.declared.boot.BootKind.TheVariants.{Normal}
use Rattle.pico_board.specs.Content.{Content}
use Rattle.pico_board.specs.Cuts.{Cut}
use Rattle.pico_board.specs.Steps.{after}
use Rattle.image_def.specs.declared.started.Started.{Started}
use Rattle.boot_script.specs.Events.{EventView}
use Rattle.text_lines.specs.declared.outcome.EventOutcome.{EventOutcome}
use Rattle.boot_machine.specs.Boots.{Effect}
use Rattle.boot_machine.specs.Machines.{MachineView, Program, StateView, Off, InBootsel, Running, FromFlash, FromRam}
use Rattle.boot_machine.specs.Moves.{armed_for, buy_effect, effect}
use Rattle.boot_machine.specs.Serving.{ServedEvent, is_hosted, served_event}
use Rattle.boot_machine.specs.Plays.{moved_machine, played, powerless, told_cut}
use Rattle.boot_sweep.specs.Moving.{MoveView}
use Rattle.boot_tape.specs.declared.notes.Note.{Note}
use Rattle.boot_tape.specs.CutMoves.{cut_moves}
use Rattle.boot_tape.specs.declared.notes.Behind.{Behind}
use Rattle.boot_tape.specs.declared.notes.Behind.TheVariants as behinds

-- a step that a machine completes, and the content before it
pub record Traced : Type 0 where
  pub before : Content
  pub step : Step

-- the steps, which are done one after another from the content c on
abbrev pub traced_from : Content → List Step → List Traced
traced_from c [] = []
traced_from c (step ∷ steps) =
    record { before = c; step = step } ∷ traced_from (after c step) steps

-- the steps that complete where this cut is armed: all those before the one that it cuts
abbrev pub completed : Option Cut → List Step → List Step
completed None steps = steps
completed (Some cut) steps = take cut.left steps

-- the steps that a machine completes in an event
abbrev pub event_steps : MachineView → EventView → List Step
event_steps m event =
    completed (told_cut (armed_for m.armed event)) (effect m event).steps

-- the steps that a machine completes in events, one after another
abbrev pub traced : MachineView → List EventView → List Traced
traced m [] = []
traced m (event ∷ events) =
    traced_from m.content (event_steps m event)
    ++ traced (moved_machine m event).next events

-- the number of the event that does each of these steps, where the first event has the number k
abbrev pub step_numbers : ℕ → MachineView → List EventView → List ℕ
step_numbers k m [] = []
step_numbers k m (event ∷ events) =
    replicate (length (event_steps m event)) k
    ++ step_numbers (k + 1) (moved_machine m event).next events

-- what a machine does in an event: the steps that it completes, and then the one that the armed cut
-- cuts, if it falls due
abbrev pub event_moves : MachineView → EventView → List MoveView
event_moves m event =
    (cut_moves (told_cut (armed_for m.armed event)) (effect m event).steps).moves

-- what a machine does in events, one after another
abbrev pub moves_in : MachineView → List EventView → List MoveView
moves_in m [] = []
moves_in m (event ∷ events) =
    event_moves m event ++ moves_in (moved_machine m event).next events

-- What BOOTSEL does for a host's event, before a boot that the event asks for. Another event is not
-- served, nor is one that comes elsewhere.
abbrev pub served_in : Content → Cpu → StateView → EventView → Option ServedEvent
served_in c cpu Off event = None
served_in c cpu (Running program) event = None
served_in c cpu (InBootsel host) event =
    if is_hosted event then Some (served_event c cpu host event) else None

abbrev pub served_steps : Option ServedEvent → List Step
served_steps None = []
served_steps (Some s) = s.steps

-- the steps that a host's event does itself; those of a boot that it asks for are not its own
abbrev pub own_steps : MachineView → EventView → List Step
own_steps m event = served_steps (served_in m.content m.cpu m.place event)

-- what a machine does of these steps
abbrev pub own_moves : MachineView → EventView → List MoveView
own_moves m event = (cut_moves (told_cut (armed_for m.armed event)) (own_steps m event)).moves

-- what comes of what was served, or else of the event
abbrev pub outcome_before : Option ServedEvent → Effect → EventOutcome
outcome_before None e = e.outcome
outcome_before (Some s) e = s.outcome

-- what comes of an event where no power is lost, before a boot that a host's event asks for
abbrev pub came_of : MachineView → EventView → EventOutcome
came_of m event =
    outcome_before (served_in m.content m.cpu m.place event) (effect m event)

-- the image that runs
abbrev pub image_of : Program → Started
image_of (FromFlash choice) = choice.image
image_of (FromRam image) = image

-- what makes the moves of an event that is not served: power that comes back boots, and so does a
-- reset; what runs buys itself
abbrev pub behind_other : StateView → EventView → Behind
behind_other Off EventView.PowerOn = behinds.Boot Normal
behind_other Off event = behinds.Nothing
behind_other (InBootsel host) (EventView.Reset kind) = behinds.Boot kind
behind_other (InBootsel host) event = behinds.Nothing
behind_other (Running program) (EventView.Reset kind) = behinds.Boot kind
behind_other (Running program) EventView.Buy = behinds.Buy (image_of program)
behind_other (Running program) event = behinds.Nothing

-- the boot that a host's event asks for, or none
abbrev pub behind_asked : Option BootKind → Behind
behind_asked None = behinds.Nothing
behind_asked (Some kind) = behinds.Boot kind

abbrev pub behind_served : Option ServedEvent → StateView → EventView → Behind
behind_served None place event = behind_other place event
behind_served (Some s) place event = behind_asked s.boot

-- what makes the moves of an event that are not a host's own
abbrev pub behind : MachineView → EventView → Behind
behind m event = behind_served (served_in m.content m.cpu m.place event) m.place event

-- what runs buys itself in an event: these are the steps of the buy
pub record IsBuy (m : MachineView) (event : EventView) (image : Started) : Type 0 where
  pub program : Program
  pub runs : m.place ≡ Running program
  pub same : image_of program ≡ image
  pub own : own_steps m event ≡ []
  pub steps : (effect m event).steps ≡ (buy_effect m.content m.cpu program).steps

-- what is noted of an event
abbrev pub note_of : MachineView → EventView → Note
note_of m event = record {
  outcome = came_of m event;
  own = length (own_moves m event);
  behind = behind m event;
  moves = length (event_moves m event);
  whole = (cut_moves (told_cut (armed_for m.armed event)) (effect m event).steps).whole;
}

-- what is noted of events, one after another
abbrev pub noted : MachineView → List EventView → List Note
noted m [] = []
noted m (event ∷ events) = note_of m event ∷ noted (moved_machine m event).next events

-- what a machine completes in events, the number of the event that does each of these steps, all
-- that it does with the steps that are cut, what is noted of each event, and the content that the
-- events leave
pub record Trace : Type 0 where
  pub done : List Traced
  pub numbers : List ℕ
  pub moves : List MoveView
  pub notes : List Note
  pub last : Content

-- Trace(c, cpu, events): of a machine that starts without power on the content c
abbrev pub trace : Content → Cpu → List EventView → Trace
trace c cpu events = record {
  done = traced (powerless c cpu) events;
  numbers = step_numbers 0 (powerless c cpu) events;
  moves = moves_in (powerless c cpu) events;
  notes = noted (powerless c cpu) events;
  last = (played (powerless c cpu) events).last.content;
}

-- the steps alone
abbrev pub trace_steps : List Traced → List Step
trace_steps done = map (λ (t : Traced). t.step) done
