-- What events do to a machine whose board tells its armed cut, as a function.
use Rattle.std.specs.Prelude.{◌≡◌, ◌<◌, ⊤, All, if◌then◌else◌, List, [], ◌∷◌, Option, Some, None}
use Rattle.pico_board.specs.declared.boot.Cpu.{Cpu}
use Rattle.pico_board.specs.Content.{Content}
use Rattle.pico_board.specs.Cuts.{Cut, CutOutcome, cut_steps}
use Rattle.boot_script.specs.Events.{EventView, Cut as ArmsCut}
use Rattle.text_lines.specs.declared.outcome.EventOutcome.{EventOutcome}
use Rattle.text_lines.specs.declared.outcome.EventOutcome.TheVariants.{PowerLost}
use Rattle.boot_machine.specs.Machines.{MachineView, Off}
use Rattle.boot_machine.specs.Boots.{Effect}
use Rattle.boot_machine.specs.Moves.{effect, armed_for}

-- what comes of an event: the machine afterwards, and the outcome
pub record Moved : Type 0 where
  pub next : MachineView
  pub outcome : EventOutcome

-- the steps of the event were done or cut, as the board told
abbrev pub moved_as : MachineView → Effect → CutOutcome → Moved
moved_as m e o = record {
  next = record {
    content = o.content;
    armed = Some o.armed;
    cpu = m.cpu;
    place = if o.answer then e.place else Off;
  };
  outcome = if o.answer then e.outcome else PowerLost;
}

-- the armed cut that a board tells; the default of one that tells none is that none is armed
abbrev pub told_cut : Option (Option Cut) → Option Cut
told_cut None = None
told_cut (Some cut) = cut

-- the event on a machine whose board tells its armed cut
unfoldable pub moved_machine : MachineView → EventView → Moved
moved_machine m event =
    moved_as m (effect m event)
    (cut_steps (effect m event).steps (told_cut (armed_for m.armed event)) m.content)

-- what comes of a list of events: the machine afterwards, and their outcomes
pub record Played : Type 0 where
  pub last : MachineView
  pub outcomes : List EventOutcome

-- the outcome of an event before those of the others
abbrev pub outcome_first : EventOutcome → Played → Played
outcome_first outcome others = record { last = others.last; outcomes = outcome ∷ others.outcomes }

-- the events, one after another, on a machine whose board tells its armed cut
abbrev pub played : MachineView → List EventView → Played
played m [] = record { last = m; outcomes = [] }
played m (event ∷ events) =
    outcome_first (moved_machine m event).outcome (played (moved_machine m event).next events)

-- a machine without power, on a board that tells that no cut is armed
abbrev pub powerless : Content → Cpu → MachineView
powerless c cpu = record { content = c; armed = Some None; cpu = cpu; place = Off }

-- the pattern of a cut is of bytes
abbrev pub HasPatternBytes : Option Cut → Type 0
HasPatternBytes None = ⊤
HasPatternBytes (Some cut) = All (λ b. b < 256) cut.pattern

-- the board tells its armed cut, and that and the flash are of bytes
pub record IsTelling (m : MachineView) : Type 0 where
  pub cut : Option Cut
  pub told : m.armed ≡ Some cut
  pub pattern : HasPatternBytes cut
  pub flash : All (λ b. b < 256) m.content.flash

-- the pattern of a cut that an event arms is of bytes
abbrev pub IsOfBytes : EventView → Type 0
IsOfBytes (ArmsCut left within pattern) = All (λ b. b < 256) pattern
IsOfBytes event = ⊤
