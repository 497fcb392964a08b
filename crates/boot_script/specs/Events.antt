-- The events of a script as plain data.
use Rattle.std.specs.Prelude.{ℕ, Bool, List, ◌≡◌, ◌<◌, ◌^◌, ⊤, length}
use Rattle.pico_board.specs.Cuts.{IsPattern}
use Rattle.pico_board.specs.declared.boot.BootKind.{BootKind}
use Rattle.pico_board.specs.declared.boot.BootKind.TheVariants.{Normal, Bootsel, Update}
use Rattle.boot_script.specs.declared.event.Event.{Event}
use Rattle.boot_script.specs.declared.event.Event.TheVariants as rust

-- what happens to a board in a script
pub data EventView : Type 0 where
  End : EventView
  Command : (command payload : List ℕ) → EventView
  Uf2 : (block : List ℕ) → EventView
  Cut : (left : ℕ) → (within : Bool) → (pattern : List ℕ) → EventView
  PowerOn : EventView
  Reset : (kind : BootKind) → EventView
  Buy : EventView

-- an event as plain data
abbrev pub event_from : Event → EventView
event_from rust.End = End
event_from (rust.Command command payload) = Command command.now payload.now
event_from (rust.Uf2 block) = Uf2 block.now
event_from (rust.Cut left within pattern) = Cut left within pattern.now
event_from rust.PowerOn = PowerOn
event_from (rust.Reset kind) = Reset kind
event_from rust.Buy = Buy

-- the base of a reset, which only an update boot has
abbrev pub base_of : BootKind → ℕ
base_of Normal = 0
base_of Bootsel = 0
base_of (Update base) = base

-- the parts of an event have the sizes of its record
abbrev pub IsWellFormed : EventView → Type 0
IsWellFormed End = ⊤
IsWellFormed (Command command payload) = (length command ≡ 32) × (length payload < 2 ^ 32)
IsWellFormed (Uf2 block) = length block ≡ 512
IsWellFormed (Cut left within pattern) = (left < 2 ^ 32) × IsPattern within pattern
IsWellFormed PowerOn = ⊤
IsWellFormed (Reset kind) = base_of kind < 2 ^ 32
IsWellFormed Buy = ⊤

-- an event that may be written to a script, and that the machine serves: its payload is shorter
-- than a script may be, and its pattern is as a bench asks
abbrev pub IsWritableEvent : EventView → Type 0
IsWritableEvent End = ⊤
IsWritableEvent (Command command payload) = length payload < 2 ^ 26
IsWritableEvent (Uf2 block) = ⊤
IsWritableEvent (Cut left within pattern) = IsPattern within pattern
IsWritableEvent PowerOn = ⊤
IsWritableEvent (Reset kind) = ⊤
IsWritableEvent Buy = ⊤
