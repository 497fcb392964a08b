-- The numbers of a machine and of an event are in the ranges that a board, the SRAM and a script
-- have.
use Rattle.std.specs.Prelude.{◌≡◌, ◌<◌, ⊤, All, length}
use Rattle.std.specs.List.{AllByRecursion}
use Rattle.pico_board.specs.Content.{IsContent}
use Rattle.pico_board.specs.Steps.{IsStepIn}
use Rattle.ram_start.specs.Sram.{IsSram}
use Rattle.boot_script.specs.Events.{EventView}
use Rattle.boot_machine.specs.Machines.{MachineView, StateView, InBootsel, Off, Running}
use Rattle.boot_machine.specs.Moves.{effect}

-- in BOOTSEL the SRAM of the host has the size and the bytes of an SRAM
abbrev pub HasSram : StateView → Type 0
HasSram Off = ⊤
HasSram (InBootsel host) = IsSram host.ram
HasSram (Running program) = ⊤

-- a command has 32 bytes, and it and a UF2 block have bytes alone
abbrev pub HasHostBytes : EventView → Type 0
HasHostBytes EventView.End = ⊤
HasHostBytes (EventView.Command command payload) = (length command ≡ 32)
    × All (λ b. b < 256) command
HasHostBytes (EventView.Uf2 block) = All (λ b. b < 256) block
HasHostBytes (EventView.Cut left within pattern) = ⊤
HasHostBytes EventView.PowerOn = ⊤
HasHostBytes (EventView.Reset kind) = ⊤
HasHostBytes EventView.Buy = ⊤

-- the machine's content, its SRAM, the event's bytes, and the steps that the event does
pub record AreInRange (m : MachineView) (event : EventView) : Type 0 where
  pub content : IsContent m.content
  pub sram : HasSram m.place
  pub bytes : HasHostBytes event
  pub steps : AllByRecursion (IsStepIn (length m.content.flash)) (effect m event).steps
