-- The machine as plain data (RP2350 Datasheet, chapter 5, Bootrom; the profile is this project's
-- own).
use Rattle.std.specs.Prelude.{ℕ, List, Option}
use Rattle.pico_board.specs.declared.boot.Cpu.{Cpu}
use Rattle.pico_board.specs.Content.{Content}
use Rattle.pico_board.specs.Cuts.{Cut}
use Rattle.part_table.specs.declared.Target.{Target}
use Rattle.uf2_place.specs.declared.block.Uf2.{Uf2}
use Rattle.image_def.specs.declared.started.Started.{Started}
use Rattle.slot_choice.specs.declared.choice.Choice.{Choice}
use Rattle.boot_rules.specs.declared.tables.Found.{Found}

-- the current download: its target, and the list of blocks that it has taken
pub record Placing : Type 0 where
  pub target : Target
  pub blocks : List Uf2

-- what BOOTSEL serves a host with: the table that was found at entry with its slot, the current
-- download where there is one, and the bytes of the SRAM
pub record Host : Type 0 where
  pub found : Option Found
  pub placing : Option Placing
  pub ram : List ℕ

-- what runs: the choice that was started from flash, or an image in RAM
pub data Program : Type 0 where
  FromFlash : (choice : Choice) → Program
  FromRam : (image : Started) → Program

-- what the machine is doing
pub data StateView : Type 0 where
  Off : StateView
  InBootsel : (host : Host) → StateView
  Running : (program : Program) → StateView

-- a machine: the content of its board, the armed cut, the processor, and what it is doing. The cut
-- is None where the board does not tell it, and Some None where none is armed
pub record MachineView : Type 0 where
  pub content : Content
  pub armed : Option (Option Cut)
  pub cpu : Cpu
  pub place : StateView
