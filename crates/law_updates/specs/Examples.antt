-- Worked examples of boots, and of events of a host.
use Rattle.std.specs.Prelude.{Some, None, ℕ, ◌+◌, ◌*◌, true, List, [], ◌∷◌, ◌++◌, replicate}
use Rattle.byteorder.specs.Endian.{little_bytes}
use Rattle.pico_board.specs.declared.boot.Cpu.TheVariants.{Arm}
use Rattle.pico_board.specs.declared.boot.BootKind.TheVariants.{Update}
use Rattle.pico_board.specs.declared.Step.{Step}
use Rattle.pico_board.specs.declared.step.Step.TheVariants.{Erase, Program, Raise}
use Rattle.pico_board.specs.Content.{Content, flash_base}
use Rattle.pico_board.specs.Steps.{after_all}
use Rattle.uf2_place.specs.Examples.{arm_uf2_block, first_slot, uf2_bytes}
use Rattle.ram_start.specs.Sram.{zero_ram}
use Rattle.slot_choice.specs.declared.choice.Choice.{Choice}
use Rattle.slot_choice.specs.Examples.{window_at}
use Rattle.worked_flashes.specs.Choices.{starts_alone}
use Rattle.boot_rules.specs.Tables.{table_in}
use Rattle.boot_script.specs.Events.{EventView, PowerOn}
use Rattle.boot_machine.specs.Machines.{Host, MachineView, Running, FromFlash}
use Rattle.check_laws.specs.OwnLaws.{BootMade, BuyMade}
use Rattle.law_boot_cuts.specs.Examples.{rows_image, rows_sector, three_images, three_raises, two_trials}
use Rattle.law_boot_cuts.specs.Running.{buys}

-- the update of the last of three images, of which the others list another row, and what it starts
abbrev pub an_update : BootMade
an_update =
    record { before = three_images 0x0c3 0 0 0; kind = Update 0x10004000; done = three_raises }

abbrev pub last_choice : Choice
last_choice = starts_alone true (rows_image (window_at 0x4000 0x1000) 2 0x0c0)

-- the command that writes so many OTP rows from this one on, with a word for each
abbrev pub row_write : ℕ → ℕ → List ℕ → EventView
row_write row count words =
    EventView.Command (0x0b ∷ 0xd1 ∷ 0x1f ∷ 0x43 ∷ 1 ∷ 0 ∷ 0 ∷ 0 ∷ 0x0d ∷ 5 ∷ 0 ∷ 0
    ∷ little_bytes 4 (4 * count)
    ++ (little_bytes 2 row ++ (little_bytes 2 count ++ replicate 12 0))) words

-- the first of three images, a trial image, runs after an update
abbrev pub trial_choice : Choice
trial_choice =
    starts_alone true (record (rows_image (window_at 0x2000 0x1000) 0 0x0c0) { trial = true })

abbrev pub runs_trial : MachineView
runs_trial = record {
  content = two_trials;
  armed = Some None;
  cpu = Arm;
  place = Running (FromFlash trial_choice);
}

-- it buys itself
abbrev pub a_buy : BuyMade
a_buy = record { before = two_trials; choice = trial_choice; done = buys runs_trial trial_choice }

-- the first of three blocks for an Arm image
abbrev pub first_block : EventView
first_block = EventView.Uf2 (uf2_bytes 256 0x10000000 0 3)

-- BOOTSEL as it is entered on a content, in a download of which this block is there
abbrev pub begun_host : Content → Host
begun_host c = record {
  found = table_in c;
  placing = Some (record { target = first_slot; blocks = arm_uf2_block 0 0x10000000 [] ∷ [] });
  ram = zero_ram;
}

-- the command that erases a sector, and the one that writes a page
abbrev pub sector_erase : ℕ → EventView
sector_erase sector =
    EventView.Command (0x0b ∷ 0xd1 ∷ 0x1f ∷ 0x43 ∷ 2 ∷ 0 ∷ 0 ∷ 0 ∷ 3 ∷ 8 ∷ 0 ∷ 0
    ∷ little_bytes 4 0
    ++ (little_bytes 4 (flash_base + 4096 * sector) ++ (little_bytes 4 4096 ++ replicate 8 0))) []

abbrev pub page_write : ℕ → List ℕ → EventView
page_write page bytes =
    EventView.Command (0x0b ∷ 0xd1 ∷ 0x1f ∷ 0x43 ∷ 3 ∷ 0 ∷ 0 ∷ 0 ∷ 5 ∷ 8 ∷ 0 ∷ 0
    ∷ little_bytes 4 256
    ++ (little_bytes 4 (flash_base + 256 * page) ++ (little_bytes 4 256 ++ replicate 8 0))) bytes

-- an erase, a page in its sector, and a row
abbrev pub small_update : List EventView
small_update =
    PowerOn ∷ sector_erase 1 ∷ page_write 16 (replicate 256 0)
    ∷ row_write 0x0c0 1 (1 ∷ 0 ∷ 0 ∷ 0 ∷ []) ∷ []

-- a board of two sectors, the first with an image that lists row 0x0c3; what it is once the page is
-- written, and once a boot behind that has raised the row's triple; and once the page is written
-- anew behind that
abbrev pub two_sectors : Content
two_sectors = record {
  flash = rows_sector 1 0x0c3 ++ replicate 4096 255;
  otp = replicate 4096 0;
}

abbrev pub page_steps : List Step
page_steps = Erase 1 ∷ Program 16 (replicate 256 0) ∷ []

abbrev pub page_written : Content
page_written = after_all two_sectors page_steps

abbrev pub boot_raises : List Step
boot_raises = Raise 0x0c3 1 ∷ Raise 0x0c4 1 ∷ Raise 0x0c5 1 ∷ []

abbrev pub row_raised : Content
row_raised = after_all page_written boot_raises

abbrev pub written_again : Content
written_again = after_all row_raised page_steps
