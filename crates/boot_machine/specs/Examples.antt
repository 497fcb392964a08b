-- Worked examples of what events do in each state.
use Rattle.std.specs.Prelude.{ℕ, Bool, true, false, List, [], ◌∷◌, replicate, Some, None, Option}
use Rattle.image_def.specs.Examples.{started_in}
use Rattle.worked_flashes.specs.Images.{arm_type, window_with}
use Rattle.pico_board.specs.Content.{Content}
use Rattle.worked_flashes.specs.Tables.{guarded_table}
use Rattle.slot_choice.specs.Examples.{window_at}
use Rattle.worked_flashes.specs.Flashes.{arm_slot, bare_slot}
use Rattle.boot_rules.specs.Examples.{arm_table, found_in_slot, small_content}
use Rattle.slot_choice.specs.declared.choice.Choice.{Choice}
use Rattle.pico_board.specs.declared.boot.Cpu.TheVariants.{Arm}
use Rattle.part_table.specs.declared.Target.{Target}
use Rattle.picoboot_cmd.specs.Commands.{written_command as command_bytes}
use Rattle.picoboot_cmd.specs.Examples.{erase_command}
use Rattle.info_reply.specs.Examples.{info}
use Rattle.ram_start.specs.Sram.{with_bytes_at, zero_ram}
use Rattle.boot_script.specs.Events.{EventView}
use Rattle.pico_board.specs.Cuts.{Cut}
use Rattle.slot_choice.specs.declared.unit.Member.TheVariants.{B}
use Rattle.boot_rules.specs.declared.tables.Found.{Found}
use Rattle.uf2_place.specs.declared.block.Uf2.{Uf2}
use Rattle.text_lines.specs.declared.outcome.CommandAnswer.{CommandAnswer}
use Rattle.text_lines.specs.declared.outcome.CommandAnswer.TheVariants.{Done, Refused}
use Rattle.text_lines.specs.declared.outcome.EventOutcome.{EventOutcome}
use Rattle.text_lines.specs.declared.outcome.EventOutcome.TheVariants.{Command}
use Rattle.boot_machine.specs.Machines.{Host, InBootsel, MachineView, Off, StateView, Placing}
use Rattle.boot_machine.specs.Serving.{with_ram}
use Rattle.worked_flashes.specs.Flashes.{one_sector, bare_sector}
use Rattle.worked_flashes.specs.Choices.{running_trial}
use Rattle.worked_flashes.specs.Choices.{starts_alone}
use Rattle.image_check.specs.Changes.{bought}

-- an Arm machine on this content, whose board tells that no cut is armed
abbrev pub machine_at : Content → StateView → MachineView
machine_at c place = record { content = c; armed = Some None; cpu = Arm; place = place }

-- an erased flash of two sectors
abbrev pub erased_flash : Content
erased_flash = one_sector bare_sector

-- an updated start of an image, a trial or not, in the B of a pair
abbrev pub running : Bool → Choice
running trial = record {
  image = record (started_in (window_at 0x20000 0x1e000) 0x100 0x104 0x10000201) {
    limit = 0x20000000;
    version = record { major = 1; minor = 2 };
    rollback = Some 3;
    rows = record { items = 0x0c0 ∷ [] };
    trial = trial;
  };
  member = B;
  other = Some (window_at 0x2000 0x1e000);
  updated = true;
}

-- BOOTSEL with this table, this download, and an SRAM of eight bytes
abbrev pub host_with : Option Found → Option Placing → Host
host_with found placing =
    record { found = found; placing = placing; ram = 1 ∷ 2 ∷ 3 ∷ 4 ∷ 5 ∷ 6 ∷ 7 ∷ 8 ∷ [] }

abbrev pub idle : Host
idle = host_with None None

-- sectors 32 to 61 as a target which stays or not
abbrev pub slot_two : Bool → Target
slot_two stay = record { window = window_at 0x20000 0x1e000; gated = true; stay = stay }

-- a block of these flags, address, number, count and family
abbrev pub uf2_block : ℕ → ℕ → ℕ → ℕ → ℕ → Uf2
uf2_block flags address number count family = record {
  flags = flags;
  address = address;
  number = number;
  count = count;
  family = family;
  page = replicate 256 0x55;
}

-- the first of two blocks of rp2350-arm-s, and the second
abbrev pub arm_uf2_of_two : ℕ → ℕ → Uf2
arm_uf2_of_two address number = uf2_block 0x2000 address number 2 0xe48bff59

-- a download into that target that has taken the first one
abbrev pub begun_download : Placing
begun_download =
    record { target = slot_two false; blocks = arm_uf2_of_two 0x10001000 0 ∷ [] }

-- a download is current
abbrev pub busy : Host
busy = host_with None (Some begun_download)

-- 32 bytes that are no command
abbrev pub no_command : List ℕ
no_command = replicate 32 0

-- BOOTSEL with a table in which sectors 0 to 31 and those from 62 on may not be written
abbrev pub guarded : Host
guarded = host_with (Some (found_in_slot 0 guarded_table)) None

-- BOOTSEL with the table of `guarded` in slot 1, and with the download that was begun
abbrev pub guarded_busy : Host
guarded_busy = host_with (Some (found_in_slot 1 guarded_table)) (Some begun_download)

-- sectors 2 to 31 as a target
abbrev pub slot_one : Target
slot_one = record { window = window_at 0x2000 0x1e000; gated = false; stay = false }

-- a target of one sector that starts here
abbrev pub target_at : ℕ → Target
target_at start = record { window = window_at start 0x1000; gated = false; stay = false }

-- the SRAM holds an image of 28 bytes that starts at 0x20000021
abbrev pub with_image : Host → Host
with_image host = with_ram host (window_with 0x20000021 (arm_type ∷ []) 0)

-- a flash of 24 KiB with the table of the small pair, and an image of version 1.0 in A alone
abbrev pub image_in_a : Content
image_in_a = small_content 0 (arm_slot 0x10000) bare_slot

-- BOOTSEL as it is entered on `image_in_a`
abbrev pub pair_host : Host
pair_host = record {
  found = Some (found_in_slot 0 arm_table);
  placing = None;
  ram = zero_ram;
}

-- the 32 bytes of an info command for the target of a family
abbrev pub asks_target : ℕ → List ℕ
asks_target family = command_bytes (info 16 2 family)

-- BOOTSEL as it is entered on an erased flash, and with these first bytes in the SRAM
abbrev pub fresh_host : Host
fresh_host = record { found = None; placing = None; ram = zero_ram }

abbrev pub image_bytes : List ℕ
image_bytes = window_with 0x20000021 (arm_type ∷ []) 0

abbrev pub loaded_host : Host
loaded_host = with_ram fresh_host (with_bytes_at zero_ram 0 image_bytes)

-- an Arm machine in BOOTSEL on the erased flash, with this cut armed, or none
abbrev pub armed_with : Option Cut → MachineView
armed_with cut =
    record { content = erased_flash; armed = Some cut; cpu = Arm; place = InBootsel idle }

-- an Arm machine without power, with this content and no cut armed
abbrev pub lost_with : Content → MachineView
lost_with c = record { content = c; armed = Some None; cpu = Arm; place = Off }

-- the command that erases its two sectors
abbrev pub erase_both : EventView
erase_both = EventView.Command (command_bytes (erase_command 0x10000000 0x2000)) []

-- the start of the trial image in the whole flash, once it was bought
abbrev pub bought_trial : Choice
bought_trial = starts_alone false (bought running_trial.image)

-- the outcome of a command with token 1: of this answer; done without a reply; refused with a status
abbrev pub told_command : ℕ → CommandAnswer → EventOutcome
told_command id answer = Command (record { id = id; token = 1; answer = answer })

abbrev pub told_done : ℕ → EventOutcome
told_done id = told_command id Done

abbrev pub told_refused : ℕ → ℕ → EventOutcome
told_refused id status = told_command id (Refused status)
