-- What BOOTSEL does for a host: the part of an event before the boot that it may ask for.
-- Source: RP2350 Datasheet, chapter 5 (Bootrom); the info replies, the RAM commands and
-- the rules on downloads are this project's own.
use Rattle.std.specs.Prelude.{ℕ, ◌+◌, ◌==◌, ◌&&◌, Bool, true, false, nat_eq, if◌then◌else◌, is_some, List, [], ◌∷◌, ◌++◌, length, slice_index, Option, Some, None, Result, Ok, Err, option_map}
use Rattle.std.specs.Set.{is_member}
use Rattle.pico_board.specs.declared.Step.{Step}
use Rattle.pico_board.specs.declared.boot.Cpu.{Cpu}
use Rattle.pico_board.specs.declared.boot.BootKind.{BootKind}
use Rattle.pico_board.specs.declared.boot.BootKind.TheVariants.{Normal, Update}
use Rattle.pico_board.specs.Content.{Content, flash_base}
use Rattle.pico_board.specs.Steps.{after_all}
use Rattle.otp_roll.specs.declared.flags.TheConstants.{BOOT_FLAGS}
use Rattle.otp_roll.specs.Flags.{slot_size}
use Rattle.part_table.specs.declared.Table.{Table}
use Rattle.part_table.specs.declared.Target.{Target}
use Rattle.uf2_place.specs.declared.block.Uf2.{Uf2}
use Rattle.uf2_place.specs.declared.block.Uf2Fault.{Uf2Fault}
use Rattle.uf2_place.specs.declared.answer.Accepted.{Accepted}
use Rattle.uf2_place.specs.declared.answer.Accepted.TheVariants.{Skipped, Again, Taken, Done}
use Rattle.uf2_place.specs.declared.answer.PlaceFault.{PlaceFault}
use Rattle.uf2_place.specs.declared.answer.PlaceFault.TheVariants.{NoTarget, Outside, NotPermitted, PowerLost as Lost}
use Rattle.pico_board.specs.declared.board.PowerLost.{PowerLost}
use Rattle.uf2_place.specs.declared.answer.Ruling.{Ruling}
use Rattle.uf2_place.specs.declared.answer.Ruling.TheVariants.{Answered, Begins, Continues}
use Rattle.uf2_place.specs.Blocks.{uf2_of}
use Rattle.uf2_place.specs.Placement.{grown, is_whole_download, numbers_of}
use Rattle.uf2_place.specs.Rulings.{aimed, begun, is_skipped}
use Rattle.picoboot_cmd.specs.declared.cmd.Cmd.{Cmd}
use Rattle.picoboot_cmd.specs.declared.cmd.CmdFault.{CmdFault}
use Rattle.picoboot_cmd.specs.Commands.{command_in}
use Rattle.picoboot_cmd.specs.Checks.{first_failing}
use Rattle.picoboot_cmd.specs.Served.{ServedCommand as Command, served_on}
use Rattle.info_reply.specs.declared.kinds.TheConstants.{INFO}
use Rattle.info_reply.specs.declared.ask.Ask.{Ask}
use Rattle.info_reply.specs.declared.ask.Ask.TheVariants as asks
use Rattle.info_reply.specs.declared.ask.Device.{Device}
use Rattle.info_reply.specs.Asks.{ask_in}
use Rattle.info_reply.specs.Infos.{info_of}
use Rattle.info_reply.specs.Statuses.{info_checks}
use Rattle.block_codec.specs.Words.{bytes_of}
use Rattle.ram_start.specs.Serving.{RamServed, is_ram_command, ram_command}
use Rattle.image_def.specs.declared.started.Started.{Started}
use Rattle.boot_rules.specs.declared.tables.Found.{Found}
use Rattle.boot_rules.specs.Targets.{is_executable, target_of}
use Rattle.boot_script.specs.Events.{EventView}
use Rattle.boot_machine.specs.declared.served.Served.{Served}
use Rattle.boot_machine.specs.Machines.{Host, Placing, StateView, InBootsel, Running, FromRam}
use Rattle.boot_machine.specs.Boots.{Effect, booted}
use Rattle.text_lines.specs.Outcomes.{accepted_outcome, command_outcome, ram_start_outcome, refused_outcome}
use Rattle.text_lines.specs.declared.outcome.BlockOutcome.TheVariants.{BadForm}
use Rattle.text_lines.specs.declared.outcome.EventOutcome.{EventOutcome}
use Rattle.text_lines.specs.declared.outcome.EventOutcome.TheVariants as event_outcomes

-- what an event does before the boot that it asks for, if it asks for one
pub record ServedEvent : Type 0 where
  pub steps : List Step
  pub place : StateView
  pub outcome : EventOutcome
  pub boot : Option BootKind

-- nothing is done but an answer
abbrev pub only_told : Host → EventOutcome → ServedEvent
only_told host outcome =
    record { steps = []; place = InBootsel host; outcome = outcome; boot = None }

abbrev pub table_of_found : Option Found → Option Table
table_of_found found = option_map (λ (f : Found). f.table) found

-- the slot of the table that was found, 0 where there is none
abbrev pub table_slot_of : Option Found → ℕ
table_slot_of None = 0
table_slot_of (Some f) = f.slot

-- the host with other bytes in the SRAM
abbrev pub with_ram : Host → List ℕ → Host
with_ram host ram = record { found = host.found; placing = host.placing; ram = ram }

abbrev pub with_placing : Host → Option Placing → Host
with_placing host placing = record { found = host.found; placing = placing; ram = host.ram }

-- what is told of the board
abbrev pub device_of : Content → Cpu → Device
device_of c cpu = record {
  flash_len = length c.flash;
  cpu = cpu;
  flags = slice_index c.otp BOOT_FLAGS;
  slot = slot_size c.otp (length c.flash);
}

-- the target that an info command asks for, by the table that is kept
abbrev pub asked_target : Content → Option Table → Cpu → Option Ask → Option Target
asked_target c t cpu None = None
asked_target c t cpu (Some asks.Table) = None
asked_target c t cpu (Some (asks.Target family)) = target_of c t cpu family
asked_target c t cpu (Some asks.Device) = None
asked_target c t cpu (Some (asks.Partition i)) = None

-- the words of the reply, where it is known what is asked for
abbrev pub info_words : Content → Cpu → Option Found → Option Ask → List ℕ
info_words c cpu found None = []
info_words c cpu found (Some ask) =
    info_of (device_of c cpu) (table_slot_of found) (table_of_found found)
    (asked_target c (table_of_found found) cpu (Some ask)) ask

-- an info command: its status and its reply
unfoldable pub info_status : Content → Cpu → Option Found → Cmd → List ℕ → ℕ
info_status c cpu found cmd payload =
    first_failing (info_checks (device_of c cpu) (table_slot_of found) (table_of_found found)
    (asked_target c (table_of_found found) cpu (ask_in cmd)) cmd payload)

unfoldable pub info_reply : ℕ → Content → Cpu → Option Found → Cmd → List ℕ
info_reply status c cpu found cmd =
    if status == 0 then bytes_of (info_words c cpu found (ask_in cmd)) else []

abbrev pub info_outcome : ℕ → Content → Cpu → Option Found → Cmd → EventOutcome
info_outcome status c cpu found cmd =
    command_outcome cmd status (info_reply status c cpu found cmd)

abbrev pub serves_info : Content → Cpu → Host → Cmd → List ℕ → ServedEvent
serves_info c cpu host cmd payload =
    only_told host (info_outcome (info_status c cpu host.found cmd payload) c cpu host.found cmd)

-- a RAM command: it stores and reads, or starts an image, which drops the download
abbrev pub ram_place : Host → Option Started → List ℕ → StateView
ram_place host None ram = InBootsel (with_ram host ram)
ram_place host (Some image) ram = Running (FromRam image)

abbrev pub ram_outcome : Cmd → ℕ → List ℕ → Option Started → EventOutcome
ram_outcome cmd status reply None = command_outcome cmd status reply
ram_outcome cmd status reply (Some image) = ram_start_outcome cmd image

abbrev pub ram_result : Host → Cmd → RamServed → ServedEvent
ram_result host cmd r = record {
  steps = [];
  place = ram_place host r.start r.ram;
  outcome = ram_outcome cmd r.status r.reply r.start;
  boot = None;
}

abbrev pub serves_ram : Content → Cpu → Host → Cmd → List ℕ → ServedEvent
serves_ram c cpu host cmd payload =
    ram_result host cmd (ram_command c host.ram cpu (is_some host.placing) cmd payload)

-- a command of the host for the board
abbrev pub host_result : Host → Cmd → Command → ServedEvent
host_result host cmd r = record {
  steps = r.steps;
  place = InBootsel host;
  outcome = command_outcome cmd r.status r.reply;
  boot = r.boot;
}

abbrev pub serves_host : Content → Host → Cmd → List ℕ → ServedEvent
serves_host c host cmd payload =
    host_result host cmd (served_on c (table_of_found host.found)
    (is_some host.placing) cmd payload)

abbrev pub serves : Content → Cpu → Host → Cmd → List ℕ → ServedEvent
serves c cpu host cmd payload =
    if cmd.id == INFO then serves_info c cpu host cmd payload
    else if is_ram_command cmd then serves_ram c cpu host cmd payload
    else serves_host c host cmd payload

-- 32 bytes that may be a command
abbrev pub command_served : Content → Cpu → Host → Result Cmd CmdFault → List ℕ → ServedEvent
command_served c cpu host (Ok cmd) payload = serves c cpu host cmd payload
command_served c cpu host (Err fault) payload = only_told host event_outcomes.BadMagic

-- a block is of the download's family and count
abbrev pub is_like : List Uf2 → Uf2 → Bool
is_like [] b = false
is_like (first ∷ blocks) b = first.family == b.family && first.count == b.count

-- a block that continues a download, which is of other numbers than those taken
abbrev pub carried_on : Option Table → Placing → Uf2 → Ruling
carried_on t placing b =
    if is_member nat_eq (numbers_of placing.blocks) b.number then Answered (Ok Again)
    else aimed t b placing.target (Continues placing.target)

abbrev pub ruled_on : Option Table → Option Target → Option Placing → Uf2 → Ruling
ruled_on t given None b = begun t b given
ruled_on t given (Some placing) b =
    if is_like placing.blocks b then carried_on t placing b else begun t b given

-- the ruling on a block in a flash of n bytes: it is answered at once, or begins or continues a
-- download
abbrev pub ruling_on : ℕ → Option Table → Option Target → Option Placing → Uf2 → Ruling
ruling_on n t given placing b =
    if is_skipped n b then Answered (Ok Skipped) else ruled_on t given placing b

-- the outcome of a block that is refused, or accepted
abbrev pub block_outcome : ℕ → Result Accepted PlaceFault → EventOutcome
block_outcome number (Ok accepted) = accepted_outcome number accepted
block_outcome number (Err fault) = refused_outcome fault

-- the boot that a done download asks for
abbrev pub done_boot : ℕ → Target → Option BootKind
done_boot family target =
    if target.stay then None
    else if is_executable family then Some (Update (flash_base + target.window.start))
    else Some Normal

-- the boot that an accepted block asks for
abbrev pub boot_of_accepted : ℕ → Accepted → Option BootKind
boot_of_accepted family Skipped = None
boot_of_accepted family Again = None
boot_of_accepted family Taken = None
boot_of_accepted family (Done target) = done_boot family target

-- what is answered of what came of a block of this number and family, where power was not lost
abbrev pub block_answer : ℕ → ℕ → Result Accepted PlaceFault → Result Served PowerLost
block_answer number family (Ok accepted) = Ok (record {
  outcome = accepted_outcome number accepted;
  boot = boot_of_accepted family accepted;
})
block_answer number family (Err NoTarget) =
    Ok (record { outcome = refused_outcome NoTarget; boot = None })
block_answer number family (Err Outside) =
    Ok (record { outcome = refused_outcome Outside; boot = None })
block_answer number family (Err NotPermitted) =
    Ok (record { outcome = refused_outcome NotPermitted; boot = None })
block_answer number family (Err Lost) = Err (record {})

-- the target of a family that a block wants
abbrev pub wanted_in : Content → Option Table → Cpu → Option ℕ → Option Target
wanted_in c t cpu None = None
wanted_in c t cpu (Some family) = target_of c t cpu family

-- a block that is taken into a download
abbrev pub taken_in : Host → Target → List Uf2 → Uf2 → List Step → ServedEvent
taken_in host target blocks b steps =
    if is_whole_download blocks then record {
      steps = steps;
      place = InBootsel (with_placing host None);
      outcome = accepted_outcome b.number (Done target);
      boot = done_boot b.family target;
    }
    else record {
      steps = steps;
      place = InBootsel (with_placing host (Some (record { target = target; blocks = blocks })));
      outcome = accepted_outcome b.number Taken;
      boot = None;
    }

abbrev pub blocks_of : Option Placing → List Uf2
blocks_of None = []
blocks_of (Some placing) = placing.blocks

-- a block with its ruling: a block that begins a download is its first, and one that continues it
-- is added behind the others
abbrev pub block_served : Host → Uf2 → Ruling → ServedEvent
block_served host b (Answered answer) = only_told host (block_outcome b.number answer)
block_served host b (Begins target) =
    taken_in host target (b ∷ []) b (grown target [] (b ∷ []))
block_served host b (Continues target) =
    taken_in host target (blocks_of host.placing ++ b ∷ []) b
    (grown target (blocks_of host.placing) (blocks_of host.placing ++ b ∷ []))

abbrev pub places : Content → Cpu → Host → Uf2 → ServedEvent
places c cpu host b =
    block_served host b (ruling_on (length c.flash) (table_of_found host.found)
    (target_of c (table_of_found host.found) cpu b.family) host.placing b)

-- 512 bytes that may be a UF2 block
abbrev pub uf2_served : Content → Cpu → Host → Result Uf2 Uf2Fault → ServedEvent
uf2_served c cpu host (Ok b) = places c cpu host b
uf2_served c cpu host (Err fault) = only_told host (event_outcomes.Block (BadForm fault))

-- the events of a host
abbrev pub is_hosted : EventView → Bool
is_hosted (EventView.Command command payload) = true
is_hosted (EventView.Uf2 block) = true
is_hosted event = false

-- an event for a host
abbrev pub served_event : Content → Cpu → Host → EventView → ServedEvent
served_event c cpu host (EventView.Command command payload) =
    command_served c cpu host (command_in command) payload
served_event c cpu host (EventView.Uf2 block) = uf2_served c cpu host (uf2_of block)
served_event c cpu host event = only_told host event_outcomes.Ignored

-- what a served event does before the boot that it may ask for
abbrev pub before_boot : ServedEvent → Effect
before_boot s = record { steps = s.steps; place = s.place; outcome = s.outcome }

-- what was served, and the boot that it asks for
abbrev pub followed_by : Content → Cpu → ServedEvent → Option BootKind → Effect
followed_by c cpu s None = before_boot s
followed_by c cpu s (Some kind) =
    let boot = booted (after_all c s.steps) cpu kind (Some s.outcome) in
    record { steps = s.steps ++ boot.steps; place = boot.place; outcome = boot.outcome }

abbrev pub followed : Content → Cpu → ServedEvent → Effect
followed c cpu s = followed_by c cpu s s.boot
