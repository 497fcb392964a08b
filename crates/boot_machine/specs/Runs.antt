-- What a run of the machine keeps: the target that an info command answers, and the writes to the
-- SRAM. Source: RP2350 Datasheet, chapter 5 (Bootrom); the profile is this project's own.
use Rattle.std.specs.Prelude.{ℕ, ◌≡◌, ◌≢◌, ⊤, ◌==◌, ◌&&◌, Bool, false, true, is_some, if◌then◌else◌, List, [], ◌∷◌, ◌++◌, Option, Some, None, Result, Ok, Err, option_map}
use Rattle.pico_board.specs.declared.boot.Cpu.{Cpu}
use Rattle.pico_board.specs.Content.{Content}
use Rattle.pico_board.specs.declared.Step.{Step}
use Rattle.pico_board.specs.Board.{State as BoardState}
use Rattle.pico_board.specs.Cuts.{cut_with}
use Rattle.pico_board.specs.Steps.{after_all}
use Rattle.part_table.specs.declared.Target.{Target}
use Rattle.uf2_place.specs.declared.block.Uf2.{Uf2}
use Rattle.uf2_place.specs.Blocks.{uf2_of}
use Rattle.uf2_place.specs.Rulings.{begun, is_skipped}
use Rattle.picoboot_cmd.specs.declared.cmd.Cmd.{Cmd}
use Rattle.picoboot_cmd.specs.declared.kinds.TheConstants.{WRITE}
use Rattle.picoboot_cmd.specs.declared.cmd.CmdFault.{CmdFault}
use Rattle.picoboot_cmd.specs.Arguments.{address, reboot_p0}
use Rattle.picoboot_cmd.specs.Commands.{command_in}
use Rattle.info_reply.specs.declared.kinds.TheConstants.{INFO}
use Rattle.info_reply.specs.declared.ask.Ask.TheVariants as asks
use Rattle.info_reply.specs.Asks.{ask_in}
use Rattle.info_reply.specs.Infos.{target_words}
use Rattle.image_def.specs.declared.started.Started.{Started}
use Rattle.image_check.specs.NotBelow.{NotBelow}
use Rattle.ram_start.specs.Images.{ValidRam}
use Rattle.ram_start.specs.Serving.{asks_reboot, is_ram_command, is_range, ram_status, reboot_range}
use Rattle.ram_start.specs.Sram.{RamWrite, ram_after, zero_ram}
use Rattle.boot_script.specs.Events.{EventView}
use Rattle.text_lines.specs.declared.outcome.EventOutcome.{EventOutcome}
use Rattle.boot_machine.specs.Machines.{Host, MachineView, Placing, StateView, Off, InBootsel, Running, FromRam}
use Rattle.boot_machine.specs.Moves.{Moves}
use Rattle.boot_machine.specs.Serving.{ServedEvent, block_served, info_status, info_words, is_like, served_event, table_of_found}

-- the info command is served, asks for the target of a family, and the words of its reply are those
-- of this target
pub record AnswersTarget (c : Content) (cpu : Cpu) (host : Host) (command payload : List ℕ)
    (family : ℕ) (answer : Option Target) : Type 0 where
  pub cmd : Cmd
  pub is : command_in command ≡ Ok cmd
  pub id : cmd.id ≡ INFO
  pub asked : ask_in cmd ≡ Some (asks.Target family)
  pub status : info_status c cpu host.found cmd payload ≡ 0
  pub words : info_words c cpu host.found (ask_in cmd) ≡ target_words answer

-- no download is current, or the block is not of its family and count
abbrev pub IsNewDownload : Option Placing → Uf2 → Type 0
IsNewDownload None b = ⊤
IsNewDownload (Some placing) b = is_like placing.blocks b ≡ false

-- the bytes are a block of this family which is not skipped in a flash of n bytes and begins a
-- download
pub record BeginsDownload (n : ℕ) (host : Host) (family : ℕ) (bytes : List ℕ) (b : Uf2)
    : Type 0 where
  pub is : uf2_of bytes ≡ Ok b
  pub same : b.family ≡ family
  pub kept : is_skipped n b ≡ false
  pub new : IsNewDownload host.placing b

-- what is served where the block is taken or refused by a target
abbrev pub served_by : Host → Option Target → Uf2 → ServedEvent
served_by host target b = block_served host b (begun (table_of_found host.found) b target)

-- the write of a command, where it is a RAM command that writes and is served
abbrev pub ram_writes : Content → Cpu → Host → Cmd → List ℕ → List RamWrite
ram_writes c cpu host cmd payload =
    if cmd.id == WRITE && (is_ram_command cmd
    && ram_status c host.ram cpu (is_some host.placing) cmd payload == 0)
    then record { address = address cmd; bytes = payload } ∷ [] else []

abbrev pub command_writes : Content → Cpu → Host → Result Cmd CmdFault → List ℕ → List RamWrite
command_writes c cpu host (Ok cmd) payload = ram_writes c cpu host cmd payload
command_writes c cpu host (Err fault) payload = []

-- the writes since BOOTSEL was entered, by those before an event in it: a boot begins anew
abbrev pub host_writes : Content → Cpu → Host → List RamWrite → EventView → List RamWrite
host_writes c cpu host writes (EventView.Command command payload) =
    if is_some (served_event c cpu host (EventView.Command command payload)).boot then []
    else writes ++ command_writes c cpu host (command_in command) payload
host_writes c cpu host writes (EventView.Uf2 block) =
    if is_some (served_event c cpu host (EventView.Uf2 block)).boot then [] else writes
host_writes c cpu host writes (EventView.Reset kind) = []
host_writes c cpu host writes event = writes

-- the writes since BOOTSEL was entered, by those before an event in this place; outside BOOTSEL
-- there are none
abbrev pub place_writes : Content → Cpu → StateView → List RamWrite → EventView → List RamWrite
place_writes c cpu Off writes event = []
place_writes c cpu (InBootsel host) writes event = host_writes c cpu host writes event
place_writes c cpu (Running program) writes event = []

abbrev pub writes_behind : MachineView → List RamWrite → EventView → List RamWrite
writes_behind m writes event = place_writes m.content m.cpu m.place writes event

-- Plays, with the writes to the SRAM since BOOTSEL was entered, before the events and behind them
abbrev pub PlaysWriting : MachineView → List RamWrite → List EventView → MachineView
    → List EventOutcome → List RamWrite → Type 0
PlaysWriting m before [] n outcomes behind = (n ≡ m) × (outcomes ≡ []) × (behind ≡ before)
PlaysWriting m before (event ∷ events) n outcomes behind =
    (mid : MachineView) × (outcome : EventOutcome) × (others : List EventOutcome)
    × Moves m event mid outcome
    × PlaysWriting mid (writes_behind m before event) events n others behind
    × (outcomes ≡ (outcome ∷ others))

-- a run begins without power, or in BOOTSEL as it is entered: without a download, and with an SRAM
-- of zeros
abbrev pub IsFresh : StateView → Type 0
IsFresh Off = ⊤
IsFresh (InBootsel host) = (host.placing ≡ None) × (host.ram ≡ zero_ram)
IsFresh (Running program) = ⊥

-- an event takes a machine that does not run this image in RAM to one that does
pub record StartsRam (m : MachineView) (event : EventView) (n : MachineView)
    (outcome : EventOutcome) (s : Started) : Type 0 where
  pub moves : Moves m event n outcome
  pub former : m.place ≢ Running (FromRam s)
  pub running : n.place ≡ Running (FromRam s)

-- the event is a reboot command that names words in SRAM, which these writes have left there. They
-- hold this valid image, which is not below its rollback rows
pub record IsBootIntoRam (c : Content) (cpu : Cpu) (event : EventView) (writes : List RamWrite)
    (s : Started) : Type 0 where
  pub command : List ℕ
  pub payload : List ℕ
  pub cmd : Cmd
  pub came : event ≡ EventView.Command command payload
  pub is : command_in command ≡ Ok cmd
  pub asks : asks_reboot cmd ≡ true
  pub range : is_range cmd ≡ true
  pub valid : ValidRam c (reboot_range (ram_after writes) cmd) (reboot_p0 cmd) cpu s
  pub rows : NotBelow c.otp s

-- the machine with this cut armed, where its board tells its armed cut
abbrev pub machine_with_cut : MachineView → ℕ → Bool → List ℕ → MachineView
machine_with_cut m left within pattern = record {
  content = m.content;
  armed = option_map (λ former. Some (cut_with left within pattern)) m.armed;
  cpu = m.cpu;
  place = m.place;
}

-- the board has done these steps, from this content on
abbrev pub HasDone : Content → BoardState → List Step → Type 0
HasDone c board steps = board.content ≡ after_all c steps
