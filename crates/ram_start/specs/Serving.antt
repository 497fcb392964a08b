-- What the RAM commands do: their checks, and what they leave and answer. The order of the checks
-- is this project's own.
use Rattle.std.specs.Prelude.{ℕ, ◌+◌, ◌-◌, ◌%◌, ◌==◌, ◌&&◌, ◌||◌, Bool, not, nat_le, if◌then◌else◌, Option, None, List, [], ◌∷◌, is_some, slice_range}
use Rattle.std.specs.Result.{result_ok}
use Rattle.load_map.specs.declared.addresses.TheConstants.{SRAM_START}
use Rattle.pico_board.specs.declared.boot.Cpu.{Cpu}
use Rattle.pico_board.specs.Content.{Content}
use Rattle.image_def.specs.declared.started.Started.{Started}
use Rattle.picoboot_cmd.specs.declared.cmd.Cmd.{Cmd}
use Rattle.picoboot_cmd.specs.declared.kinds.TheConstants.{ADDRESS, INVALID_ARGUMENT, INVALID_STATE, READ, REBOOT, TRANSFER_LENGTH, WRITE}
use Rattle.picoboot_cmd.specs.Arguments.{address, reboot_flags, reboot_p0, reboot_p1, size}
use Rattle.picoboot_cmd.specs.Checks.{Check, check, first_failing, has_transfer}
use Rattle.ram_start.specs.declared.kinds.TheConstants.{PRECONDITION}
use Rattle.ram_start.specs.declared.serving.RamDone.{RamDone}
use Rattle.ram_start.specs.Images.{ram_image}
use Rattle.load_map.specs.Addresses.{in_sram}
use Rattle.ram_start.specs.Sram.{with_bytes_at}

-- a read or a write at an address of SRAM or above, and a reboot into RAM, each of its argument
-- size
abbrev pub asks_transfer : Cmd → Bool
asks_transfer cmd = (cmd.id == READ || cmd.id == WRITE)
    && (cmd.arg_size == 8 && nat_le SRAM_START (address cmd))

abbrev pub asks_reboot : Cmd → Bool
asks_reboot cmd = cmd.id == REBOOT
    && (cmd.arg_size == 16 && (reboot_flags cmd == 3 || reboot_flags cmd == 0x103))

abbrev pub is_ram_command : Cmd → Bool
is_ram_command cmd = asks_transfer cmd || asks_reboot cmd

-- the bytes of the range that a reboot names
abbrev pub reboot_range : List ℕ → Cmd → List ℕ
reboot_range ram cmd = slice_range ram (reboot_p0 cmd - SRAM_START)
    (reboot_p0 cmd - SRAM_START + reboot_p1 cmd)

-- the image that a reboot starts, if there is one
abbrev pub reboot_image : Content → List ℕ → Cpu → Cmd → Option Started
reboot_image c ram cpu cmd = result_ok (ram_image c (reboot_range ram cmd) (reboot_p0 cmd) cpu)

-- a range of words, at least one, that lies in SRAM
abbrev pub is_range : Cmd → Bool
is_range cmd = reboot_p0 cmd % 4 == 0
    && (nat_le 4 (reboot_p1 cmd) && in_sram (reboot_p0 cmd) (reboot_p1 cmd))

-- the checks in their order
abbrev pub ram_checks : Content → List ℕ → Cpu → Bool → Cmd → List ℕ → List Check
ram_checks c ram cpu busy cmd payload =
    check INVALID_STATE (not (cmd.id == WRITE && busy))
    ∷ check TRANSFER_LENGTH (has_transfer cmd payload)
    ∷ check ADDRESS (cmd.id == REBOOT || in_sram (address cmd) (size cmd))
    ∷ check INVALID_ARGUMENT (not (cmd.id == REBOOT) || is_range cmd)
    ∷ check PRECONDITION (not (cmd.id == REBOOT) || is_some (reboot_image c ram cpu cmd)) ∷ []

abbrev pub ram_status : Content → List ℕ → Cpu → Bool → Cmd → List ℕ → ℕ
ram_status c ram cpu busy cmd payload = first_failing (ram_checks c ram cpu busy cmd payload)

-- the SRAM after a command with status 0: a write stores its bytes
abbrev pub ram_stored : List ℕ → Cmd → List ℕ → List ℕ
ram_stored ram cmd payload = if cmd.id == WRITE then with_bytes_at ram
    (address cmd - SRAM_START) payload else ram

-- the reply: the bytes that are read
abbrev pub ram_reply : List ℕ → Cmd → List ℕ
ram_reply ram cmd =
    if cmd.id == READ then slice_range ram (address cmd - SRAM_START)
    (address cmd - SRAM_START + size cmd) else []

-- what a command leaves, and what it answers: with another status than 0 it does nothing
pub record RamServed : Type 0 where
  pub status : ℕ
  pub ram : List ℕ
  pub reply : List ℕ
  pub start : Option Started

abbrev pub ram_served : ℕ → Content → List ℕ → Cpu → Cmd → List ℕ → RamServed
ram_served status c ram cpu cmd payload =
    if status == 0
    then record {
      status = 0;
      ram = ram_stored ram cmd payload;
      reply = ram_reply ram cmd;
      start = if cmd.id == REBOOT then reboot_image c ram cpu cmd else None;
    }
    else record { status = status; ram = ram; reply = []; start = None }

abbrev pub ram_command : Content → List ℕ → Cpu → Bool → Cmd → List ℕ → RamServed
ram_command c ram cpu busy cmd payload =
    ram_served (ram_status c ram cpu busy cmd payload) c ram cpu cmd payload

-- what is left of the checks for a read and a write
abbrev pub transfer_checks : Bool → Cmd → List ℕ → List Check
transfer_checks busy cmd payload =
    check INVALID_STATE (not (cmd.id == WRITE && busy))
    ∷ check TRANSFER_LENGTH (has_transfer cmd payload)
    ∷ check ADDRESS (in_sram (address cmd) (size cmd)) ∷ []

-- what is left of the checks for a reboot; and below the answer to a reboot, by these checks
abbrev pub ram_reboot_checks : Content → List ℕ → Cpu → Cmd → List ℕ → List Check
ram_reboot_checks c ram cpu cmd payload =
    check TRANSFER_LENGTH (has_transfer cmd payload)
    ∷ check INVALID_ARGUMENT (is_range cmd)
    ∷ check PRECONDITION (is_some (reboot_image c ram cpu cmd)) ∷ []

abbrev pub started_by : ℕ → Option Started → RamDone
started_by status image = record { status = status; start = if status == 0 then image else None }

abbrev pub reboot_done : Content → List ℕ → Cpu → Cmd → List ℕ → RamDone
reboot_done c ram cpu cmd payload =
    started_by (first_failing (ram_reboot_checks c ram cpu cmd payload))
    (reboot_image c ram cpu cmd)
