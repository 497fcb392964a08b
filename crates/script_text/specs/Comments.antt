-- What the comment above a record says of it.
use Rattle.std.specs.Prelude.{ℕ, ◌==◌, ◌&&◌, ◌||◌, if◌then◌else◌, List, [], ◌++◌, Result, Ok, Err, drop, slice_index, codes, decimal}
use Rattle.byteorder.specs.Endian.{little_number}
use Rattle.text_words.specs.Writing.{hex_byte, hex_row, hex_word}
use Rattle.picoboot_cmd.specs.declared.cmd.Cmd.{Cmd}
use Rattle.picoboot_cmd.specs.declared.cmd.CmdFault.{CmdFault}
use Rattle.picoboot_cmd.specs.declared.cmd.CmdFault.TheVariants as cmd_fault
use Rattle.picoboot_cmd.specs.declared.kinds.TheConstants.{EXCLUSIVE, ERASE, READ, WRITE, EXIT_XIP, ENTER_XIP, REBOOT, OTP_READ, OTP_WRITE}
use Rattle.picoboot_cmd.specs.Arguments.{address, size, reboot_flags, reboot_p0, reboot_p1, first_row, row_count, ecc}
use Rattle.picoboot_cmd.specs.Commands.{command_in}
use Rattle.info_reply.specs.declared.kinds.TheConstants.{INFO, INFO_SIZE, TABLE, TARGET, DEVICE, PARTITION}
use Rattle.uf2_place.specs.declared.block.Uf2.{Uf2 as Block}
use Rattle.uf2_place.specs.declared.block.Uf2Fault.{Uf2Fault}
use Rattle.uf2_place.specs.declared.block.Uf2Fault.TheVariants.{Magic, Payload, Alignment, Number}
use Rattle.uf2_place.specs.Blocks.{uf2_of}
use Rattle.boot_script.specs.Events.{EventView, Command, Uf2, Cut}
use Rattle.script_words.specs.Spelling.{range_text}

-- the range of an erase, a read or a write
abbrev pub command_range_text : Cmd → List ℕ
command_range_text cmd = range_text (address cmd) (size cmd)

-- the rows of an OTP read or write, and the byte by which error correction is asked for
abbrev pub rows_text : Cmd → List ℕ
rows_text cmd =
    codes "row="
    ++ (hex_row (first_row cmd)
    ++ (codes " count=" ++ (decimal (row_count cmd) ++ (codes " ecc=" ++ decimal (ecc cmd)))))

-- to what a reboot with these flags is; bit 8 makes no difference
abbrev pub reboot_text : Cmd → List ℕ
reboot_text cmd =
    if reboot_flags cmd == 0 || reboot_flags cmd == 0x100 then codes "normal"
    else if reboot_flags cmd == 2 || reboot_flags cmd == 0x102 then codes "bootsel"
    else if reboot_flags cmd == 4 || reboot_flags cmd == 0x104 then
    codes "update=" ++ hex_word (reboot_p0 cmd)
    else if reboot_flags cmd == 3 || reboot_flags cmd == 0x103 then
    codes "ram=" ++ range_text (reboot_p0 cmd) (reboot_p1 cmd)
    else codes "flags=" ++ hex_word (reboot_flags cmd)

-- what an info command asks for, by its kind and its argument: the kind is its first argument
-- byte, and the argument its second word
abbrev pub info_text : ℕ → ℕ → List ℕ
info_text kind argument =
    if kind == TABLE then codes "table"
    else if kind == TARGET then codes "target=" ++ hex_word argument
    else if kind == DEVICE then codes "device"
    else if kind == PARTITION then codes "partition=" ++ decimal argument
    else codes "kind=" ++ decimal kind

-- what a command is, by its id; with another argument size than that of its id, or with another
-- id, it is just a command
abbrev pub action_text : Cmd → List ℕ
action_text cmd =
    if cmd.id == EXCLUSIVE && cmd.arg_size == 1 then
    codes "exclusive " ++ decimal (slice_index cmd.args 0)
    else if cmd.id == ERASE && cmd.arg_size == 8 then codes "erase " ++ command_range_text cmd
    else if cmd.id == READ && cmd.arg_size == 8 then codes "read " ++ command_range_text cmd
    else if cmd.id == WRITE && cmd.arg_size == 8 then codes "write " ++ command_range_text cmd
    else if cmd.id == EXIT_XIP && cmd.arg_size == 0 then codes "exit-xip"
    else if cmd.id == ENTER_XIP && cmd.arg_size == 0 then codes "enter-xip"
    else if cmd.id == REBOOT && cmd.arg_size == 16 then codes "reboot " ++ reboot_text cmd
    else if cmd.id == OTP_READ && cmd.arg_size == 5 then codes "otp-read " ++ rows_text cmd
    else if cmd.id == OTP_WRITE && cmd.arg_size == 5 then codes "otp-write " ++ rows_text cmd
    else if cmd.id == INFO && cmd.arg_size == INFO_SIZE then
    codes "info " ++ info_text (slice_index cmd.args 0) (little_number 4 (drop 4 cmd.args))
    else codes "command " ++ hex_byte cmd.id

-- a command with its token, or the fault of its bytes
abbrev pub read_command_text : Result Cmd CmdFault → List ℕ
read_command_text (Ok cmd) = action_text cmd ++ (codes " token=" ++ hex_word cmd.token)
read_command_text (Err cmd_fault.Magic) = codes "command bad-magic"

-- what the 32 bytes of a command are
unfoldable pub command_text : List ℕ → List ℕ
command_text command = read_command_text (command_in command)

-- the numbers of a UF2 block: which one it is, of how many
unfoldable pub uf2_counts : ℕ → ℕ → List ℕ
uf2_counts number count =
    codes "uf2 number=" ++ (decimal number ++ (codes " count=" ++ decimal count))

-- where a UF2 block goes: its address and its family
unfoldable pub uf2_target : ℕ → ℕ → List ℕ
uf2_target address family =
    codes " address=" ++ (hex_word address ++ (codes " family=" ++ hex_word family))

-- a UF2 block, or its first fault
abbrev pub read_uf2_text : Result Block Uf2Fault → List ℕ
read_uf2_text (Ok block) =
    uf2_counts block.number block.count ++ uf2_target block.address block.family
read_uf2_text (Err Magic) = codes "uf2 bad magic"
read_uf2_text (Err Payload) = codes "uf2 bad payload"
read_uf2_text (Err Alignment) = codes "uf2 bad alignment"
read_uf2_text (Err Number) = codes "uf2 bad number"

-- what the 512 bytes of a UF2 block are
unfoldable pub uf2_text : List ℕ → List ℕ
uf2_text block = read_uf2_text (uf2_of block)

-- what the comment above a line with hexadecimal bytes says of its record; it says nothing of a
-- transfer length, of a payload, or of what stands where an address points
abbrev pub note_of : EventView → List ℕ
note_of (Command command payload) = command_text command
note_of (Uf2 block) = uf2_text block
note_of (Cut left within pattern) = codes "cut"
note_of _ = []
