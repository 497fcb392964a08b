-- The commands by which a host writes an image and starts it. They are of the RP2350 Datasheet,
-- chapter 5 (Bootrom, the PICOBOOT interface).
use Rattle.std.specs.Prelude.{ℕ, ◌+◌, List, ◌++◌}
use Rattle.byteorder.specs.Endian.{little_bytes}
use Rattle.pico_board.specs.Content.{flash_base}
use Rattle.picoboot_cmd.specs.declared.cmd.Cmd.{Cmd}
use Rattle.picoboot_cmd.specs.declared.kinds.TheConstants.{ERASE, EXCLUSIVE, EXIT_XIP, REBOOT, WRITE}
use Rattle.picoboot_cmd.specs.Commands as commands
use Rattle.boot_script.specs.Events.{EventView, Command}

-- three words as arguments, and a word 0
abbrev pub words_args : ℕ → ℕ → ℕ → List ℕ
words_args first second third =
    little_bytes 4 first
    ++ (little_bytes 4 second ++ (little_bytes 4 third ++ little_bytes 4 0))

-- the arguments of an erase or a write at a flash offset: its address and its size
abbrev pub range_args : ℕ → ℕ → List ℕ
range_args at size = words_args (flash_base + at) size 0

-- the command that erases `size` bytes at a flash offset
abbrev pub erase_cmd : ℕ → ℕ → ℕ → Cmd
erase_cmd token at size = record {
  token = token;
  id = ERASE;
  arg_size = 8;
  transfer = 0;
  args = range_args at size;
}

-- the command that writes `size` bytes at a flash offset
abbrev pub write_cmd : ℕ → ℕ → ℕ → Cmd
write_cmd token at size = record {
  token = token;
  id = WRITE;
  arg_size = 8;
  transfer = size;
  args = range_args at size;
}

-- the command that asks for exclusive access, with the argument 1
abbrev pub exclusive_cmd : ℕ → Cmd
exclusive_cmd token = record {
  token = token;
  id = EXCLUSIVE;
  arg_size = 1;
  transfer = 0;
  args = words_args 1 0 0;
}

-- the command that leaves XIP, without arguments
abbrev pub exit_cmd : ℕ → Cmd
exit_cmd token = record {
  token = token;
  id = EXIT_XIP;
  arg_size = 0;
  transfer = 0;
  args = words_args 0 0 0;
}

-- the command that reboots into an update of the region at a flash offset: its flags are 4, it has
-- no delay, and p0 is the address
abbrev pub update_cmd : ℕ → ℕ → Cmd
update_cmd token at = record {
  token = token;
  id = REBOOT;
  arg_size = 16;
  transfer = 0;
  args = words_args 4 0 (flash_base + at);
}

-- a command and its payload as an event
unfoldable pub sent : Cmd → List ℕ → EventView
sent cmd payload = Command (commands.written_command cmd) payload
