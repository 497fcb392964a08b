-- The 32 bytes of a command. Source: RP2350 Datasheet, chapter 5 (Bootrom, the PICOBOOT
-- interface).
use Rattle.std.specs.Prelude.{◌≡◌, ℕ, ◌^◌, ◌<◌, ◌==◌, if◌then◌else◌, Result, Ok, Err, List, ◌∷◌, ◌++◌, All, length, drop, slice_index}
use Rattle.byteorder.specs.Endian.{little_bytes, little_number}
use Rattle.picoboot_cmd.specs.declared.cmd.Cmd.{Cmd}
use Rattle.picoboot_cmd.specs.declared.cmd.CmdFault.{CmdFault}
use Rattle.picoboot_cmd.specs.declared.cmd.CmdFault.TheVariants.{Magic}
use Rattle.picoboot_cmd.specs.declared.kinds.TheConstants.{MAGIC}

-- a command is written as the magic word, the token, the id, the argument size, two bytes 0, the
-- transfer length, and the argument bytes; each word has its lowest byte first
abbrev pub written_command : Cmd → List ℕ
written_command cmd =
    little_bytes 4 MAGIC
    ++ (little_bytes 4 cmd.token
    ++ (cmd.id ∷ cmd.arg_size ∷ 0 ∷ 0 ∷ (little_bytes 4 cmd.transfer ++ cmd.args)))

-- what the bytes after the magic word say; bytes 10 and 11 are not read
abbrev pub command_fields : List ℕ → Cmd
command_fields bytes = record {
  token = little_number 4 (drop 4 bytes);
  id = slice_index bytes 8;
  arg_size = slice_index bytes 9;
  transfer = little_number 4 (drop 12 bytes);
  args = drop 16 bytes;
}

-- the command of 32 bytes, or the fault where they do not begin with the magic word
abbrev pub command_in : List ℕ → Result Cmd CmdFault
command_in bytes = if little_number 4 bytes == MAGIC then Ok (command_fields bytes) else Err Magic

-- the fields of a command are in their ranges
pub record IsCommand (cmd : Cmd) : Type 0 where
  pub token : cmd.token < 2 ^ 32
  pub id : cmd.id < 256
  pub arg_size : cmd.arg_size < 256
  pub transfer : cmd.transfer < 2 ^ 32
  pub args : length cmd.args ≡ 16
  pub bytes : All (λ b. b < 256) cmd.args
