-- The arguments of a command. Source: RP2350 Datasheet, chapter 5 (Bootrom, the PICOBOOT
-- interface).
use Rattle.std.specs.Prelude.{ℕ, ◌-◌, List, drop, slice_index}
use Rattle.byteorder.specs.Endian.{little_number}
use Rattle.pico_board.specs.Content.{flash_base}
use Rattle.picoboot_cmd.specs.declared.cmd.Cmd.{Cmd}

-- an erase, a read and a write have an address and a size in bytes, a word each
abbrev pub address : Cmd → ℕ
address cmd = little_number 4 cmd.args

abbrev pub size : Cmd → ℕ
size cmd = little_number 4 (drop 4 cmd.args)

-- the flash offset of an address in the flash
abbrev pub offset : Cmd → ℕ
offset cmd = address cmd - flash_base

-- a reboot has its flags in its first word, p0 in its third and p1 in its fourth; the delay in the
-- second word is not read; p1 is read only where a range in RAM is started
abbrev pub reboot_flags : Cmd → ℕ
reboot_flags cmd = little_number 4 cmd.args

abbrev pub reboot_p0 : Cmd → ℕ
reboot_p0 cmd = little_number 4 (drop 8 cmd.args)

abbrev pub reboot_p1 : Cmd → ℕ
reboot_p1 cmd = little_number 4 (drop 12 cmd.args)

-- a read and a write of OTP rows have the first row and the number of rows, in two bytes each;
-- then comes a byte that asks for error correction
abbrev pub first_row : Cmd → ℕ
first_row cmd = little_number 2 cmd.args

abbrev pub row_count : Cmd → ℕ
row_count cmd = little_number 2 (drop 2 cmd.args)

abbrev pub ecc : Cmd → ℕ
ecc cmd = slice_index cmd.args 4

-- a command with other argument bytes
abbrev pub with_args : Cmd → List ℕ → Cmd
with_args cmd args = record {
  token = cmd.token;
  id = cmd.id;
  arg_size = cmd.arg_size;
  transfer = cmd.transfer;
  args = args;
}
