-- The checks of each command alone: what is left of the table of checks at its id.
use Rattle.std.specs.Prelude.{ℕ, ◌+◌, ◌*◌, ◌%◌, ◌==◌, ◌&&◌, Bool, not, nat_le, Option, List, [], ◌∷◌, length, slice_index}
use Rattle.block_codec.specs.Words.{words_of}
use Rattle.part_table.specs.declared.table.Table.{Table}
use Rattle.part_table.specs.declared.table.Right.TheVariants.{BootRead, BootWrite}
use Rattle.picoboot_cmd.specs.declared.cmd.Cmd.{Cmd}
use Rattle.picoboot_cmd.specs.declared.kinds.TheConstants.{COMMAND_LENGTH, TRANSFER_LENGTH, ADDRESS, ALIGNMENT, INVALID_STATE, NOT_PERMITTED, INVALID_ARGUMENT, UNSUPPORTED_MODIFICATION}
use Rattle.picoboot_cmd.specs.Arguments.{address, size, offset, reboot_flags, first_row, row_count, ecc}
use Rattle.picoboot_cmd.specs.Checks.{Check, check, are_reboot_flags, is_range_in_flash}
use Rattle.picoboot_cmd.specs.Rows.{are_row_words, keeps_raised}
use Rattle.picoboot_cmd.specs.Sectors.{range_allowed}

-- the command has this argument size, this transfer length, and a payload of this length
abbrev pub lengths : ℕ → ℕ → ℕ → Cmd → List ℕ → List Check → List Check
lengths arg_size transfer payload_size cmd payload others =
    check COMMAND_LENGTH (cmd.arg_size == arg_size)
    ∷ check TRANSFER_LENGTH (cmd.transfer == transfer && length payload == payload_size) ∷ others

-- exclusive access
abbrev pub exclusive_checks : Cmd → List ℕ → List Check
exclusive_checks cmd payload =
    lengths 1 0 0 cmd payload (check INVALID_ARGUMENT (nat_le (slice_index cmd.args 0) 2) ∷ [])

-- an erase in a flash of n bytes
abbrev pub erase_checks : ℕ → Option Table → Bool → Cmd → List ℕ → List Check
erase_checks n t busy cmd payload =
    check INVALID_STATE (not busy)
    ∷ lengths 8 0 0 cmd payload
    (check ALIGNMENT (address cmd % 4096 == 0 && size cmd % 4096 == 0)
    ∷ check ADDRESS (is_range_in_flash cmd n)
    ∷ check NOT_PERMITTED (range_allowed t BootWrite (offset cmd) (size cmd)) ∷ [])

-- a read
abbrev pub read_checks : ℕ → Option Table → Cmd → List ℕ → List Check
read_checks n t cmd payload =
    lengths 8 (size cmd) 0 cmd payload
    (check ADDRESS (is_range_in_flash cmd n)
    ∷ check NOT_PERMITTED (range_allowed t BootRead (offset cmd) (size cmd)) ∷ [])

-- a write
abbrev pub write_checks : ℕ → Option Table → Bool → Cmd → List ℕ → List Check
write_checks n t busy cmd payload =
    check INVALID_STATE (not busy)
    ∷ lengths 8 (size cmd) cmd.transfer cmd payload
    (check ALIGNMENT (address cmd % 256 == 0)
    ∷ check ADDRESS (is_range_in_flash cmd n)
    ∷ check NOT_PERMITTED (range_allowed t BootWrite (offset cmd) (size cmd)) ∷ [])

-- the exit from XIP, and the entry to it
abbrev pub xip_checks : Cmd → List ℕ → List Check
xip_checks cmd payload = lengths 0 0 0 cmd payload []

-- a reboot
abbrev pub reboot_checks : Cmd → List ℕ → List Check
reboot_checks cmd payload =
    lengths 16 0 0 cmd payload (check INVALID_ARGUMENT (are_reboot_flags (reboot_flags cmd)) ∷ [])

-- a read of OTP rows
abbrev pub otp_read_checks : Cmd → List ℕ → List Check
otp_read_checks cmd payload =
    lengths 5 (4 * row_count cmd) 0 cmd payload
    (check ADDRESS (nat_le (first_row cmd + row_count cmd) 4096)
    ∷ check INVALID_ARGUMENT (ecc cmd == 0) ∷ [])

-- a write of OTP rows
abbrev pub otp_write_checks : List ℕ → Bool → Cmd → List ℕ → List Check
otp_write_checks otp busy cmd payload =
    check INVALID_STATE (not busy)
    ∷ lengths 5 (4 * row_count cmd) cmd.transfer cmd payload
    (check ADDRESS (nat_le (first_row cmd + row_count cmd) 4096)
    ∷ check INVALID_ARGUMENT (ecc cmd == 0 && are_row_words (words_of payload))
    ∷ check UNSUPPORTED_MODIFICATION (keeps_raised otp (first_row cmd) (words_of payload)) ∷ [])
