-- The checks of a command, in their order, and the status that answers it. The commands are of the
-- RP2350 Datasheet, chapter 5 (Bootrom, the PICOBOOT interface); the order is this project's own.
use Rattle.std.specs.Prelude.{◌≡◌, ◌⊎◌, ℕ, ◌+◌, ◌*◌, ◌/◌, ◌%◌, ◌==◌, ◌&&◌, ◌||◌, Bool, true, false, not, nat_le, Option, Some, List, [], ◌∷◌, length, slice_get, slice_index, ◌<◌, if◌then◌else◌}
use Rattle.std.specs.List.{list_any}
use Rattle.pico_board.specs.Content.{flash_base}
use Rattle.block_codec.specs.Words.{words_of}
use Rattle.part_table.specs.declared.table.Table.{Table}
use Rattle.part_table.specs.declared.table.Right.TheVariants.{BootRead, BootWrite}
use Rattle.picoboot_cmd.specs.declared.cmd.Cmd.{Cmd}
use Rattle.picoboot_cmd.specs.declared.kinds.TheConstants.{EXCLUSIVE, ERASE, READ, WRITE, EXIT_XIP, ENTER_XIP, REBOOT, OTP_READ, OTP_WRITE, UNKNOWN_COMMAND, COMMAND_LENGTH, TRANSFER_LENGTH, ADDRESS, ALIGNMENT, INVALID_STATE, NOT_PERMITTED, INVALID_ARGUMENT, UNSUPPORTED_MODIFICATION}
use Rattle.picoboot_cmd.specs.Arguments.{address, size, offset, reboot_flags, first_row, row_count, ecc}
use Rattle.picoboot_cmd.specs.Sectors.{range_allowed}
use Rattle.picoboot_cmd.specs.Rows.{are_row_words, keeps_raised}

-- the commands that do steps
abbrev pub does_steps : ℕ → Bool
does_steps id = id == ERASE || (id == WRITE || id == OTP_WRITE)

-- while a download is busy no command does steps
abbrev pub is_served_while_busy : Bool → Cmd → Bool
is_served_while_busy busy cmd = not (does_steps cmd.id && busy)

-- the ids that there are
abbrev pub is_known : Cmd → Bool
is_known cmd =
    list_any (λ id. id == cmd.id)
    (EXCLUSIVE ∷ ERASE ∷ READ ∷ WRITE ∷ EXIT_XIP ∷ ENTER_XIP ∷ REBOOT ∷ OTP_READ ∷ OTP_WRITE ∷ [])

-- the argument size of an id
abbrev pub arg_size_of : ℕ → ℕ
arg_size_of id =
    if id == EXCLUSIVE then 1
    else if id == ERASE || (id == READ || id == WRITE) then 8
    else if id == REBOOT then 16
    else if id == OTP_READ || id == OTP_WRITE then 5
    else 0

abbrev pub has_arg_size : Cmd → Bool
has_arg_size cmd = cmd.arg_size == arg_size_of cmd.id

-- the transfer length of a command: the size that is read or written, four bytes for each OTP row,
-- and otherwise 0
abbrev pub transfer_of : Cmd → ℕ
transfer_of cmd =
    if cmd.id == READ || cmd.id == WRITE then size cmd
    else if cmd.id == OTP_READ || cmd.id == OTP_WRITE then 4 * row_count cmd
    else 0

-- the payload of a write is as long as its transfer length, and other commands have none
abbrev pub payload_of : Cmd → ℕ
payload_of cmd = if cmd.id == WRITE || cmd.id == OTP_WRITE then cmd.transfer else 0

abbrev pub has_transfer : Cmd → List ℕ → Bool
has_transfer cmd payload = cmd.transfer == transfer_of cmd && length payload == payload_of cmd

-- an erase is of whole sectors, and a write begins with a page
abbrev pub is_aligned : Cmd → Bool
is_aligned cmd =
    if cmd.id == ERASE then address cmd % 4096 == 0 && size cmd % 4096 == 0
    else if cmd.id == WRITE then address cmd % 256 == 0
    else true

-- the range of addresses lies in a flash of n bytes; a size of 0 at either end is inside
abbrev pub is_range_in_flash : Cmd → ℕ → Bool
is_range_in_flash cmd n =
    nat_le flash_base (address cmd) && nat_le (address cmd + size cmd) (flash_base + n)

-- the range lies in the flash, or in the rows of the OTP
abbrev pub is_inside : Cmd → ℕ → Bool
is_inside cmd n =
    if cmd.id == ERASE || (cmd.id == READ || cmd.id == WRITE) then is_range_in_flash cmd n
    else if cmd.id == OTP_READ || cmd.id == OTP_WRITE then
    nat_le (first_row cmd + row_count cmd) 4096
    else true

-- the flags of a reboot have no bit but the low four and bit 8; the low four are those of a normal
-- boot, of a boot to BOOTSEL, or of a flash update
abbrev pub are_reboot_flags : ℕ → Bool
are_reboot_flags flags =
    (flags / 16 == 0 || flags / 16 == 16)
    && (flags % 16 == 0 || (flags % 16 == 2 || flags % 16 == 4))

-- each argument has a value that the command takes
abbrev pub has_valid_arguments : Cmd → List ℕ → Bool
has_valid_arguments cmd payload =
    if cmd.id == EXCLUSIVE then nat_le (slice_index cmd.args 0) 2
    else if cmd.id == REBOOT then are_reboot_flags (reboot_flags cmd)
    else if cmd.id == OTP_READ then ecc cmd == 0
    else if cmd.id == OTP_WRITE then ecc cmd == 0 && are_row_words (words_of payload)
    else true

-- each touched sector has the right that the command asks for
abbrev pub is_permitted : Option Table → Cmd → Bool
is_permitted t cmd =
    if cmd.id == READ then range_allowed t BootRead (offset cmd) (size cmd)
    else if cmd.id == ERASE || cmd.id == WRITE then
    range_allowed t BootWrite (offset cmd) (size cmd)
    else true

-- a write of OTP rows clears no bit
abbrev pub clears_nothing : List ℕ → Cmd → List ℕ → Bool
clears_nothing otp cmd payload =
    if cmd.id == OTP_WRITE then keeps_raised otp (first_row cmd) (words_of payload) else true

-- a check, and the status where it fails
pub record Check : Type 0 where
  pub status : ℕ
  pub passes : Bool

abbrev pub check : ℕ → Bool → Check
check status passes = record { status = status; passes = passes }

-- the checks of a command, in their order, on a board with a flash of n bytes and these OTP rows
abbrev pub checks : ℕ → List ℕ → Option Table → Bool → Cmd → List ℕ → List Check
checks n otp t busy cmd payload =
    check INVALID_STATE (is_served_while_busy busy cmd)
    ∷ check UNKNOWN_COMMAND (is_known cmd)
    ∷ check COMMAND_LENGTH (has_arg_size cmd)
    ∷ check TRANSFER_LENGTH (has_transfer cmd payload)
    ∷ check ALIGNMENT (is_aligned cmd)
    ∷ check ADDRESS (is_inside cmd n)
    ∷ check INVALID_ARGUMENT (has_valid_arguments cmd payload)
    ∷ check NOT_PERMITTED (is_permitted t cmd)
    ∷ check UNSUPPORTED_MODIFICATION (clears_nothing otp cmd payload) ∷ []

-- the status of the first check that fails, and 0 where none does
abbrev pub first_failing : List Check → ℕ
first_failing [] = 0
first_failing (k ∷ ks) = if k.passes then first_failing ks else k.status

-- the status that answers a command
abbrev pub status_of : ℕ → List ℕ → Option Table → Bool → Cmd → List ℕ → ℕ
status_of n otp t busy cmd payload = first_failing (checks n otp t busy cmd payload)

-- the check at place i is the first that fails, and has this status
pub record FailsCheckFirst (ks : List Check) (i status : ℕ) : Type 0 where
  pub here : slice_get ks i ≡ Some (check status false)
  pub before : (j : ℕ) (k : Check) → j < i → slice_get ks j ≡ Some k → k.passes ≡ true

-- the status is that of the first check that fails, or 0 where all pass
abbrev pub IsCheckedStatus : List Check → ℕ → Type 0
IsCheckedStatus ks status =
    ((status ≡ 0) × ((i : ℕ) (k : Check) → slice_get ks i ≡ Some k → k.passes ≡ true))
    ⊎ ((i : ℕ) × FailsCheckFirst ks i status)
