-- What single OTP rows say of the boot. Source: RP2350 Datasheet, chapter 13, OTP, rows
-- BOOT_FLAGS0 and FLASH_PARTITION_SLOT_SIZE; their bits as read here are this project's own.
use Rattle.std.specs.Prelude.{ℕ, ◌*◌, ◌/◌, ◌%◌, ◌^◌, ◌==◌, ◌&&◌, nat_le, Bool, if◌then◌else◌, List, slice_index}
use Rattle.otp_roll.specs.declared.flags.TheConstants.{BOOT_FLAGS, SLOT_SIZE_ROW}

-- rollback versions are required: bit 0 of the row of boot flags
abbrev pub rollback_required : List ℕ → Bool
rollback_required otp = slice_index otp BOOT_FLAGS % 2 == 1

-- flash boot is off: bit 1 of the same row
abbrev pub flash_off : List ℕ → Bool
flash_off otp = slice_index otp BOOT_FLAGS / 2 % 2 == 1

-- the slot size that a number n stands for: 4096 * 2^n where n is at most 11 and two such slots
-- fit into a flash of this length; otherwise 4096
abbrev pub slot_size_of : ℕ → ℕ → ℕ
slot_size_of n flash_len =
    if nat_le n 11 && nat_le (2 * (4096 * 2 ^ n)) flash_len then 4096 * 2 ^ n else 4096

-- the slot size of a content, by bits 0 to 3 of the row of the slot size
abbrev pub slot_size : List ℕ → ℕ → ℕ
slot_size otp flash_len = slot_size_of (slice_index otp SLOT_SIZE_ROW % 16) flash_len
