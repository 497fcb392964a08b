-- What the OTP says that the model does not read, as functions.
use Rattle.std.specs.Prelude.{ℕ, ◌+◌, ◌-◌, ◌*◌, ◌/◌, ◌%◌, ◌^◌, ◌==◌, ◌&&◌, not, nat_le, nat_lt, Bool, if◌then◌else◌, List, ◌++◌, slice_index, count_by, sum_by, Option, option_to_list}
use Rattle.std.specs.List.{range_with_len}
use Rattle.otp_roll.specs.declared.flags.TheConstants.{BOOT_FLAGS, SLOT_SIZE_ROW}
use Rattle.part_table.specs.Fields.{has_bit}
use Rattle.slot_caveats.specs.declared.caveat.Caveat.{Caveat}
use Rattle.slot_caveats.specs.declared.caveat.Caveat.TheVariants.{SecureBoot, RawFlags, RawSlotSize, ShortSlots, RawCritical}
use Rattle.slot_caveats.specs.declared.otp.TheConstants.{FIRST_CRITICAL_ROW, FIRST_SECURE_ROW, SECURE_ROWS}
use Rattle.slot_caveats.specs.Listing.{caveat_if}

-- the rows that ask for secure boot, 0x040 to 0x047 (RP2350 Datasheet, chapter 13, OTP, CRIT1 and
-- its copies)
abbrev pub secure_rows : List ℕ
secure_rows = range_with_len FIRST_SECURE_ROW SECURE_ROWS

-- bit 0 of a row
abbrev pub has_lowest_bit : List ℕ → ℕ → Bool
has_lowest_bit otp row = slice_index otp row % 2 == 1

-- at least three of these rows have bit 0
abbrev pub secure_boot : List ℕ → Option Caveat
secure_boot otp = caveat_if (nat_le 3 (count_by (has_lowest_bit otp) secure_rows)) SecureBoot

-- the bits of a row of the boot flags that are not read: in the first row all but bits 0 and 1; in
-- its two copies all (RP2350 Datasheet, chapter 13, OTP, BOOT_FLAGS0)
abbrev pub raw_bits : List ℕ → ℕ → ℕ
raw_bits otp row =
    if row == BOOT_FLAGS then 4 * (slice_index otp row / 4) else slice_index otp row

abbrev pub raw_flags : List ℕ → ℕ → Option Caveat
raw_flags otp row = caveat_if (not (raw_bits otp row == 0)) (RawFlags row (raw_bits otp row))

-- the bits of the row of the slot size that are not read: all but bits 0 to 3
abbrev pub raw_size_bits : List ℕ → ℕ
raw_size_bits otp = 16 * (slice_index otp SLOT_SIZE_ROW / 16)

abbrev pub raw_slot_size : List ℕ → Option Caveat
raw_slot_size otp = caveat_if (not (raw_size_bits otp == 0)) (RawSlotSize (raw_size_bits otp))

-- the caveats of an OTP
abbrev pub otp_caveats : List ℕ → List Caveat
otp_caveats otp =
    option_to_list (secure_boot otp)
    ++ (option_to_list (raw_flags otp BOOT_FLAGS)
    ++ (option_to_list (raw_flags otp (BOOT_FLAGS + 1))
    ++ (option_to_list (raw_flags otp (BOOT_FLAGS + 2)) ++ option_to_list (raw_slot_size otp))))

-- the number that stands for the slot size: bits 0 to 3 of its row (RP2350 Datasheet, chapter 13,
-- OTP, FLASH_PARTITION_SLOT_SIZE; the bits are this project's own)
abbrev pub size_number : List ℕ → ℕ
size_number otp = slice_index otp SLOT_SIZE_ROW % 16

-- the slot size that such a number stands for
abbrev pub asked_size : ℕ → ℕ
asked_size number = 4096 * 2 ^ number

-- two slots of the size that the OTP asks for do not fit into a flash of n bytes
abbrev pub short_slots : List ℕ → ℕ → Option Caveat
short_slots otp n =
    caveat_if (nat_le (size_number otp) 11 && nat_lt n (2 * asked_size (size_number otp)))
    (ShortSlots (asked_size (size_number otp)))

-- the eight copies of a critical row, from this one on (RP2350 Datasheet, chapter 13, OTP, CRIT0
-- and CRIT1)
abbrev pub copies_from : ℕ → List ℕ
copies_from row = range_with_len row SECURE_ROWS

-- a row has this bit
abbrev pub has_row_bit : List ℕ → ℕ → ℕ → Bool
has_row_bit otp k row = has_bit (slice_index otp row) k

-- at least three of the copies of a row have bit k (RP2350 Datasheet, chapter 13, OTP, CRIT0 and
-- CRIT1)
abbrev pub has_vote : List ℕ → ℕ → ℕ → Bool
has_vote otp row k = nat_le 3 (count_by (has_row_bit otp k) (copies_from row))

-- the bits, from bit `low` on, that at least three of the copies of a row have
abbrev pub voted_bit : List ℕ → ℕ → ℕ → ℕ
voted_bit otp row k = if has_vote otp row k then 2 ^ k else 0

unfoldable pub voted_bits : List ℕ → ℕ → ℕ → ℕ
voted_bits otp row low = sum_by (voted_bit otp row) (range_with_len low (24 - low))

abbrev pub raw_critical : List ℕ → ℕ → ℕ → Option Caveat
raw_critical otp row low =
    caveat_if (not (voted_bits otp row low == 0)) (RawCritical row (voted_bits otp row low))

-- the critical flags that are not read: of row 0x038 all, and of row 0x040 all but bit 0
abbrev pub critical_caveats : List ℕ → List Caveat
critical_caveats otp =
    option_to_list (raw_critical otp FIRST_CRITICAL_ROW 0)
    ++ option_to_list (raw_critical otp FIRST_SECURE_ROW 1)
