-- What the OTP says that the model does not read, as rules.
use Rattle.std.specs.Prelude.{◌≢◌, ℕ, ◌+◌, ◌*◌, ◌<◌, ◌≤◌, List, count_by}
use Rattle.otp_roll.specs.declared.flags.TheConstants.{BOOT_FLAGS}
use Rattle.slot_caveats.specs.declared.caveat.Caveat.{Caveat}
use Rattle.slot_caveats.specs.declared.caveat.Caveat.TheVariants.{SecureBoot, RawFlags, RawSlotSize, ShortSlots, RawCritical}
use Rattle.slot_caveats.specs.declared.otp.TheConstants.{FIRST_CRITICAL_ROW, FIRST_SECURE_ROW}
use Rattle.slot_caveats.specs.Listing.{AreBoth, IsWhere}
use Rattle.slot_caveats.specs.OtpCaveats.{asked_size, has_lowest_bit, raw_bits, raw_size_bits, secure_rows, size_number, voted_bits}

-- at least three of the rows 0x040 to 0x047 have bit 0
abbrev pub IsSecureBoot : List ℕ → List Caveat → Type 0
IsSecureBoot otp = IsWhere (3 ≤ count_by (has_lowest_bit otp) secure_rows) SecureBoot

-- a row of the boot flags has bits that are not read
abbrev pub IsRawFlags : List ℕ → ℕ → List Caveat → Type 0
IsRawFlags otp row = IsWhere (raw_bits otp row ≢ 0) (RawFlags row (raw_bits otp row))

-- the row of the slot size has bits that are not read
abbrev pub IsRawSlotSize : List ℕ → List Caveat → Type 0
IsRawSlotSize otp = IsWhere (raw_size_bits otp ≢ 0) (RawSlotSize (raw_size_bits otp))

-- secure boot; each row of the boot flags; the row of the slot size
abbrev pub AreOtpCaveats : List ℕ → List Caveat → Type 0
AreOtpCaveats otp =
    AreBoth (IsSecureBoot otp)
    (AreBoth (IsRawFlags otp BOOT_FLAGS)
    (AreBoth (IsRawFlags otp (BOOT_FLAGS + 1))
    (AreBoth (IsRawFlags otp (BOOT_FLAGS + 2)) (IsRawSlotSize otp))))

-- the number of the slot size is at most 11, and two slots of the size that it stands for are
-- longer than a flash of n bytes
abbrev pub IsShortSlots : List ℕ → ℕ → List Caveat → Type 0
IsShortSlots otp n =
    IsWhere ((size_number otp ≤ 11) × (n < 2 * asked_size (size_number otp)))
    (ShortSlots (asked_size (size_number otp)))

-- at least three of the eight copies of a row have a bit from bit `low` on
abbrev pub IsRawCritical : List ℕ → ℕ → ℕ → List Caveat → Type 0
IsRawCritical otp row low =
    IsWhere (voted_bits otp row low ≢ 0) (RawCritical row (voted_bits otp row low))

-- row 0x038, and then row 0x040 but for its bit 0
abbrev pub AreCriticalCaveats : List ℕ → List Caveat → Type 0
AreCriticalCaveats otp =
    AreBoth (IsRawCritical otp FIRST_CRITICAL_ROW 0) (IsRawCritical otp FIRST_SECURE_ROW 1)
