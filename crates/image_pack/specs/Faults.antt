-- Why a binary is not sealed: the first of these conditions, in the order of the error's variants.
use Rattle.std.specs.Prelude.{◌≡◌, ◌≢◌, ℕ, ◌-◌, ◌<◌, ◌≤◌, true, List, [], length, replicate, Option, Some, None, Ok, Err}
use Rattle.pico_board.specs.declared.window.TheConstants.{MOST_FLASH_BYTES}
use Rattle.pico_board.specs.declared.boot.Cpu.{Cpu}
use Rattle.pico_board.specs.declared.window.Window.{Window}
use Rattle.image_def.specs.declared.started.Started.{Started}
use Rattle.otp_roll.specs.Rows.{AreRollbackRows, IsRollbackVersion}
use Rattle.image_check.specs.declared.why.Why.{Why}
use Rattle.image_check.specs.Addressing.{in_flash}
use Rattle.image_check.specs.Valid.{IsValidImage}
use Rattle.image_check.specs.WhyNot.{IsWhyNot}
use Rattle.image_def.specs.declared.images.TheConstants.{MOST_BLOCK_BYTES}
use Rattle.image_pack.specs.declared.parts.Parts.{Parts}
use Rattle.image_pack.specs.declared.spec.SealError.{SealError}
use Rattle.image_pack.specs.declared.spec.SealError.TheVariants.{BadSpec, Unsealable, TooLarge, BlockTooLong, NotBootable, Displaced, Memory}
use Rattle.image_pack.specs.declared.spec.SealSpec.{SealSpec}
use Rattle.image_pack.specs.declared.spec.SpecField.{SpecField}
use Rattle.image_pack.specs.declared.spec.SpecField.TheVariants.{Rollback, Rows}
use Rattle.image_pack.specs.Filling.{whole_sectors, whole_words}
use Rattle.image_pack.specs.Sealing.{parts_in, sealed_text}

-- a rollback version and rows go together, and the version is within its bound
abbrev pub IsRightRollback : Option ℕ → List ℕ → Type 0
IsRightRollback None rows = rows ≡ []
IsRightRollback (Some version) rows = (rows ≢ []) × IsRollbackVersion version rows

-- the rows may be listed, and the rollback version goes with them
pub record IsRightSpec (spec : SealSpec) : Type 0 where
  pub rows : AreRollbackRows spec.rows.items
  pub rollback : IsRightRollback spec.rollback spec.rows.items

-- a part of the spec is wrong, the rows first
abbrev pub IsWrong : SealSpec → SpecField → Type 0
IsWrong spec Rows = AreRollbackRows spec.rows.items → ⊥
IsWrong spec Rollback =
    AreRollbackRows spec.rows.items × (IsRightRollback spec.rollback spec.rows.items → ⊥)

-- the offset of the new block: the length of the binary in whole words
abbrev pub block_offset : List ℕ → ℕ
block_offset binary = length (whole_words binary)

-- the number of bytes of the new block: those of the sealed image from the block's offset on
abbrev pub new_block_size : List ℕ → SealSpec → ℕ
new_block_size binary spec = length (sealed_text binary spec) - block_offset binary

-- the spec is right, and the binary keeps these rules of a valid image: those from the first block
-- to the items, and the rule on the load map
pub record IsSealable (binary : List ℕ) (spec : SealSpec) : Type 0 where
  pub right : IsRightSpec spec
  pub parts : Parts
  pub read : parts_in spec.cpu (whole_sectors binary) ≡ Ok parts

-- the binary is sealable, and the sealed image and its new block are not too long
pub record IsShort (binary : List ℕ) (spec : SealSpec) : Type 0 where
  pub sealable : IsSealable binary spec
  pub image : length (sealed_text binary spec) ≤ MOST_FLASH_BYTES
  pub block : new_block_size binary spec ≤ MOST_BLOCK_BYTES

-- an OTP of zeros
unfoldable pub zero_otp : List ℕ
zero_otp = replicate 4096 0

-- the window that the image fills, in whole sectors
abbrev pub whole_window : List ℕ → Window
whole_window image = record { start = 0; len = length (whole_sectors image) }

-- alone in a window, with an OTP of zeros and trial images allowed, this image starts as s says
abbrev pub Boots : Cpu → List ℕ → Started → Type 0
Boots cpu image s =
    IsValidImage in_flash (whole_window image) cpu true zero_otp (whole_sectors image) s

-- alone in a window, with an OTP of zeros and trial images allowed, this image does not start for
-- this reason
abbrev pub FailsToBoot : Cpu → List ℕ → Why → Type 0
FailsToBoot cpu image why = IsWhyNot in_flash cpu true zero_otp (whole_sectors image) why

-- the binary is sealed by the spec: it is sealable and short, and the sealed image starts by its
-- new block
pub record IsSealed (binary : List ℕ) (spec : SealSpec) : Type 0 where
  pub short : IsShort binary spec
  pub started : Started
  pub boots : Boots spec.cpu (sealed_text binary spec) started
  pub block : started.block ≡ block_offset binary

-- the condition of each error; it says that no condition before it holds; missing memory is no
-- fault of the binary or the spec
abbrev pub IsSealFault : List ℕ → SealSpec → SealError → Type 0
IsSealFault binary spec (BadSpec field) = IsWrong spec field
IsSealFault binary spec (Unsealable why) =
    IsRightSpec spec × (parts_in spec.cpu (whole_sectors binary) ≡ Err why)
IsSealFault binary spec TooLarge =
    IsSealable binary spec × (MOST_FLASH_BYTES < length (sealed_text binary spec))
IsSealFault binary spec (BlockTooLong size) =
    IsSealable binary spec × (length (sealed_text binary spec) ≤ MOST_FLASH_BYTES)
    × (MOST_BLOCK_BYTES < size) × (size ≡ new_block_size binary spec)
IsSealFault binary spec (NotBootable why) =
    IsShort binary spec × FailsToBoot spec.cpu (sealed_text binary spec) why
IsSealFault binary spec Displaced =
    IsShort binary spec × ((s : Started) × Boots spec.cpu (sealed_text binary spec) s
    × (s.block ≢ block_offset binary))
IsSealFault binary spec Memory = ⊥
