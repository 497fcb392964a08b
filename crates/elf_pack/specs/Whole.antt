-- What the sealed image of an ELF file is to the board: it starts, and it gives the bytes of the
-- file's segments.
use Rattle.std.specs.Prelude.{◌≡◌, ℕ, ◌+◌, ◌<◌, ◌≤◌, true, List, ◌++◌, length, slice_get, Some, Ok}
use Rattle.pico_board.specs.declared.window.Window.{Window}
use Rattle.pico_board.specs.Content.{Content, flash_base, window_bytes}
use Rattle.block_codec.specs.Blocks.{BlockView}
use Rattle.block_codec.specs.Erased.{AreErased}
use Rattle.load_map.specs.declared.addresses.TheConstants.{SRAM_START}
use Rattle.load_map.specs.declared.load.Load.{Load}
use Rattle.load_map.specs.Given.{byte_at}
use Rattle.image_check.specs.declared.examining.Defined.{Defined}
use Rattle.image_check.specs.Addressing.{in_flash}
use Rattle.image_check.specs.Changes.{moved_to}
use Rattle.image_check.specs.Rules.{map_loads}
use Rattle.image_check.specs.Valid.{IsDefined, Valid}
use Rattle.image_pack.specs.declared.spec.SealSpec.{SealSpec}
use Rattle.image_pack.specs.Faults.{IsSealed}
use Rattle.image_pack.specs.Filling.{whole_sectors}
use Rattle.image_pack.specs.ReadBack.{MeetsRollback}
use Rattle.image_pack.specs.Sealing.{sealed_text}
use Rattle.elf_pack.specs.declared.segment.Segment.{Segment}
use Rattle.elf_pack.specs.Binaries.{elf_binary}
use Rattle.elf_pack.specs.Faults.{HasAddress}
use Rattle.elf_pack.specs.Segments.{byte_of, segments}

-- the sealed image of a file by a spec, in whole sectors
abbrev pub image_sectors : List ℕ → SealSpec → List ℕ
image_sectors elf spec = whole_sectors (sealed_text (elf_binary spec.cpu elf) spec)

-- an address of the four bytes of a link at an offset of the image, in flash
abbrev pub IsOfLink : ℕ → ℕ → Type 0
IsOfLink at address = (flash_base + at ≤ address) × (address < flash_base + at + 4)

-- a window with these bytes gives the bytes of the file's segments, with the loads of the image's
-- definition: the byte at each address of each segment is the segment's byte, but for those of the
-- link at this offset
pub record GivesSegments (elf : List ℕ) (spec : SealSpec) (link_at : ℕ)
    (bytes : List ℕ) : Type 0 where
  pub loop : List BlockView
  pub image : Defined
  pub loads : List Load
  pub defined : IsDefined spec.cpu bytes loop image
  pub map : map_loads in_flash (length bytes) image.block image.def ≡ Ok loads
  pub gives : (i : ℕ) (s : Segment) (address : ℕ) → slice_get (segments elf) i ≡ Some s
      → HasAddress address s → (IsOfLink link_at address → ⊥)
      → byte_at flash_base bytes loads address ≡ Some (byte_of elf address s)

-- the sealed image of a file stands at the start of a window of a flash with 0xff after it: it is
-- valid with trial images allowed, for every OTP that meets the spec's rollback rule; and it gives
-- the bytes of the file's segments, but for the link that sealing rewrites in the binary
pub record IsElfWhole (elf : List ℕ) (spec : SealSpec) : Type 0 where
  pub sealed : IsSealed (elf_binary spec.cpu elf) spec
  pub starts : (c : Content) (w : Window) (f : List ℕ) → AreErased f
      → window_bytes c w ≡ image_sectors elf spec ++ f
      → flash_base + length (image_sectors elf spec ++ f) ≤ SRAM_START
      → MeetsRollback c.otp spec → Valid c w spec.cpu true (moved_to w sealed.started)
  pub bytes : (f : List ℕ) → AreErased f
      → flash_base + length (image_sectors elf spec ++ f) ≤ SRAM_START
      → GivesSegments elf spec sealed.short.sealable.parts.link_at (image_sectors elf spec ++ f)
