-- A sealed image as it is read back from a window that begins with it.
use Rattle.std.specs.Prelude.{◌≡◌, ◌≢◌, ℕ, ◌+◌, ◌*◌, ◌∷◌, ◌++◌, ◌^◌, ◌<◌, ◌≤◌, IsTrue, List, [], length, take, slice_get, IfSome, Ok, Some, option_and_then}
use Rattle.std.specs.Option.{option_map_or}
use Rattle.block_codec.specs.declared.items.Item.{Item}
use Rattle.block_codec.specs.declared.versions.Version.{Version}
use Rattle.block_codec.specs.Blocks.{BlockView}
use Rattle.block_codec.specs.Items.{items_of}
use Rattle.image_def.specs.declared.started.Started.{Started}
use Rattle.image_def.specs.Flags.{is_trial}
use Rattle.load_map.specs.declared.load.Load.{Load}
use Rattle.load_map.specs.Covered.{covered}
use Rattle.otp_roll.specs.Flags.{rollback_required}
use Rattle.otp_roll.specs.Rows.{count}
use Rattle.image_check.specs.declared.examining.Defined.{Defined}
use Rattle.image_check.specs.Addressing.{in_flash}
use Rattle.image_check.specs.Rules.{map_loads}
use Rattle.image_check.specs.Valid.{IsDefined}
use Rattle.sha2.specs.Sha256.{sha256}
use Rattle.image_pack.specs.declared.spec.SealSpec.{SealSpec}
use Rattle.image_pack.specs.Faults.{block_offset}
use Rattle.image_pack.specs.Filling.{whole_sectors}
use Rattle.image_pack.specs.Sealing.{copied_loads, load_in_place}
use Rattle.image_pack.specs.Starts.{KeepsStart}
use Rattle.image_pack.specs.Unsealable.{KeepsRules}

-- major and minor are half words, as they are in a block
pub record IsHalves (v : Version) : Type 0 where
  pub major : v.major < 2 ^ 16
  pub minor : v.minor < 2 ^ 16

-- a record says what a spec asks for: the version, the rollback version with the rows that it is
-- counted by, and the trial bit
pub record SaysSpec (spec : SealSpec) (s : Started) : Type 0 where
  pub version : s.version ≡ spec.version
  pub rollback : s.rollback ≡ spec.rollback
  pub rows : s.rows ≡ spec.rows
  pub trial : s.trial ≡ spec.trial

-- an OTP meets the rollback rule of a spec: where there is a rollback version, it is at least the
-- count of the rows; where the OTP requires rollback versions, there are rows
pub record MeetsRollback (otp : List ℕ) (spec : SealSpec) : Type 0 where
  pub version : IfSome spec.rollback (λ v. count otp spec.rows.items ≤ v)
  pub required : IsTrue (rollback_required otp) → spec.rows.items ≢ []

-- the covered bytes of an image in a window, by its loads
abbrev pub covered_of : List ℕ → Defined → List Load → List ℕ
covered_of bytes image loads =
    covered bytes loads image.block image.def.hash_words image.def.image_word

-- the offset of the LOAD_MAP item of an image in its window, and 0 where it has none
abbrev pub map_place : Defined → ℕ
map_place image =
    option_map_or (λ (item : Item). image.block.at + 4 * item.first)
    (option_and_then (slice_get (items_of image.block.items)) image.def.map_item) 0

-- a window has the image of a binary that was sealed by a spec. The definition is the new block:
-- it says what the spec asks for, and keeps the start that the binary's own definition says. The
-- first load is all bytes before the new block, where they are stored. The other loads are those
-- of the binary that go into SRAM, in order. A LOAD_MAP item after the start of the new block has
-- the loads. The covered bytes begin with all bytes before the new block. Their SHA-256 is the
-- value of its HASH_VALUE item
pub record IsReadBack (binary : List ℕ) (spec : SealSpec) (bytes : List ℕ) : Type 0 where
  pub loop : List BlockView
  pub image : Defined
  pub loads : List Load
  pub defined : IsDefined spec.cpu bytes loop image
  pub place : image.block.at ≡ block_offset binary
  pub version : image.def.version ≡ spec.version
  pub rollback : image.def.rollback ≡ spec.rollback
  pub rows : image.def.rows ≡ spec.rows
  pub trial : is_trial image.def.flags ≡ spec.trial
  pub start : (own : KeepsRules spec.cpu (whole_sectors binary))
      → KeepsStart own.image.def image.def
  pub map : map_loads in_flash (length bytes) image.block image.def ≡ Ok loads
  pub copied : List Load
  pub first : loads ≡ load_in_place (block_offset binary) ∷ copied
  pub behind : block_offset binary < map_place image
  pub kept : (own : KeepsRules spec.cpu (whole_sectors binary))
      → copied ≡ copied_loads (map_place image) own.loads
  pub rest : List ℕ
  pub before : covered_of bytes image loads ≡ take (block_offset binary) bytes ++ rest
  pub digest : image.def.digest ≡ Some (sha256 (covered_of bytes image loads))
