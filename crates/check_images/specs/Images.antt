-- What is told of the image of a window.
use Rattle.std.specs.Prelude.{◌≡◌, ◌↔◌, Bool, true, IsSome, None, Result, Ok, Err}
use Rattle.pico_board.specs.declared.boot.Cpu.{Cpu}
use Rattle.pico_board.specs.declared.window.Window.{Window}
use Rattle.pico_board.specs.Content.{Content}
use Rattle.block_codec.specs.declared.definition.Def.{Def}
use Rattle.image_def.specs.declared.started.Started.{Started}
use Rattle.image_check.specs.declared.why.Why.{Why}
use Rattle.image_check.specs.Valid.{Valid}
use Rattle.image_check.specs.WhyNot.{WhyNot}
use Rattle.boot_sweep.specs.Firms.{Firm}
use Rattle.check_images.specs.declared.found.Hashed.{Hashed}
use Rattle.check_images.specs.declared.found.Hashed.TheVariants.{Yes, Bare, No}
use Rattle.check_images.specs.declared.found.ImageFacts.{ImageFacts}

-- the definition has a HASH_VALUE and a LOAD_MAP, a HASH_VALUE alone, or no HASH_VALUE
abbrev pub IsHashed : Def → Hashed → Type 0
IsHashed def Yes = IsSome def.digest × IsSome def.map_item
IsHashed def Bare = IsSome def.digest × (def.map_item ≡ None)
IsHashed def No = def.digest ≡ None

-- the window holds a valid image, with a trial image allowed or not, of which this is told
pub record IsImageOf (c : Content) (w : Window) (cpu : Cpu) (trial : Bool) (told : ImageFacts)
    : Type 0 where
  pub image : Started
  pub valid : Valid c w cpu trial image
  pub version_is : told.version ≡ image.version
  pub rollback_is : told.rollback ≡ image.rollback
  pub trial_is : told.trial ≡ image.trial
  pub hash_is : IsHashed valid.image.def told.hash
  pub firm_is : (told.firm ≡ true) ↔ Firm c w cpu image

-- what is told of the image of a window, or the first rule that it fails
abbrev pub IsJudged : Content → Window → Cpu → Bool → Result ImageFacts Why → Type 0
IsJudged c w cpu trial (Ok told) = IsImageOf c w cpu trial told
IsJudged c w cpu trial (Err why) = WhyNot c w cpu trial why
