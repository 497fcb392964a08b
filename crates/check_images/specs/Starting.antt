-- The image that a normal boot starts, and the one beside it.
use Rattle.std.specs.Prelude.{◌≡◌, false, Option, Some, None}
use Rattle.pico_board.specs.declared.boot.Cpu.{Cpu}
use Rattle.pico_board.specs.declared.boot.BootKind.TheVariants.{Normal}
use Rattle.pico_board.specs.Content.{Content}
use Rattle.slot_choice.specs.declared.choice.Choice.{Choice}
use Rattle.boot_rules.specs.declared.decision.Decision.TheVariants.{Start}
use Rattle.boot_rules.specs.Chosen.{Chosen}
use Rattle.boot_cuts.specs.Classes.{Falls}
use Rattle.check_images.specs.declared.found.ImageFacts.{ImageFacts}
use Rattle.check_images.specs.declared.found.JudgedWindow.{JudgedWindow}
use Rattle.check_images.specs.Boots.{after_boot}
use Rattle.check_images.specs.Images.{IsImageOf, IsJudged}

-- a normal boot on z starts an image of which this is told
pub record StartsImage (z : Content) (cpu : Cpu) (told : ImageFacts) : Type 0 where
  pub choice : Choice
  pub chosen : Chosen z cpu Normal (Start choice)
  pub image : IsImageOf z choice.image.window cpu false told

-- what is told of the image that a normal boot on z starts, or that it falls
abbrev pub IsStart : Content → Cpu → Option ImageFacts → Type 0
IsStart z cpu None = Falls z cpu
IsStart z cpu (Some told) = StartsImage z cpu told

-- a normal boot on z starts an image of a unit whose other member is this window, with this image
-- after that boot, where no trial image is allowed
pub record FallsBack (z : Content) (cpu : Cpu) (line : JudgedWindow) : Type 0 where
  pub choice : Choice
  pub chosen : Chosen z cpu Normal (Start choice)
  pub other : choice.other ≡ Some line.window
  pub image : IsJudged (after_boot z cpu) line.window cpu false line.image

-- the other member of the unit that starts, or nothing where nothing starts or there is none
abbrev pub IsFallback : Content → Cpu → Option JudgedWindow → Type 0
IsFallback z cpu None = (choice : Choice) → Chosen z cpu Normal (Start choice) → choice.other ≡ None
IsFallback z cpu (Some line) = FallsBack z cpu line
