-- What a start writes: `start_steps` (RP2350 Datasheet, chapter 5, "A/B versions" and "Flash
-- update boot"; the details are this project's own).
use Rattle.std.specs.Prelude.{ℕ, ◌/◌, Bool, true, false, not, ◌&&◌, List, [], ◌∷◌, ◌++◌, if◌then◌else◌, Option, Some, None}
use Rattle.std.specs.Result.{result_ok}
use Rattle.pico_board.specs.declared.Step.{Step}
use Rattle.pico_board.specs.declared.Step.TheVariants.{Erase}
use Rattle.pico_board.specs.declared.boot.Cpu.{Cpu}
use Rattle.pico_board.specs.declared.window.Window.{Window}
use Rattle.pico_board.specs.Content.{Content}
use Rattle.block_codec.specs.declared.versions.Version.{Version}
use Rattle.image_def.specs.declared.started.Started.{Started}
use Rattle.otp_roll.specs.Raises.{raises}
use Rattle.slot_choice.specs.declared.unit.Member.{Member}
use Rattle.slot_choice.specs.declared.unit.Member.TheVariants.{A, B}
use Rattle.slot_choice.specs.declared.choice.Choice.{Choice}
use Rattle.slot_choice.specs.Versions.{better_of}
use Rattle.image_check.specs.Image.{image_at}

abbrev pub is_second : Member → Bool
is_second A = false
is_second B = true

-- the other member's image is better than the started one
abbrev pub is_other_better : Member → Version → Version → Bool
is_other_better A started other = is_second (better_of started other)
is_other_better B started other = not (is_second (better_of other started))

-- the image of the other member, valid in a normal boot
abbrev pub other_image : Content → Cpu → Option Window → Option Started
other_image c cpu None = None
other_image c cpu (Some w) = result_ok (image_at c w cpu false)

-- a better image is lost where a start was updated: its window's first sector is erased
abbrev pub erase_of : Choice → Option Window → Option Started → List Step
erase_of choice None image = []
erase_of choice (Some w) None = []
erase_of choice (Some w) (Some other) =
    if choice.updated && is_other_better choice.member choice.image.version other.version
    then Erase (w.start / 4096) ∷ []
    else []

abbrev pub other_erase : Content → Cpu → Choice → List Step
other_erase c cpu choice = erase_of choice choice.other (other_image c cpu choice.other)

-- the rows of an image rise to its rollback version, where it has one
abbrev pub raises_of : List ℕ → List ℕ → Option ℕ → List Step
raises_of otp rows None = []
raises_of otp rows (Some version) = raises otp rows version

abbrev pub image_raises : List ℕ → Started → List Step
image_raises otp s = raises_of otp s.rows.items s.rollback

-- the other member's better image is erased, and the rows rise
abbrev pub settling : Content → Cpu → Choice → List Step
settling c cpu choice = other_erase c cpu choice ++ image_raises c.otp choice.image

-- the erase of a start: that of the other member's better image, and none for a trial image
abbrev pub start_erase : Content → Cpu → Choice → List Step
start_erase c cpu choice = if choice.image.trial then [] else other_erase c cpu choice

-- the steps of a start: the settling of the started image, and nothing for a trial image
abbrev pub start_steps : Content → Cpu → Choice → List Step
start_steps c cpu choice = if choice.image.trial then [] else settling c cpu choice

-- the erase of a sector, if there is one
abbrev pub erase_in : Option ℕ → List Step
erase_in None = []
erase_in (Some sector) = Erase sector ∷ []
