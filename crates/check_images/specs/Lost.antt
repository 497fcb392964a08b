-- The images that are lost where an update leads from the content c to z.
use Rattle.std.specs.Prelude.{◌≡◌, ◌⊎◌, ℕ, ◌<◌, false, List, slice_get, Option, Some, None}
use Rattle.pico_board.specs.declared.boot.Cpu.{Cpu}
use Rattle.pico_board.specs.declared.boot.BootKind.TheVariants.{Normal}
use Rattle.pico_board.specs.declared.window.Window.{Window}
use Rattle.pico_board.specs.Content.{Content}
use Rattle.image_def.specs.declared.started.Started.{Started}
use Rattle.image_check.specs.Valid.{Valid}
use Rattle.image_check.specs.WhyNot.{WhyNot}
use Rattle.slot_choice.specs.declared.choice.Choice.{Choice}
use Rattle.boot_rules.specs.declared.decision.Decision.TheVariants.{Start}
use Rattle.boot_rules.specs.Chosen.{Chosen}
use Rattle.check_images.specs.declared.found.Loss.{Loss}
use Rattle.check_images.specs.declared.found.Loss.TheVariants.{NoUnit, Fault}
use Rattle.check_images.specs.declared.found.LostWindow.{LostWindow}
use Rattle.check_images.specs.Boots.{after_boot}
use Rattle.check_images.specs.Lines.{AreLinesOf}
use Rattle.check_images.specs.Members.{members_in}

-- a window is valid, with no trial image allowed
abbrev pub IsValidIn : Content → Cpu → Window → Type 0
IsValidIn c cpu w = (s : Started) × Valid c w cpu false s

-- v is the first member of a boot unit of z that begins where w does
pub record BeginsWith (z : Content) (cpu : Cpu) (w v : Window) : Type 0 where
  pub place : ℕ
  pub member : slice_get (members_in z cpu) place ≡ Some v
  pub begins : v.start ≡ w.start
  pub first : (j : ℕ) (u : Window) → j < place → slice_get (members_in z cpu) j ≡ Some u
      → u.start ≡ w.start → ⊥

-- a normal boot on z starts an image of the unit that v is a member of
pub record IsOfStartingUnit (z : Content) (cpu : Cpu) (v : Window) : Type 0 where
  pub choice : Choice
  pub chosen : Chosen z cpu Normal (Start choice)
  pub member : (choice.image.window ≡ v) ⊎ (choice.other ≡ Some v)

-- The image of a window is lost. No member of a boot unit of z begins where the window does. Or the
-- window of that member, which is not of the unit that starts, has a fault after a normal boot on z.
abbrev pub IsLoss : Content → Cpu → Window → Loss → Type 0
IsLoss z cpu w NoUnit = (v : Window) → BeginsWith z cpu w v → ⊥
IsLoss z cpu w (Fault why) =
    (v : Window) × BeginsWith z cpu w v × (IsOfStartingUnit z cpu v → ⊥)
    × WhyNot (after_boot z cpu) v cpu false why

-- the image of a window is kept: the member that begins there is of the unit that starts, or valid
abbrev pub IsKept : Content → Cpu → Window → Type 0
IsKept z cpu w =
    (v : Window) × BeginsWith z cpu w v
    × (IsOfStartingUnit z cpu v ⊎ IsValidIn (after_boot z cpu) cpu v)

-- what is told of a window that is valid on c: that its image is lost, or nothing
abbrev pub IsLost : Content → Content → Cpu → Window → Option LostWindow → Type 0
IsLost c z cpu w None = IsValidIn c cpu w → IsKept z cpu w
IsLost c z cpu w (Some line) =
    (line.window ≡ w) × IsValidIn c cpu w × IsLoss z cpu w line.loss

-- the lines of the members of boot units of c
abbrev pub AreLost : Content → Content → Cpu → List LostWindow → Type 0
AreLost c z cpu lines = AreLinesOf (IsLost c z cpu) (members_in c cpu) lines
