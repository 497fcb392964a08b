-- What two states have in common as to the images of their windows.
use Rattle.std.specs.Prelude.{◌≡◌, ◌≢◌, ℕ, Bool, List, slice_get, Option, Some, IfSome}
use Rattle.pico_board.specs.declared.window.Window.{Window}
use Rattle.image_def.specs.declared.started.Started.{Started}
use Rattle.slot_choice.specs.declared.unit.Member.{Member}
use Rattle.slot_choice.specs.declared.unit.SlotUnit.{SlotUnit}
use Rattle.slot_choice.specs.declared.choice.Choice.{Choice}
use Rattle.slot_choice.specs.Units.{member_window}

-- the image of a window, valid with trial allowed or not, or none
abbrev pub Images : Type 0
Images = Window → Bool → Option Started

-- f and g have the same image in each member window of these units
pub record HaveSameImages (f g : Images) (us : List SlotUnit) : Type 0 where
  pub same : (i : ℕ) (u : SlotUnit) (m : Member) (v : Window) (trial : Bool)
      → slice_get us i ≡ Some u → member_window m u ≡ Some v → f v trial ≡ g v trial

-- f and g have the same image in each member window of these units but w
pub record HaveSameImagesBut (w : Window) (f g : Images) (us : List SlotUnit) : Type 0 where
  pub same : (i : ℕ) (u : SlotUnit) (m : Member) (v : Window) (trial : Bool)
      → slice_get us i ≡ Some u → member_window m u ≡ Some v → v ≢ w → f v trial ≡ g v trial

-- each image names the window in which it stands
abbrev pub AreInPlace : Images → Type 0
AreInPlace f = (v : Window) (trial : Bool) (s : Started) → f v trial ≡ Some s → s.window ≡ v

-- the choice, if there is one, is not of window w
abbrev pub IsNotIn : Window → Option Choice → Type 0
IsNotIn w choice = IfSome choice (λ c. c.image.window ≢ w)

-- the choice is of window w
pub record IsIn (w : Window) (choice : Option Choice) : Type 0 where
  pub start : Choice
  pub chosen : choice ≡ Some start
  pub there : start.image.window ≡ w
