-- The definitions of the laws on power that is lost in what a boot or a buy writes.
use Rattle.std.specs.Prelude.{◌≡◌, ◌≢◌, ◌⊎◌, ℕ, false, true, List, slice_get, Some, Contains}
use Rattle.pico_board.specs.declared.Step.{Step}
use Rattle.pico_board.specs.declared.Step.TheVariants.{Raise}
use Rattle.pico_board.specs.declared.boot.Cpu.{Cpu}
use Rattle.pico_board.specs.declared.boot.BootKind.TheVariants.{Normal}
use Rattle.pico_board.specs.declared.window.Window.{Window}
use Rattle.pico_board.specs.Content.{Content}
use Rattle.pico_board.specs.Sessions.{IsConfined}
use Rattle.otp_roll.specs.Rows.{AreRowsApart, IsOutside}
use Rattle.image_def.specs.declared.started.Started.{Started}
use Rattle.image_check.specs.Changes.{bought}
use Rattle.image_check.specs.SameImage.{SameImage}
use Rattle.image_check.specs.Valid.{Valid}
use Rattle.slot_choice.specs.declared.unit.Member.{Member}
use Rattle.slot_choice.specs.declared.unit.SlotUnit.{SlotUnit}
use Rattle.slot_choice.specs.declared.choice.Choice.{Choice}
use Rattle.slot_choice.specs.Units.{member_window}
use Rattle.trial_buy.specs.Buying.{buy_steps}
use Rattle.trial_buy.specs.Starting.{start_steps}
use Rattle.boot_rules.specs.declared.decision.Decision.TheVariants.{Start}
use Rattle.boot_rules.specs.Choosing.{boot_units_in}
use Rattle.boot_rules.specs.Chosen.{Chosen}
use Rattle.boot_rules.specs.Picking.{pick}
use Rattle.boot_rules.specs.AccidentalImages.{HasNoAccidentalImage}

-- the steps are the `start_steps` of an updated start, or the `buy_steps` of a running trial image
abbrev pub AreOwnSteps : Content → Cpu → Choice → List Step → Type 0
AreOwnSteps c cpu choice steps =
    ((choice.updated ≡ true) × (steps ≡ start_steps c cpu choice))
    ⊎ ((choice.image.trial ≡ true) × (steps ≡ buy_steps c cpu choice))

-- the window is that of the started image or the other one of its unit
abbrev pub IsUnitWindow : Choice → Window → Type 0
IsUnitWindow choice v = (v ≡ choice.image.window) ⊎ (choice.other ≡ Some v)

-- where the step that is cut is an erase or a program, the cut leaves the former table; it leaves
-- no accidental image in the window that the step writes
abbrev pub LeavesNoAccidentalImage : Content → Content → Content → Cpu → Choice → Step → Type 0
LeavesNoAccidentalImage c z d cpu choice step =
    (v : Window) → IsUnitWindow choice v → IsConfined v step → HasNoAccidentalImage c z d v cpu

-- the pick of the unit on d and on z is the started image with a clear trial bit, with the same
-- bytes
pub record PicksBought (z d : Content) (u : SlotUnit) (cpu : Cpu) (choice : Choice) : Type 0 where
  pub here : pick d u cpu ≡ Some (bought choice.image)
  pub after : pick z u cpu ≡ Some (bought choice.image)
  pub same : SameImage d z (bought choice.image) cpu

-- the choice of the started image, with a clear trial bit, in a boot without an update
abbrev pub settled_choice : Choice → Choice
settled_choice choice = record {
  image = bought choice.image;
  member = choice.member;
  other = choice.other;
  updated = false;
}

-- a normal boot starts on d and on z the started image with a clear trial bit, with the same bytes
pub record StartsBought (z d : Content) (cpu : Cpu) (choice : Choice) : Type 0 where
  pub here : Chosen d cpu Normal (Start (settled_choice choice))
  pub after : Chosen z cpu Normal (Start (settled_choice choice))
  pub same : SameImage d z (bought choice.image) cpu

-- the steps raise no row in the triple of a row that an image of another boot unit lists; images
-- count that are valid in a normal boot
pub record KeepsOtherRows (c : Content) (cpu : Cpu) (u : SlotUnit)
    (steps : List Step) : Type 0 where
  pub apart : (i : ℕ) (v : SlotUnit) (m : Member) (w : Window) (s : Started) (r row bits : ℕ)
      → slice_get (boot_units_in c cpu) i ≡ Some v → v ≢ u → member_window m v ≡ Some w
      → Valid c w cpu false s → Contains s.rows.items r → Contains steps (Raise row bits)
      → IsOutside row r

-- no image of another boot unit, valid in a normal boot, lists a row whose triple shares a row
-- with a triple that the steps raise; such a triple is that of a row of the started image, and the
-- steps raise a row in it
pub record KeepsOtherTriples (c : Content) (cpu : Cpu) (choice : Choice) (u : SlotUnit)
    (steps : List Step) : Type 0 where
  pub apart : (i : ℕ) (v : SlotUnit) (m : Member) (w : Window) (s : Started) (r q row bits : ℕ)
      → slice_get (boot_units_in c cpu) i ≡ Some v → v ≢ u → member_window m v ≡ Some w
      → Valid c w cpu false s → Contains s.rows.items r → Contains choice.image.rows.items q
      → Contains steps (Raise row bits) → ¬ (IsOutside row q) → AreRowsApart r q
