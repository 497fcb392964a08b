-- The image of a unit that a normal boot would take: `pick`.
use Rattle.std.specs.Prelude.{◌≡◌, ℕ, ◌≤◌, ◌+◌, false, Option, Some, None, option_map, IfSome}
use Rattle.pico_board.specs.declared.boot.Cpu.{Cpu}
use Rattle.pico_board.specs.declared.window.Window.{Window}
use Rattle.pico_board.specs.Content.{Content}
use Rattle.image_def.specs.declared.started.Started.{Started}
use Rattle.slot_choice.specs.declared.unit.Member.{Member}
use Rattle.slot_choice.specs.declared.unit.SlotUnit.{SlotUnit}
use Rattle.slot_choice.specs.declared.choice.Choice.{Choice}
use Rattle.slot_choice.specs.Units.{member_window}
use Rattle.image_check.specs.Valid.{Valid}
use Rattle.boot_rules.specs.Choosing.{images_in, other_of, unit_choice}
use Rattle.boot_rules.specs.Chosen.{IsBetter}

-- the choice in a unit of a content in a normal boot
abbrev pub taken : Content → Cpu → SlotUnit → Option Choice
taken c cpu u = unit_choice (images_in c cpu) u None

-- the member that is taken, if one is
abbrev pub taken_member : Content → Cpu → SlotUnit → Option Member
taken_member c cpu u = option_map (λ (choice : Choice). choice.member) (taken c cpu u)

-- the image of a unit that a normal boot would take, if there is one
abbrev pub pick : Content → SlotUnit → Cpu → Option Started
pick c u cpu = option_map (λ (choice : Choice). choice.image) (taken c cpu u)

-- s is the image of member m of a unit, valid in a normal boot
pub record IsNormalImage (c : Content) (cpu : Cpu) (u : SlotUnit) (m : Member)
    (s : Started) : Type 0 where
  pub window : Window
  pub stands : member_window m u ≡ Some window
  pub valid : Valid c window cpu false s

-- Pick in words: s is the normal-valid image of a member to which the other one, where it has such
-- an image too, is not preferred
pub record IsPick (c : Content) (u : SlotUnit) (cpu : Cpu) (s : Started) : Type 0 where
  pub member : Member
  pub image : IsNormalImage c cpu u member s
  pub better : (t : Started) → IsNormalImage c cpu u (other_of member) t
      → IsBetter member s.version t.version

-- a window stands inside a flash of n bytes
abbrev pub IsInside : ℕ → Window → Type 0
IsInside n w = w.start + w.len ≤ n

-- the members of a unit stand inside a flash of n bytes
pub record AreInside (n : ℕ) (u : SlotUnit) : Type 0 where
  pub first : IsInside n u.a
  pub second : IfSome u.b (IsInside n)
