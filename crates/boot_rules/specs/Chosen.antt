-- The decision of a boot as the rules name it (RP2350 Datasheet, chapter 5, Bootrom; this project's
-- own where the datasheet is open; the order of versions and the update rule as a whole): Chosen,
-- and IsBootMember.
use Rattle.std.specs.Prelude.{◌≡◌, ◌⊎◌, ℕ, zero, suc, ◌<◌, Bool, true, false, IsTrue, slice_get, Option, Some, None, MatchBool}
use Rattle.pico_board.specs.declared.boot.Cpu.{Cpu}
use Rattle.pico_board.specs.declared.boot.BootKind.{BootKind}
use Rattle.pico_board.specs.declared.boot.BootKind.TheVariants.{Normal, Update, Bootsel as AskBootsel}
use Rattle.pico_board.specs.declared.window.Window.{Window}
use Rattle.pico_board.specs.Content.{Content}
use Rattle.image_def.specs.declared.started.Started.{Started}
use Rattle.otp_roll.specs.Flags.{flash_off}
use Rattle.block_codec.specs.declared.versions.Version.{Version}
use Rattle.slot_choice.specs.declared.unit.Member.{Member}
use Rattle.slot_choice.specs.declared.unit.Member.TheVariants.{A, B}
use Rattle.slot_choice.specs.declared.unit.SlotUnit.{SlotUnit}
use Rattle.slot_choice.specs.declared.choice.Choice.{Choice}
use Rattle.slot_choice.specs.Versions.{better_of}
use Rattle.image_check.specs.Valid.{Valid}
use Rattle.boot_rules.specs.declared.decision.Decision.{Decision}
use Rattle.boot_rules.specs.declared.decision.Decision.TheVariants.{Start, Bootsel}
use Rattle.boot_rules.specs.declared.decision.Fall.TheVariants.{Requested, FlashOff, NoImage}
use Rattle.boot_rules.specs.Choosing.{Order, order_of, boot_units_in, other_of}
use Rattle.slot_choice.specs.Units.{member_window}

-- a member is this one
abbrev pub is_member : Option Member → Member → Bool
is_member None m = false
is_member (Some A) A = true
is_member (Some A) B = false
is_member (Some B) A = false
is_member (Some B) B = true

-- member m of the unit at a place is the updated one, which is a member of the first unit
abbrev pub is_updated : Order → ℕ → Member → Bool
is_updated order zero m = is_member order.updated m
is_updated order (suc i) m = false

-- s is the image of member m of unit u at a place, and it counts: it is valid with trial allowed
-- exactly in the updated member
pub record Counts (c : Content) (cpu : Cpu) (order : Order) (place : ℕ) (u : SlotUnit) (m : Member)
    (s : Started) : Type 0 where
  pub window : Window
  pub tried : slice_get order.units place ≡ Some u
  pub stands : member_window m u ≡ Some window
  pub valid : Valid c window cpu (is_updated order place m) s

-- a member whose image has the first version is better than the other one, whose image has the
-- second
abbrev pub IsBetter : Member → Version → Version → Type 0
IsBetter A version other = better_of version other ≡ A
IsBetter B version other = better_of other version ≡ B

-- neither is the updated member's image passed over, nor that of a better member
pub record IsBest (c : Content) (cpu : Cpu) (order : Order) (place : ℕ) (u : SlotUnit) (m : Member)
    (s : Started) : Type 0 where
  pub no_update : (t : Started) → IsTrue (is_updated order place (other_of m))
      → Counts c cpu order place u (other_of m) t → ⊥
  pub better : (t : Started) → Counts c cpu order place u (other_of m) t
      → IsBetter m s.version t.version

-- the choice is that of a counting image. No member of a unit before its own has one, and it is the
-- updated member's or the best of its unit
pub record IsStart (c : Content) (cpu : Cpu) (order : Order) (choice : Choice) : Type 0 where
  pub place : ℕ
  pub unit : SlotUnit
  pub counts : Counts c cpu order place unit choice.member choice.image
  pub first : (i : ℕ) (u : SlotUnit) (m : Member) (s : Started) → i < place
      → Counts c cpu order i u m s → ⊥
  pub best : IsTrue (is_updated order place choice.member)
      ⊎ IsBest c cpu order place unit choice.member choice.image
  pub other : choice.other ≡ member_window (other_of choice.member) unit
  pub updated : choice.updated ≡ is_updated order place choice.member

-- the decision of a boot that tries the units in this order
abbrev pub ChosenFrom : Content → Cpu → Order → Decision → Type 0
ChosenFrom c cpu order (Start choice) = IsStart c cpu order choice
ChosenFrom c cpu order (Bootsel Requested) = ⊥
ChosenFrom c cpu order (Bootsel FlashOff) = ⊥
ChosenFrom c cpu order (Bootsel NoImage) = (i : ℕ) (u : SlotUnit) (m : Member) (s : Started)
    → Counts c cpu order i u m s → ⊥

-- the decision of a boot from flash
abbrev pub ChosenInFlash : Content → Cpu → BootKind → Decision → Type 0
ChosenInFlash c cpu kind d =
    MatchBool (flash_off c.otp) (d ≡ Bootsel FlashOff)
    (ChosenFrom c cpu (order_of kind (boot_units_in c cpu)) d)

-- Chosen: d is the decision of a boot of this kind on this content
abbrev pub Chosen : Content → Cpu → BootKind → Decision → Type 0
Chosen c cpu AskBootsel d = d ≡ Bootsel Requested
Chosen c cpu Normal d = ChosenInFlash c cpu Normal d
Chosen c cpu (Update base) d = ChosenInFlash c cpu (Update base) d

-- IsBootMember: the window is a member of a boot unit that is a pair
pub record IsBootMember (c : Content) (w : Window) (cpu : Cpu) : Type 0 where
  pub place : ℕ
  pub unit : SlotUnit
  pub member : Member
  pub other : Window
  pub tried : slice_get (boot_units_in c cpu) place ≡ Some unit
  pub stands : member_window member unit ≡ Some w
  pub pair : member_window (other_of member) unit ≡ Some other
