-- Where the choice of a boot depends on a rule that the chip may have otherwise, as rules.
use Rattle.std.specs.Prelude.{◌≡◌, ◌≢◌, ◌⊎◌, ℕ, ◌+◌, false, List, [], length, slice_get, Some}
use Rattle.pico_board.specs.declared.boot.Cpu.{Cpu}
use Rattle.pico_board.specs.declared.boot.BootKind.{BootKind}
use Rattle.pico_board.specs.declared.boot.BootKind.TheVariants.{Update}
use Rattle.pico_board.specs.declared.window.Window.{Window}
use Rattle.pico_board.specs.declared.window.TheConstants.{SMALLEST_SLOT}
use Rattle.pico_board.specs.Content.{Content, flash_base, window_bytes}
use Rattle.image_def.specs.declared.started.Started.{Started}
use Rattle.image_check.specs.Valid.{Valid}
use Rattle.otp_roll.specs.Flags.{slot_size}
use Rattle.slot_choice.specs.declared.unit.Member.{Member}
use Rattle.slot_choice.specs.declared.unit.SlotUnit.{SlotUnit}
use Rattle.slot_choice.specs.declared.choice.Choice.{Choice}
use Rattle.slot_choice.specs.Units.{IsMember}
use Rattle.slot_choice.specs.Updates.{IsUpdateOf}
use Rattle.boot_rules.specs.declared.decision.Decision.{Decision}
use Rattle.boot_rules.specs.declared.decision.Decision.TheVariants.{Start, Bootsel}
use Rattle.boot_rules.specs.declared.decision.Fall.TheVariants.{NoImage}
use Rattle.boot_rules.specs.declared.tables.Found.{Found}
use Rattle.boot_rules.specs.Tables.{slot_window}
use Rattle.boot_rules.specs.TableRules.{IsTableIn}
use Rattle.boot_reasons.specs.declared.looks.UnitReport.{UnitReport}
use Rattle.boot_reasons.specs.declared.looks.TakenImage.{TakenImage}
use Rattle.boot_reasons.specs.declared.looks.UnitReason.TheVariants.{Tie as IsTied}
use Rattle.slot_caveats.specs.declared.caveat.Caveat.{Caveat}
use Rattle.slot_caveats.specs.declared.caveat.Caveat.TheVariants.{SlotImage, Tie, UpdateOfSlot, UpdateMovesUnit, UpdateOfNothing}
use Rattle.slot_caveats.specs.Listing.{AreBoth, IsFirstWith, IsOfOne, IsWhere}
use Rattle.boot_caveats.specs.ChoiceCaveats.{takes_image}
use Rattle.slot_caveats.specs.SlotCaveats.{flash_from}
use Rattle.slot_caveats.specs.SlotRules.{HasExecutable}

-- the decision is a start of the image of a window
abbrev pub StartsIn : Decision → Window → Type 0
StartsIn d w = (choice : Choice) × (d ≡ Start choice) × (choice.image.window ≡ w)

-- there is no table, and the slot size is the smallest
abbrev pub IsTableless : Content → Type 0
IsTableless c =
    ((found : Found) → IsTableIn c found → ⊥)
    × (slot_size c.otp (length c.flash) ≡ SMALLEST_SLOT)

-- no image starts, and the window's is valid for the processor with trial not allowed
abbrev pub IsPassedOver : Content → Cpu → Decision → Window → Type 0
IsPassedOver c cpu d w = (d ≡ Bootsel NoImage) × ((s : Started) × Valid c w cpu false s)

-- without a table and with slots of the smallest size: slot 0 has an image that is passed over;
-- slot 1 has one, or the loop of the flash's bytes from slot 1 on closes and has an executable
-- block
abbrev pub IsFirstSlotImage : Content → Cpu → Decision → List Caveat → Type 0
IsFirstSlotImage c cpu d =
    let w = slot_window SMALLEST_SLOT 0 in
    IsWhere (IsTableless c × IsPassedOver c cpu d w) (SlotImage w)

abbrev pub IsSecondSlotImage : Content → Cpu → Decision → List Caveat → Type 0
IsSecondSlotImage c cpu d =
    let w = slot_window SMALLEST_SLOT 1 in
    IsWhere
    (IsTableless c × (HasExecutable (window_bytes c (flash_from c SMALLEST_SLOT))
    ⊎ IsPassedOver c cpu d w))
    (SlotImage w)

abbrev pub AreSlotImages : Content → Cpu → Decision → List Caveat → Type 0
AreSlotImages c cpu d = AreBoth (IsFirstSlotImage c cpu d) (IsSecondSlotImage c cpu d)

-- the first unit that takes an image takes that of a window because of a tie; `other` is the other
-- member's window
pub record IsTiedPair (looks : List UnitReport) (w other : Window) : Type 0 where
  pub look : UnitReport
  pub taken : TakenImage
  pub first : IsFirstWith takes_image looks look
  pub takes : look.taken ≡ Some taken
  pub because : taken.because ≡ IsTied
  pub window : taken.window ≡ w
  pub second : look.unit.b ≡ Some other

abbrev pub IsTie : List UnitReport → List Caveat → Type 0
IsTie looks =
    IsOfOne (λ (pair : Window × Window). IsTiedPair looks pair.0 pair.1)
    (λ pair. Tie pair.0 pair.1)

-- an address is that of a table slot, and there is a table
abbrev pub IsOfSlot : Content → ℕ → Type 0
IsOfSlot c base =
    ((found : Found) × IsTableIn c found)
    × ((base ≡ flash_base) ⊎ (base ≡ flash_base + slot_size c.otp (length c.flash)))

-- the kind is an update boot whose address is that of a table slot, and there is a table
abbrev pub IsUpdateOfSlot : Content → BootKind → List Caveat → Type 0
IsUpdateOfSlot c kind = IsOfOne (λ base. (kind ≡ Update base) × IsOfSlot c base) UpdateOfSlot

-- an update of an address moves the unit of a partition to the front: the unit is that of the
-- updated member, and others stand before it
pub record IsMovedPart (us : List SlotUnit) (base part : ℕ) : Type 0 where
  pub member : Member
  pub unit : SlotUnit
  pub window : Window
  pub updates : IsUpdateOf us base member unit window
  pub behind : updates.before ≢ []
  pub first : unit.a_part ≡ Some part

abbrev pub IsUpdateMovesUnit : BootKind → List SlotUnit → List Caveat → Type 0
IsUpdateMovesUnit kind us =
    IsOfOne (λ part. (base : ℕ) × (kind ≡ Update base) × IsMovedPart us base part)
    UpdateMovesUnit

-- no member of a unit starts at an address
abbrev pub IsOfNoMember : List SlotUnit → ℕ → Type 0
IsOfNoMember us base =
    (k : ℕ) (u : SlotUnit) (w : Window) → slice_get us k ≡ Some u → IsMember u w
    → flash_base + w.start ≢ base

-- the kind is an update boot at whose address no member of a boot unit starts, and the address is
-- not that of a table slot with a table beside it
abbrev pub IsUpdateOfNothing : Content → BootKind → List SlotUnit → List Caveat → Type 0
IsUpdateOfNothing c kind us =
    IsOfOne (λ base. (kind ≡ Update base) × IsOfNoMember us base × (IsOfSlot c base → ⊥))
    UpdateOfNothing
