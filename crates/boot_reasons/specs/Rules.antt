-- Why a boot decides as it does, as rules.
use Rattle.std.specs.Prelude.{◌≡◌, ◌⊎◌, ℕ, true, List, [], length, slice_get, Some, None}
use Rattle.pico_board.specs.declared.boot.Cpu.{Cpu}
use Rattle.pico_board.specs.declared.boot.BootKind.{BootKind}
use Rattle.pico_board.specs.declared.boot.BootKind.TheVariants.{Bootsel as AskBootsel}
use Rattle.pico_board.specs.Content.{Content}
use Rattle.otp_roll.specs.Flags.{flash_off, rollback_required, slot_size}
use Rattle.slot_choice.specs.declared.choice.Choice.{Choice}
use Rattle.boot_rules.specs.declared.decision.Decision.{Decision}
use Rattle.boot_rules.specs.declared.decision.Decision.TheVariants.{Start}
use Rattle.boot_rules.specs.Choosing.{boot_units_in, order_of}
use Rattle.boot_rules.specs.Chosen.{Chosen}
use Rattle.boot_reasons.specs.declared.looks.UnitReport.{UnitReport}
use Rattle.boot_reasons.specs.declared.looks.TakenImage.{TakenImage}
use Rattle.boot_reasons.specs.declared.reasons.Reasons.{Reasons}
use Rattle.boot_reasons.specs.Looks.{is_update, reported_image}
use Rattle.boot_rules.specs.TableRules.{IsSlotAnswer}
use Rattle.boot_reasons.specs.SlotRules.{IsTableInForce}
use Rattle.boot_reasons.specs.LookRules.{AreUnitReports}

-- a boot falls before any unit is looked at: it asks for BOOTSEL, or flash boot is off
abbrev pub FallsBefore : Content → BootKind → Type 0
FallsBefore c kind = (kind ≡ AskBootsel) ⊎ (flash_off c.otp ≡ true)

-- a boot that falls before looks at no unit; another boot looks at the boot units of the content,
-- up to the first that takes an image; they are in table order, but the updated member's unit is
-- first
abbrev pub AreUnitsReported : Content → Cpu → BootKind → List UnitReport → ℕ → Type 0
AreUnitsReported c cpu kind looks unreached =
    (FallsBefore c kind × (looks ≡ []) × (unreached ≡ 0))
    ⊎ ((FallsBefore c kind → ⊥)
    × AreUnitReports c cpu (order_of kind (boot_units_in c cpu)).units
    (order_of kind (boot_units_in c cpu)).updated looks unreached)

-- the reasons of a boot have these: the one decision that the rules name; the flags and the slot
-- size of the OTP; what each table slot has or lacks; whose table is that of the flash and why;
-- and the units that are looked at
pub record IsExplained (c : Content) (cpu : Cpu) (kind : BootKind) (r : Reasons) : Type 0 where
  pub decision : Chosen c cpu kind r.decision
  pub required : r.required ≡ rollback_required c.otp
  pub off : r.off ≡ flash_off c.otp
  pub size : r.size ≡ slot_size c.otp (length c.flash)
  pub first : IsSlotAnswer c 0 r.first
  pub second : IsSlotAnswer c 1 r.second
  pub table : IsTableInForce c r.table
  pub units : AreUnitsReported c cpu kind r.looks.items r.unreached

-- the decision starts the image that is taken by the report on a unit
abbrev pub StartsTaken : UnitReport → TakenImage → Decision → Type 0
StartsTaken look taken d =
    (choice : Choice) × (d ≡ Start choice)
    × (reported_image look taken.member ≡ Some choice.image)
    × (choice.image.window ≡ taken.window) × (choice.member ≡ taken.member)
    × (choice.updated ≡ is_update taken.because)

-- no report has an image that is taken
abbrev pub TakeNone : List UnitReport → Type 0
TakeNone looks = (k : ℕ) (look : UnitReport) → slice_get looks k ≡ Some look → look.taken ≡ None
