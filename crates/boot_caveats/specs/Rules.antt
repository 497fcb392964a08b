-- The caveats of a boot's answer, in their order, as rules.
use Rattle.std.specs.Prelude.{List, length}
use Rattle.pico_board.specs.declared.boot.Cpu.{Cpu}
use Rattle.pico_board.specs.declared.boot.BootKind.{BootKind}
use Rattle.pico_board.specs.Content.{Content}
use Rattle.boot_rules.specs.Choosing.{boot_units_in}
use Rattle.boot_reasons.specs.declared.reasons.Reasons.{Reasons}
use Rattle.boot_reasons.specs.Reasons.{table_of_reasons}
use Rattle.boot_reasons.specs.Rules.{IsExplained}
use Rattle.slot_caveats.specs.declared.caveat.Caveat.{Caveat}
use Rattle.slot_caveats.specs.Listing.{AreBoth}
use Rattle.slot_caveats.specs.OtpRules.{AreCriticalCaveats, AreOtpCaveats, IsShortSlots}
use Rattle.slot_caveats.specs.TableRules.{AreUnread, IsShortFlash, IsTableTie}
use Rattle.boot_caveats.specs.ChoiceRules.{AreSlotImages, IsTie, IsUpdateMovesUnit, IsUpdateOfNothing, IsUpdateOfSlot}
use Rattle.boot_caveats.specs.MemberRules.{AreMemberCaveats}
use Rattle.boot_caveats.specs.PartRules.{AreIgnoreFlags, AreNoReads}
use Rattle.boot_caveats.specs.ProcessorCaveats.{looked_members, updated_in}
use Rattle.boot_caveats.specs.ProcessorRules.{AreOtherProcessors}
use Rattle.slot_caveats.specs.SlotRules.{AreSlotCaveats}
use Rattle.boot_caveats.specs.StartRules.{AreRowCaveats, IsTableInImage}
use Rattle.boot_caveats.specs.ImageRules.{AreItemOrders, AreLateFirsts, AreMayStarts, AreOwnedImages}

-- the OTP, the tables of the slots, the slot size, and the table of the image that starts
abbrev pub AreBoardCaveats : Content → Reasons → List Caveat → Type 0
AreBoardCaveats c r =
    AreBoth (AreOtpCaveats c.otp)
    (AreBoth (IsShortFlash (length c.flash) 0 r.first)
    (AreBoth (IsShortFlash (length c.flash) 1 r.second)
    (AreBoth (IsShortSlots c.otp (length c.flash)) (IsTableInImage c r.decision))))

-- the choice, and the rows of the image that starts
abbrev pub AreChoiceCaveats : Content → Cpu → BootKind → Reasons → List Caveat → Type 0
AreChoiceCaveats c cpu kind r =
    AreBoth
    (AreOtherProcessors c cpu kind r.decision
    (looked_members r.looks.items (updated_in c cpu kind)))
    (AreBoth (AreSlotImages c cpu r.decision)
    (AreBoth (IsTie r.looks.items)
    (AreBoth (IsUpdateOfSlot c kind)
    (AreBoth (IsUpdateMovesUnit kind (boot_units_in c cpu)) (AreRowCaveats c.otp r.decision)))))

-- the windows that are looked at, owned partitions, and what is not read of tables
abbrev pub AreWindowCaveats : Content → Cpu → BootKind → Reasons → List Caveat → Type 0
AreWindowCaveats c cpu kind r =
    AreBoth (AreLateFirsts c r.decision r.size r.looks.items)
    (AreBoth (AreItemOrders c cpu r.looks.items)
    (AreBoth (AreMayStarts c cpu kind r.looks.items)
    (AreBoth (AreOwnedImages c cpu (table_of_reasons r))
    (AreBoth (AreUnread (table_of_reasons r)) (IsTableTie r.first r.second)))))

-- what stands in the slots, critical flags, the definitions that are looked at, flags and rights
-- of partitions, and an update of nothing
abbrev pub AreLastCaveats : Content → Cpu → BootKind → Reasons → List Caveat → Type 0
AreLastCaveats c cpu kind r =
    AreBoth (AreSlotCaveats c r.size r.first r.second)
    (AreBoth (AreCriticalCaveats c.otp)
    (AreBoth (AreMemberCaveats c cpu r.looks.items)
    (AreBoth (AreIgnoreFlags (table_of_reasons r))
    (AreBoth (AreNoReads r.decision (table_of_reasons r))
    (IsUpdateOfNothing c kind (boot_units_in c cpu))))))

-- the caveats of the answer of a boot; its reasons are those that the rules name: decision, slots,
-- table of the flash, and units that are looked at
pub record AreCaveats (c : Content) (cpu : Cpu) (kind : BootKind)
    (list : List Caveat) : Type 0 where
  pub reasons : Reasons
  pub explained : IsExplained c cpu kind reasons
  pub listed : AreBoth (AreBoardCaveats c reasons)
      (AreBoth (AreChoiceCaveats c cpu kind reasons)
      (AreBoth (AreWindowCaveats c cpu kind reasons) (AreLastCaveats c cpu kind reasons))) list
