-- Where the choice of a boot depends on a rule that the chip may have otherwise, as functions.
use Rattle.std.specs.Prelude.{ℕ, ◌+◌, ◌-◌, ◌==◌, ◌&&◌, ◌||◌, nat_le, not, Bool, true, false, if◌then◌else◌, List, [], ◌++◌, find, is_some, position, slice_get, Option, Some, None, option_map, option_and_then, option_to_list, is_ok}
use Rattle.std.specs.List.{list_any}
use Rattle.pico_board.specs.declared.boot.Cpu.{Cpu}
use Rattle.pico_board.specs.declared.boot.Cpu.TheVariants.{Arm, Riscv}
use Rattle.pico_board.specs.declared.boot.BootKind.{BootKind}
use Rattle.pico_board.specs.declared.boot.BootKind.TheVariants.{Normal, Update, Bootsel as AskBootsel}
use Rattle.pico_board.specs.declared.window.Window.{Window}
use Rattle.pico_board.specs.declared.window.TheConstants.{SMALLEST_SLOT}
use Rattle.pico_board.specs.Content.{Content, flash_base, window_bytes}
use Rattle.image_check.specs.Image.{image_at}
use Rattle.slot_choice.specs.declared.unit.SlotUnit.{SlotUnit}
use Rattle.slot_choice.specs.Updates.{has_member_at}
use Rattle.boot_rules.specs.declared.decision.Decision.{Decision}
use Rattle.boot_rules.specs.declared.decision.Decision.TheVariants.{Start, Bootsel}
use Rattle.boot_rules.specs.declared.decision.Fall.TheVariants.{Requested, FlashOff, NoImage}
use Rattle.boot_rules.specs.Tables.{slot_window}
use Rattle.boot_reasons.specs.declared.slots.TableInForce.{TableInForce}
use Rattle.boot_reasons.specs.declared.looks.UnitReport.{UnitReport}
use Rattle.boot_reasons.specs.declared.looks.TakenImage.{TakenImage}
use Rattle.boot_reasons.specs.declared.looks.UnitReason.{UnitReason}
use Rattle.boot_reasons.specs.declared.looks.UnitReason.TheVariants.{Updated, Only, Version, Tie as IsTied}
use Rattle.slot_caveats.specs.declared.caveat.Caveat.{Caveat}
use Rattle.slot_caveats.specs.declared.caveat.Caveat.TheVariants.{SlotImage, Tie, UpdateOfSlot, UpdateMovesUnit, UpdateOfNothing}
use Rattle.slot_caveats.specs.Listing.{caveat_if}
use Rattle.slot_caveats.specs.SlotCaveats.{flash_from, has_executable}

-- the other processor
abbrev pub other_cpu : Cpu → Cpu
other_cpu Arm = Riscv
other_cpu Riscv = Arm

-- no image starts
abbrev pub lacks_image : Decision → Bool
lacks_image (Start choice) = false
lacks_image (Bootsel Requested) = false
lacks_image (Bootsel FlashOff) = false
lacks_image (Bootsel NoImage) = true

-- the window whose image starts
abbrev pub started_window : Decision → Option Window
started_window (Start choice) = Some choice.image.window
started_window (Bootsel fall) = None

-- a window has an image, trial not allowed
abbrev pub has_normal_image : Content → Cpu → Window → Bool
has_normal_image c cpu w = is_ok (image_at c w cpu false)

-- the loop of the flash's bytes from slot 1 on, of the smallest size, closes and has an executable
-- block
abbrev pub has_second_image : Content → Bool
has_second_image c = has_executable (window_bytes c (flash_from c SMALLEST_SLOT))

-- slot 0 has an image, and the whole flash, which begins with the same bytes, has none
abbrev pub first_slot_image : Content → Cpu → Decision → Option Caveat
first_slot_image c cpu d =
    let w = slot_window SMALLEST_SLOT 0 in
    caveat_if (lacks_image d && has_normal_image c cpu w) (SlotImage w)

-- slot 1 has an image, and the whole flash none; or, whatever the decision, one may begin in slot 1
-- that goes on behind it
abbrev pub second_slot_image : Content → Cpu → Decision → Option Caveat
second_slot_image c cpu d =
    let w = slot_window SMALLEST_SLOT 1 in
    caveat_if (has_second_image c || (lacks_image d && has_normal_image c cpu w)) (SlotImage w)

abbrev pub lone_slot_images : Content → Cpu → Decision → List Caveat
lone_slot_images c cpu d =
    option_to_list (first_slot_image c cpu d) ++ option_to_list (second_slot_image c cpu d)

-- without a table slots of the smallest size are no boot unit of the model
abbrev pub slot_images : Content → Cpu → Decision → ℕ → Option TableInForce → List Caveat
slot_images c cpu d size (Some taken) = []
slot_images c cpu d size None = if size == SMALLEST_SLOT then lone_slot_images c cpu d else []

-- an image is taken because of a tie
abbrev pub is_tie : UnitReason → Bool
is_tie Updated = false
is_tie Only = false
is_tie Version = false
is_tie IsTied = true

-- the window that is taken of a pair because of a tie, and the other one
abbrev pub tied_in : Option Window → Option TakenImage → Option Caveat
tied_in None taken = None
tied_in (Some w) None = None
tied_in (Some w) (Some taken) = if is_tie taken.because then Some (Tie taken.window w) else None

-- the first unit that takes an image takes it because of a tie
abbrev pub takes_image : UnitReport → Bool
takes_image look = is_some look.taken

abbrev pub tie_of : UnitReport → Option Caveat
tie_of look = tied_in look.unit.b look.taken

abbrev pub first_tie : List UnitReport → Option Caveat
first_tie looks = option_and_then tie_of (find takes_image looks)

-- an address is that of table slot 0 or 1
abbrev pub is_slot_address : ℕ → ℕ → Bool
is_slot_address size base = base == flash_base || base == flash_base + size

-- an update boot's address is that of a table slot, and there is a table
abbrev pub update_of_slot : BootKind → ℕ → Option TableInForce → Option Caveat
update_of_slot Normal size table = None
update_of_slot AskBootsel size table = None
update_of_slot (Update base) size None = None
update_of_slot (Update base) size (Some taken) =
    caveat_if (is_slot_address size base) (UpdateOfSlot base)

-- the partition of the A of the unit at a place, where the unit is not the first one
abbrev pub moved_part : List SlotUnit → ℕ → Option ℕ
moved_part us k =
    if k == 0 then None else option_and_then (λ (u : SlotUnit). u.a_part) (slice_get us k)

-- the partition of the A of the unit that an update of an address moves to the front
abbrev pub moved_by : List SlotUnit → ℕ → Option ℕ
moved_by us base =
    if nat_le flash_base base
    then option_and_then (moved_part us) (position (has_member_at (base - flash_base)) us)
    else None

abbrev pub update_moves : BootKind → List SlotUnit → Option Caveat
update_moves Normal us = None
update_moves AskBootsel us = None
update_moves (Update base) us = option_map UpdateMovesUnit (moved_by us base)

-- a member of a unit starts at an address; below the flash no member starts
abbrev pub updates_one : List SlotUnit → ℕ → Bool
updates_one us base =
    nat_le flash_base base && list_any (has_member_at (base - flash_base)) us

-- an update boot's address is that of no member, and it has no caveat of a table slot
abbrev pub update_of_nothing : BootKind → ℕ → Option TableInForce → List SlotUnit → Option Caveat
update_of_nothing Normal size table us = None
update_of_nothing AskBootsel size table us = None
update_of_nothing (Update base) size table us =
    caveat_if (not (updates_one us base || is_some (update_of_slot (Update base) size table)))
    (UpdateOfNothing base)
