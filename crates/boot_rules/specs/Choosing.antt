-- The decision of a boot as a function of the images (RP2350 Datasheet, chapter 5, "A/B versions"
-- and "Flash update boot"; this project's own where the datasheet is open; the order of versions
-- and the update rule as a whole).
--     images w trial     the image of window w, valid with trial allowed or not, or none
use Rattle.std.specs.Prelude.{Bool, true, false, if◌then◌else◌, List, [], ◌∷◌, length, Option, Some, None, option_map, option_and_then}
use Rattle.std.specs.Option.{option_or}
use Rattle.std.specs.Result.{result_ok}
use Rattle.pico_board.specs.declared.boot.Cpu.{Cpu}
use Rattle.pico_board.specs.declared.boot.BootKind.{BootKind}
use Rattle.pico_board.specs.declared.boot.BootKind.TheVariants.{Normal, Update, Bootsel as AskBootsel}
use Rattle.pico_board.specs.declared.window.Window.{Window}
use Rattle.pico_board.specs.Content.{Content}
use Rattle.block_codec.specs.declared.versions.Version.{Version}
use Rattle.image_def.specs.declared.started.Started.{Started}
use Rattle.otp_roll.specs.Flags.{slot_size, flash_off}
use Rattle.slot_choice.specs.declared.unit.Member.{Member}
use Rattle.slot_choice.specs.declared.unit.Member.TheVariants.{A, B}
use Rattle.slot_choice.specs.declared.unit.SlotUnit.{SlotUnit}
use Rattle.slot_choice.specs.declared.choice.Choice.{Choice}
use Rattle.slot_choice.specs.Units.{member_window, units}
use Rattle.slot_choice.specs.Versions.{better}
use Rattle.slot_choice.specs.Updates.{update_order, updated_member}
use Rattle.image_check.specs.Image.{image_at}
use Rattle.boot_rules.specs.declared.decision.Decision.{Decision}
use Rattle.boot_rules.specs.declared.decision.Decision.TheVariants.{Start, Bootsel}
use Rattle.boot_rules.specs.declared.decision.Fall.TheVariants.{Requested, FlashOff, NoImage}
use Rattle.boot_rules.specs.Tables.{table_of_content}

-- the other member of a pair
abbrev pub other_of : Member → Member
other_of A = B
other_of B = A

-- the image of a member
abbrev pub member_image : (Window → Bool → Option Started) → SlotUnit → Member → Bool
    → Option Started
member_image images u m trial = option_and_then (λ w. images w trial) (member_window m u)

-- the choice of a member's image
abbrev pub choice_of : SlotUnit → Member → Bool → Started → Choice
choice_of u m updated image =
    record { image = image; member = m; other = member_window (other_of m) u; updated = updated }

-- the choice in a unit without an update: of two images the one of the better member, or the only
-- one
abbrev pub of_better : SlotUnit → Option Member → Option Started → Option Started → Option Choice
of_better u None a b = None
of_better u (Some A) a b = option_map (choice_of u A false) a
of_better u (Some B) a b = option_map (choice_of u B false) b

-- the version of an image
abbrev pub version_of_image : Option Started → Option Version
version_of_image image = option_map (λ (s : Started). s.version) image

-- the choice in a unit. It is the updated member's image where it is valid with trial allowed, or
-- else the other one's. Without an updated member it is the better one's
abbrev pub unit_choice : (Window → Bool → Option Started) → SlotUnit → Option Member → Option Choice
unit_choice images u (Some m) =
    option_or (option_map (choice_of u m true) (member_image images u m true))
    (option_map (choice_of u (other_of m) false) (member_image images u (other_of m) false))
unit_choice images u None =
    let a = member_image images u A false in
    let b = member_image images u B false in
    of_better u (better (version_of_image a) (version_of_image b)) a b

-- the boot units in the order in which they are tried, and the updated member of the first of them
pub record Order : Type 0 where
  pub units : List SlotUnit
  pub updated : Option Member

-- the choice of the first unit that has one, where the updated member is one of the first unit
abbrev pub ordered_choice : (Window → Bool → Option Started) → List SlotUnit → Option Member
    → Option Choice
ordered_choice images [] updated = None
ordered_choice images (u ∷ us) updated =
    option_or (unit_choice images u updated) (ordered_choice images us None)

-- the choice of a boot, as a function of the images
abbrev pub choose : (Window → Bool → Option Started) → Order → Option Choice
choose images order = ordered_choice images order.units order.updated

-- a flash-update boot tries the updated member's unit first
abbrev pub order_of : BootKind → List SlotUnit → Order
order_of (Update base) us = record
    { units = update_order us base; updated = updated_member us base }
order_of Normal us = record { units = us; updated = None }
order_of AskBootsel us = record { units = us; updated = None }

-- the boot units of a content, in table order
abbrev pub boot_units_in : Content → Cpu → List SlotUnit
boot_units_in c cpu =
    units (table_of_content c) (length c.flash) (slot_size c.otp (length c.flash)) cpu

-- the images of a content
abbrev pub images_in : Content → Cpu → Window → Bool → Option Started
images_in c cpu w trial = result_ok (image_at c w cpu trial)

-- the image that was chosen starts, or there is none
abbrev pub decision_of : Option Choice → Decision
decision_of None = Bootsel NoImage
decision_of (Some choice) = Start choice

-- the decision of a boot
abbrev pub flash_decision : Content → Cpu → BootKind → Decision
flash_decision c cpu kind =
    if flash_off c.otp then Bootsel FlashOff
    else decision_of (choose (images_in c cpu) (order_of kind (boot_units_in c cpu)))

unfoldable pub decision_in : Content → Cpu → BootKind → Decision
decision_in c cpu AskBootsel = Bootsel Requested
decision_in c cpu Normal = flash_decision c cpu Normal
decision_in c cpu (Update base) = flash_decision c cpu (Update base)
