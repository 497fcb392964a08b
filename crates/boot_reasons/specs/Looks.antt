-- What a boot sees in its boot units, in the order in which it looks at them, and which image it
-- takes in which unit for what reason, as functions. Source: RP2350 Datasheet, chapter 5, "A/B
-- versions" and "Flash update boot". This project's own where the datasheet is open; the reasons
-- as a whole are this project's own.
--     images w trial     the image of window w, valid with trial allowed or not, or why not
use Rattle.std.specs.Prelude.{Bool, true, false, if◌then◌else◌, List, [], ◌∷◌, is_some, Option, Some, None, option_map, option_and_then, Result, Ok, Err}
use Rattle.std.specs.Option.{option_or}
use Rattle.std.specs.Result.{result_ok}
use Rattle.pico_board.specs.declared.window.Window.{Window}
use Rattle.block_codec.specs.declared.versions.Version.{Version as VersionOf}
use Rattle.image_def.specs.declared.started.Started.{Started}
use Rattle.image_check.specs.declared.why.Why.{Why}
use Rattle.slot_choice.specs.declared.unit.Member.{Member}
use Rattle.slot_choice.specs.declared.unit.Member.TheVariants.{A, B}
use Rattle.slot_choice.specs.declared.unit.SlotUnit.{SlotUnit}
use Rattle.slot_choice.specs.declared.choice.Choice.{Choice}
use Rattle.slot_choice.specs.Versions.{are_different, better_of}
use Rattle.boot_rules.specs.Choosing.{choice_of}
use Rattle.boot_rules.specs.Chosen.{is_member}
use Rattle.boot_reasons.specs.declared.looks.UnitReport.{UnitReport}
use Rattle.boot_reasons.specs.declared.looks.TakenImage.{TakenImage}
use Rattle.boot_reasons.specs.declared.looks.UnitReason.{UnitReason}
use Rattle.boot_reasons.specs.declared.looks.UnitReason.TheVariants.{Updated, Only, Version, Tie}

-- a member's image is taken
abbrev pub taken_image : Member → UnitReason → Started → Option TakenImage
taken_image m because s = Some (record { member = m; window = s.window; because = because })

-- why one of two images that count is taken, by their versions
abbrev pub image_reason : VersionOf → VersionOf → UnitReason
image_reason v w = if are_different v w then Version else Tie

-- of the images of both members that of this one is taken
abbrev pub taken_of_pair : Member → UnitReason → Started → Started → Option TakenImage
taken_of_pair A because a b = taken_image A because a
taken_of_pair B because a b = taken_image B because b

-- the image that is taken of those of two members that count, where none is the updated one's
abbrev pub better_image : Option Started → Option Started → Option TakenImage
better_image None None = None
better_image None (Some b) = taken_image B Only b
better_image (Some a) None = taken_image A Only a
better_image (Some a) (Some b) =
    taken_of_pair (better_of a.version b.version) (image_reason a.version b.version) a b

-- the updated member's image is taken where it counts
abbrev pub taken_of : Option Member → Option Started → Option Started → Option TakenImage
taken_of None a b = better_image a b
taken_of (Some A) None b = better_image None b
taken_of (Some A) (Some a) b = taken_image A Updated a
taken_of (Some B) a None = better_image a None
taken_of (Some B) a (Some b) = taken_image B Updated b

-- the image of a second member, where there is one
abbrev pub second_image : (Window → Bool → Result Started Why) → Option Member → Option Window
    → Option (Result Started Why)
second_image images updated None = None
second_image images updated (Some w) = Some (images w (is_member updated B))

-- the second member's image, where it counts
abbrev pub second_counted : Option (Result Started Why) → Option Started
second_counted None = None
second_counted (Some image) = result_ok image

-- the report on a unit: each member's image, judged with trial allowed exactly in the updated
-- member, and the one that is taken
abbrev pub report_on : (Window → Bool → Result Started Why) → SlotUnit → Option Member → UnitReport
report_on images u updated =
    let first = images u.a (is_member updated A) in
    let second = second_image images updated u.b in
    record {
      unit = u;
      first = first;
      second = second;
      taken = taken_of updated (result_ok first) (second_counted second);
    }

-- units are looked at in their order, up to the first that takes an image; a member of the first
-- unit may be the updated one
abbrev pub reports_of : (Window → Bool → Result Started Why) → List SlotUnit → Option Member
    → List UnitReport
reports_of images [] updated = []
reports_of images (u ∷ us) updated =
    report_on images u updated
    ∷ (if is_some (report_on images u updated).taken then [] else reports_of images us None)

-- the member's image by the report on its unit
abbrev pub reported_image : UnitReport → Member → Option Started
reported_image look A = result_ok look.first
reported_image look B = second_counted look.second

-- a member's image is taken as the updated one
abbrev pub is_update : UnitReason → Bool
is_update Updated = true
is_update Only = false
is_update Version = false
is_update Tie = false

-- the choice by the report on a unit, if an image is taken there; of several reports the first
-- one's
abbrev pub taken_choice_of : UnitReport → Option TakenImage → Option Choice
taken_choice_of look None = None
taken_choice_of look (Some taken) =
    option_map (choice_of look.unit taken.member (is_update taken.because))
    (reported_image look taken.member)

abbrev pub reported_choice : UnitReport → Option Choice
reported_choice look = taken_choice_of look look.taken

abbrev pub first_choice : List UnitReport → Option Choice
first_choice [] = None
first_choice (look ∷ rest) = option_or (reported_choice look) (first_choice rest)
