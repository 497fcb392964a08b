-- What a boot sees in its boot units, and which image it takes in which unit for what reason, as
-- rules. Source: RP2350 Datasheet, chapter 5, "A/B versions" and "Flash update boot". This
-- project's own where the datasheet is open; the reasons as a whole are this project's own.
use Rattle.std.specs.Prelude.{◌≡◌, ◌⊎◌, ℕ, Bool, true, List, [], ◌∷◌, length, Option, Some, None, IsSome, IsTrue, Result, Ok, Err}
use Rattle.pico_board.specs.declared.boot.Cpu.{Cpu}
use Rattle.pico_board.specs.declared.window.Window.{Window}
use Rattle.pico_board.specs.Content.{Content}
use Rattle.image_def.specs.declared.started.Started.{Started}
use Rattle.image_check.specs.declared.why.Why.{Why}
use Rattle.image_check.specs.Valid.{Valid}
use Rattle.image_check.specs.WhyNot.{WhyNot}
use Rattle.slot_choice.specs.declared.unit.Member.{Member}
use Rattle.slot_choice.specs.declared.unit.Member.TheVariants.{A, B}
use Rattle.slot_choice.specs.declared.unit.SlotUnit.{SlotUnit}
use Rattle.slot_choice.specs.Units.{member_window}
use Rattle.slot_choice.specs.Versions.{is_below}
use Rattle.boot_rules.specs.Choosing.{other_of}
use Rattle.boot_rules.specs.Chosen.{is_member, IsBetter}
use Rattle.boot_reasons.specs.declared.looks.UnitReport.{UnitReport}
use Rattle.boot_reasons.specs.declared.looks.TakenImage.{TakenImage}
use Rattle.boot_reasons.specs.declared.looks.UnitReason.{UnitReason}
use Rattle.boot_reasons.specs.declared.looks.UnitReason.TheVariants.{Updated, Only, Version, Tie}

-- s is the image of member m of a unit, and it counts: it is valid with trial allowed exactly in
-- the updated member
pub record CountsIn (c : Content) (cpu : Cpu) (u : SlotUnit) (updated : Option Member) (m : Member)
    (s : Started) : Type 0 where
  pub window : Window
  pub stands : member_window m u ≡ Some window
  pub valid : Valid c window cpu (is_member updated m) s

-- Has m s: s is the image of member m, and it counts. The reasons for taking the image s of member
-- m: m is the updated member; no other image counts; both count and the version of s is greater;
-- both count, the versions are equal, and m is A
abbrev pub IsUpdatedOne : Option Member → Member → Type 0
IsUpdatedOne updated m = IsTrue (is_member updated m)

abbrev pub IsOnlyOne : (Member → Started → Type 0) → Member → Type 0
IsOnlyOne Has m = (t : Started) → Has (other_of m) t → ⊥

abbrev pub IsGreaterOne : (Member → Started → Type 0) → Member → Started → Type 0
IsGreaterOne Has m s =
    (t : Started) × Has (other_of m) t × (is_below t.version s.version ≡ true)

abbrev pub IsFirstOfEqual : (Member → Started → Type 0) → Member → Started → Type 0
IsFirstOfEqual Has m s =
    (t : Started) × Has (other_of m) t × (t.version ≡ s.version) × (m ≡ A)

-- the reason is the first of these that holds
abbrev pub IsReason : (Member → Started → Type 0) → Option Member → Member → Started → UnitReason
    → Type 0
IsReason Has updated m s Updated = IsUpdatedOne updated m
IsReason Has updated m s Only = (IsUpdatedOne updated m → ⊥) × IsOnlyOne Has m
IsReason Has updated m s Version =
    (IsUpdatedOne updated m → ⊥) × (IsOnlyOne Has m → ⊥) × IsGreaterOne Has m s
IsReason Has updated m s Tie =
    (IsUpdatedOne updated m → ⊥) × (IsOnlyOne Has m → ⊥) × (IsGreaterOne Has m s → ⊥)
    × IsFirstOfEqual Has m s

-- the image s of a member counts, and it is taken: it is the updated member's; or the other
-- member's image is neither the updated one's nor better
pub record IsTakenImage (Has : Member → Started → Type 0) (updated : Option Member) (m : Member)
    (s : Started) : Type 0 where
  pub counts : Has m s
  pub best : IsUpdatedOne updated m
      ⊎ ((t : Started) → Has (other_of m) t
      → (IsUpdatedOne updated (other_of m) → ⊥) × IsBetter m s.version t.version)

-- of the images that count this one is taken for its reason, and it stands in a window of the
-- unit; or none counts
abbrev pub IsTakenBy : (Member → Started → Type 0) → SlotUnit → Option Member → Option TakenImage
    → Type 0
IsTakenBy Has u updated None = (m : Member) (s : Started) → Has m s → ⊥
IsTakenBy Has u updated (Some taken) =
    (s : Started) × IsTakenImage Has updated taken.member s
    × (member_window taken.member u ≡ Some taken.window)
    × IsReason Has updated taken.member s taken.because

-- the image of a window is valid, with trial allowed or not, or this rule is the first that fails
abbrev pub IsImageReported : Content → Cpu → Window → Bool → Result Started Why → Type 0
IsImageReported c cpu w trial (Ok s) = Valid c w cpu trial s
IsImageReported c cpu w trial (Err why) = WhyNot c w cpu trial why

-- the second member's image, where there is a second member
abbrev pub IsSecondReported : Content → Cpu → Option Member → Option Window
    → Option (Result Started Why) → Type 0
IsSecondReported c cpu updated None image = image ≡ None
IsSecondReported c cpu updated (Some w) None = ⊥
IsSecondReported c cpu updated (Some w) (Some image) =
    IsImageReported c cpu w (is_member updated B) image

-- the report on a unit has the image of each member, with trial allowed exactly in the updated
-- one, and which of the images that count is taken
pub record IsUnitReport (c : Content) (cpu : Cpu) (u : SlotUnit) (updated : Option Member)
    (look : UnitReport) : Type 0 where
  pub unit : look.unit ≡ u
  pub first : IsImageReported c cpu u.a (is_member updated A) look.first
  pub second : IsSecondReported c cpu updated u.b look.second
  pub taken : IsTakenBy (CountsIn c cpu u updated) u updated look.taken

-- the units are looked at in this order, up to the first that takes an image; the updated member
-- is one of the first unit; so many further units are not reached
abbrev pub AreUnitReports : Content → Cpu → List SlotUnit → Option Member → List UnitReport → ℕ
    → Type 0
AreUnitReports c cpu [] updated looks unreached = (looks ≡ []) × (unreached ≡ 0)
AreUnitReports c cpu (u ∷ us) updated [] unreached = ⊥
AreUnitReports c cpu (u ∷ us) updated (look ∷ rest) unreached =
    IsUnitReport c cpu u updated look
    × ((IsSome look.taken × (rest ≡ []) × (unreached ≡ length us))
    ⊎ ((look.taken ≡ None) × AreUnitReports c cpu us None rest unreached))
