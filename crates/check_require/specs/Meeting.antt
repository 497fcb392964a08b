-- When each member of what is asked is met, and the verdict.
use Rattle.std.specs.Prelude.{Bool, true, false, not, ◌&&◌, ◌||◌, ◌==◌, if◌then◌else◌, List, Option, None, Some, filter}
use Rattle.std.specs.List.{list_all, list_any}
use Rattle.check_require.specs.declared.meeting.Verdict.{Verdict}
use Rattle.check_require.specs.declared.meeting.Verdict.TheVariants.{Passed, Mixed as StartsMixed, Unbootable, Refused, NoEffect, Unmet}
use Rattle.check_require.specs.declared.members.Member.{Member}
use Rattle.check_require.specs.declared.members.Member.TheVariants.{Effect, Records, Written, Keep, Data, Cuts, Version, Fallback, Again, Covered, Hash, NoRows, Session, Boot, Buy, Caveats}
use Rattle.check_require.specs.declared.report.CaveatFound.{CaveatFound}
use Rattle.cut_class.specs.declared.class.Class.{Class}
use Rattle.cut_class.specs.declared.class.Class.TheVariants.{Whole as OfWhole, Tail as OfTail, Mixed as OfMixed, Bootsel as OfBootsel}
use Rattle.check_require.specs.declared.report.DataFound.{DataFound}
use Rattle.check_require.specs.declared.report.DataOwner.{DataOwner}
use Rattle.check_require.specs.declared.report.DataOwner.TheVariants.{Both, Former, End}
use Rattle.check_require.specs.declared.report.DataWritten.{DataWritten}
use Rattle.check_require.specs.declared.report.DataWritten.TheVariants.{Yes, No, Torn}
use Rattle.check_require.specs.declared.report.ImageEffect.{ImageEffect}
use Rattle.check_require.specs.declared.report.ImageEffect.TheVariants.{Unchanged, New, Up as GoesUp, Same as StaysSame}
use Rattle.check_require.specs.declared.report.LawOfWrites.{LawOfWrites}
use Rattle.check_require.specs.declared.report.LawOfWrites.TheVariants.{Silent as NoWrites, Kept, Open as OpenWrites}
use Rattle.check_require.specs.declared.report.SessionLaw.{SessionLaw}
use Rattle.check_require.specs.declared.report.SessionLaw.TheVariants.{Silent, Staged as IsStaged, Gated as IsGated, Confined as IsConfined, Open}
use Rattle.check_require.specs.declared.report.StartFound.{StartFound}
use Rattle.check_require.specs.declared.report.WrittenFound.{WrittenFound}
use Rattle.check_require.specs.declared.report.Writer.{Writer}
use Rattle.check_require.specs.declared.report.Writer.TheVariants.{Script, Boot as ByBoot, Buy as ByBuy}
use Rattle.check_require.specs.declared.requirement.AllowedCaveat.{AllowedCaveat}
use Rattle.check_require.specs.declared.requirement.Allowance.{Allowance}
use Rattle.check_require.specs.declared.requirement.Allowance.TheVariants.{Whole, Tail, Mixed, Bootsel, Raising}
use Rattle.check_require.specs.declared.requirement.SessionAsk.{SessionAsk}
use Rattle.check_require.specs.declared.requirement.SessionAsk.TheVariants.{Staged, Confined, Any as AnyLaw}
use Rattle.check_require.specs.declared.requirement.VersionAsk.{VersionAsk}
use Rattle.check_require.specs.declared.requirement.VersionAsk.TheVariants.{Up, Same, Any}
use Rattle.check_require.specs.declared.requirement.WantedEffect.{WantedEffect}
use Rattle.check_require.specs.declared.requirement.WantedEffect.TheVariants.{Image, Table, Flash, Nothing}
use Rattle.check_require.specs.Members.{all_members}
use Rattle.check_require.specs.Names.{is_same_name}
use Rattle.check_require.specs.Reports.{ReportView}
use Rattle.check_require.specs.Requires.{RequireView}

-- the image that starts is another one, or one where none did
abbrev pub is_other_image : ImageEffect → Bool
is_other_image Unchanged = false
is_other_image _ = true

-- the update does what it is for
abbrev pub has_effect : WantedEffect → ReportView → Bool
has_effect Image r = is_other_image r.image
has_effect Table r = r.table
has_effect Flash r = r.flash
has_effect Nothing r = true

-- the image that stands where the script wrote is valid; boots and buys are not asked
abbrev pub is_well_by : Writer → Bool → Bool
is_well_by Script valid = valid
is_well_by ByBoot valid = true
is_well_by ByBuy valid = true

abbrev pub is_written_well : WrittenFound → Bool
is_written_well w = is_well_by w.by w.valid

-- a window with data of the image that starts before, which the script has written
abbrev pub is_overwritten : DataOwner → DataWritten → Bool
is_overwritten Former Yes = true
is_overwritten _ _ = false

abbrev pub is_left_torn : DataWritten → Bool
is_left_torn Torn = true
is_left_torn Yes = false
is_left_torn No = false

abbrev pub is_of_both : DataOwner → Bool
is_of_both Both = true
is_of_both Former = false
is_of_both End = false

-- an image that starts finds the data of the window whole. Where the boots before and at the end
-- decide the same, it has the window's data before and at the end
abbrev pub has_data : Bool → DataFound → Bool
has_data same d =
    ((d.torn == 0 && not (is_left_torn d.written)) && not (is_overwritten d.of d.written))
    && (not same || is_of_both d.of)

-- what a loss of power may leave is listed
abbrev pub is_same_allowance : Allowance → Allowance → Bool
is_same_allowance Whole Whole = true
is_same_allowance Tail Tail = true
is_same_allowance Mixed Mixed = true
is_same_allowance Bootsel Bootsel = true
is_same_allowance Raising Raising = true
is_same_allowance _ _ = false

abbrev pub allows : List Allowance → Allowance → Bool
allows listed a = list_any (is_same_allowance a) listed

-- the end is of this class
abbrev pub is_whole : Class → Bool
is_whole OfWhole = true
is_whole _ = false

abbrev pub is_tail : Class → Bool
is_tail OfTail = true
is_tail _ = false

abbrev pub is_mixed : Class → Bool
is_mixed OfMixed = true
is_mixed _ = false

abbrev pub is_bootsel : Class → Bool
is_bootsel OfBootsel = true
is_bootsel _ = false

-- some cut, or the end, starts a half-written image; some of them starts nothing, and so on
abbrev pub some_mixed : ReportView → Bool
some_mixed r = not (r.cuts.mixed == 0) || is_mixed r.end_class

abbrev pub some_bootsel : ReportView → Bool
some_bootsel r = not (r.cuts.bootsel == 0) || is_bootsel r.end_class

abbrev pub some_whole : ReportView → Bool
some_whole r = not (r.cuts.whole == 0) || is_whole r.end_class

abbrev pub some_tail : ReportView → Bool
some_tail r = not (r.cuts.tail == 0) || is_tail r.end_class

-- each cut, and the end, is former or finished, or of a class that is listed; and no boot raises a
-- row for a half-written image, or this is listed
abbrev pub are_cuts_allowed : List Allowance → ReportView → Bool
are_cuts_allowed listed r =
    (((not (some_whole r) || allows listed Whole) && (not (some_tail r) || allows listed Tail))
    && ((not (some_mixed r) || allows listed Mixed)
    && (not (some_bootsel r) || allows listed Bootsel)))
    && (r.by_mixed == 0 || allows listed Raising)

-- an image starts at the end
abbrev pub is_there : {A : Type 0} → Option A → Bool
is_there None = false
is_there (Some x) = true

-- the version rises, or an image starts where none did
abbrev pub is_greater : ImageEffect → Bool
is_greater GoesUp = true
is_greater New = true
is_greater _ = false

abbrev pub is_same_version : ImageEffect → Bool
is_same_version StaysSame = true
is_same_version _ = false

abbrev pub is_unchanged : ImageEffect → Bool
is_unchanged Unchanged = true
is_unchanged _ = false

-- as it was before, an image starts at the end
abbrev pub still_starts : ReportView → Bool
still_starts r = is_unchanged r.image && is_there r.starts

-- what starts at the end is of a version that may come
abbrev pub has_version : VersionAsk → ReportView → Bool
has_version Up r = is_greater r.image
has_version Same r = (is_greater r.image || is_same_version r.image) || still_starts r
has_version Any r = true

-- the image that starts, if one does, has all its bytes
abbrev pub is_covered : Option StartFound → Bool
is_covered None = true
is_covered (Some s) = s.loose == 0

-- an image starts, and it has a digest over what its load map stores
abbrev pub is_hashed : Option StartFound → Bool
is_hashed None = false
is_hashed (Some s) = s.hashed

-- no rollback row rises
abbrev pub keeps_rows : ReportView → Bool
keeps_rows r = (r.raised == 0 && r.next == 0) && r.same_rows

-- the law is as strong as is asked, or there is nothing to speak of
abbrev pub is_law_of : SessionAsk → SessionLaw → Bool
is_law_of AnyLaw law = true
is_law_of ask Silent = true
is_law_of ask IsStaged = true
is_law_of Staged IsGated = false
is_law_of ask IsGated = true
is_law_of Confined IsConfined = true
is_law_of ask IsConfined = false
is_law_of ask Open = false

-- a law speaks of the writes, or there is nothing to speak of
abbrev pub is_kept : LawOfWrites → Bool
is_kept NoWrites = true
is_kept Kept = true
is_kept OpenWrites = false

-- a caveat that is found may come by this that is allowed
abbrev pub may_come_by : CaveatFound → AllowedCaveat → Bool
may_come_by found allowed =
    is_same_name found.name allowed.name && (not allowed.only_in_cuts || not found.at_end)

abbrev pub may_come : List AllowedCaveat → CaveatFound → Bool
may_come listed found = list_any (may_come_by found) listed

-- a member is met; a truth value that is false asks nothing
abbrev pub is_met : RequireView → ReportView → Member → Bool
is_met ask r Effect = has_effect ask.effect r
is_met ask r Records = not ask.records || r.records
is_met ask r Written = not ask.written || list_all is_written_well r.written
is_met ask r Keep = not ask.keep || r.lost == 0
is_met ask r Data = not ask.whole_data || list_all (has_data r.same_decision) r.data_windows
is_met ask r Cuts = are_cuts_allowed ask.cuts r
is_met ask r Version = has_version ask.version r
is_met ask r Fallback = not ask.fallback || (r.fallback || still_starts r)
is_met ask r Again = not ask.again || r.again
is_met ask r Covered = not ask.covered || is_covered r.starts
is_met ask r Hash = not ask.hash || is_hashed r.starts
is_met ask r NoRows = not ask.no_rows || keeps_rows r
is_met ask r Session = is_law_of ask.session r.session
is_met ask r Boot = not ask.boot || is_kept r.boot
is_met ask r Buy = not ask.buy || is_kept r.buy
is_met ask r Caveats = list_all (may_come ask.caveats) r.caveats

-- the members that are not met, in their order
abbrev pub unmet : RequireView → ReportView → List Member
unmet ask r = filter (λ m. not (is_met ask r m)) all_members

-- the verdict is the first of these that holds
abbrev pub verdict_on : RequireView → ReportView → Verdict
verdict_on ask r =
    if some_mixed r && not (allows ask.cuts Mixed) then StartsMixed
    else if some_bootsel r && not (allows ask.cuts Bootsel) then Unbootable
    else if not (is_met ask r Records) then Refused
    else if not (is_met ask r Effect) then NoEffect
    else if list_all (is_met ask r) all_members then Passed
    else Unmet
