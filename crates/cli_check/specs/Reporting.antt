-- What is found of an update, as far as a member of the text of a team looks at it.
use Rattle.std.specs.Prelude.{ℕ, min, ◌&&◌, not, Bool, true, false, is_none, List, [], ◌∷◌, ◌++◌, length, map, Option, Some, None, is_ok, option_to_list}
use Rattle.boot_sweep.specs.Comparing.{is_same_decision}
use Rattle.slot_caveats.specs.declared.caveat.Caveat.{Caveat}
use Rattle.slot_caveats.specs.declared.caveat.Caveat.TheVariants as caveats
use Rattle.check_counts.specs.declared.seen.CaveatSeen.{CaveatSeen}
use Rattle.check_counts.specs.Tallies.{Tally}
use Rattle.check_data.specs.declared.found.DataWindow.{DataWindow}
use Rattle.check_images.specs.declared.found.Hashed.{Hashed}
use Rattle.check_images.specs.declared.found.Hashed.TheVariants.{Yes, Bare, No}
use Rattle.check_images.specs.declared.found.ImageFacts.{ImageFacts}
use Rattle.check_images.specs.declared.found.JudgedWindow.{JudgedWindow}
use Rattle.check_images.specs.declared.found.WrittenWindow.{WrittenWindow}
use Rattle.check_laws.specs.declared.found.SessionFound.{SessionFound}
use Rattle.check_laws.specs.declared.found.SessionFound.TheVariants as sessions
use Rattle.check_records.specs.declared.found.Again.{Again}
use Rattle.check_records.specs.declared.found.Again.TheVariants as agains
use Rattle.check_records.specs.declared.found.Records.{Records}
use Rattle.check_records.specs.declared.found.ScriptCaveats.{ScriptCaveats}
use Rattle.check_require.specs.declared.caveats.CaveatName.{CaveatName}
use Rattle.check_require.specs.declared.caveats.CaveatName.TheVariants as names
use Rattle.check_require.specs.declared.report.CaveatFound.{CaveatFound}
use Rattle.check_require.specs.declared.report.ClassCounts.{ClassCounts}
use Rattle.check_require.specs.declared.report.DataFound.{DataFound}
use Rattle.check_require.specs.declared.report.SessionLaw.{SessionLaw}
use Rattle.check_require.specs.declared.report.SessionLaw.TheVariants as laws
use Rattle.check_require.specs.declared.report.StartFound.{StartFound}
use Rattle.check_require.specs.declared.report.WrittenFound.{WrittenFound}
use Rattle.check_require.specs.Reports.{ReportView}
use Rattle.cli_check.specs.Findings.{FindingsView}

-- the name of a caveat: the first word of its line
abbrev pub name_of : Caveat → CaveatName
name_of caveats.SecureBoot = names.SecureBoot
name_of (caveats.RawFlags row bits) = names.RawFlags
name_of (caveats.RawSlotSize bits) = names.RawSlotSize
name_of (caveats.ShortFlash slot part) = names.ShortFlash
name_of (caveats.ShortSlots size) = names.ShortFlash
name_of (caveats.TableInImage w at) = names.TableInImage
name_of (caveats.OtherProcessor w) = names.OtherProcessor
name_of (caveats.SlotImage w) = names.Slot1Image
name_of (caveats.Tie w other) = names.Tie
name_of (caveats.UpdateOfSlot base) = names.UpdateOfSlot
name_of (caveats.UpdateMovesUnit part) = names.UpdateMovesUnit
name_of (caveats.RollbackRows w) = names.RollbackRows
name_of (caveats.RollbackFull w) = names.RollbackFull
name_of (caveats.RollbackGap row) = names.RollbackGap
name_of (caveats.FirstBlock w) = names.FirstBlock
name_of (caveats.ItemOrder w) = names.ItemOrder
name_of (caveats.MayStart w why) = names.MayStart
name_of (caveats.OwnedImage part) = names.OwnedImage
name_of (caveats.UnreadTargets bits) = names.UnreadBits
name_of (caveats.UnreadSide part) = names.UnreadBits
name_of caveats.TableTie = names.TableTie
name_of (caveats.ImageInSlot slot) = names.ImageInSlot
name_of (caveats.SlotEnd w at) = names.SlotEnd
name_of (caveats.FaultyTable slot fault) = names.TableFault
name_of (caveats.TableOrder slot) = names.TableOrder
name_of (caveats.RawCritical row bits) = names.RawCritical
name_of (caveats.LongDefinition w at) = names.LongDefinition
name_of (caveats.AbsoluteMap w) = names.AbsoluteMap
name_of (caveats.BareHash w) = names.BareHash
name_of (caveats.IgnoreFlags part) = names.IgnoreFlags
name_of (caveats.NoRead part) = names.NoRead
name_of (caveats.UpdateOfNothing base) = names.UpdateOfNothing

abbrev pub law_name : SessionFound → SessionLaw
law_name sessions.Silent = laws.Silent
law_name (sessions.Staged w) = laws.Staged
law_name (sessions.Gated w) = laws.Gated
law_name (sessions.Confined w) = laws.Confined
law_name (sessions.Open reason) = laws.Open

-- a window that was written, and whether its image is valid
abbrev pub written_found : WrittenWindow → WrittenFound
written_found w = record { by = w.by; valid = is_ok w.image }

-- an image has a digest over what its load map stores
abbrev pub is_hashed : Hashed → Bool
is_hashed Yes = true
is_hashed Bare = false
is_hashed No = false

abbrev pub start_found : Option ImageFacts → ℕ → Option StartFound
start_found None early = None
start_found (Some told) early = Some (record { hashed = is_hashed told.hash; loose = early })

-- there is a valid image to fall back on
abbrev pub falls_back : Option JudgedWindow → Bool
falls_back None = false
falls_back (Some other) = is_ok other.image

abbrev pub data_found : DataWindow → ℕ → DataFound
data_found w n = record { of = w.of; written = w.written; torn = n }

abbrev pub data_each : List DataWindow → List ℕ → List DataFound
data_each (w ∷ windows) (n ∷ torn) = data_found w n ∷ data_each windows torn
data_each _ _ = []

-- each record did something, and each download is done
abbrev pub are_records_ok : Records → Bool
are_records_ok records = is_none records.refused && is_none records.unfinished

abbrev pub is_again : Again → Bool
is_again agains.Yes = true
is_again (agains.NoStep k) = false
is_again agains.NoTable = false
is_again agains.NoTarget = false

abbrev pub class_counts : Tally → ClassCounts
class_counts t = record {
  former = t.former;
  finished = t.finished;
  whole = t.whole;
  tail = t.tail;
  mixed = t.mixed;
  bootsel = t.bootsel;
}

abbrev pub caveat_found : CaveatSeen → CaveatFound
caveat_found s = record { name = name_of s.caveat; at_end = s.end }

-- a caveat of the script itself, where an event has it; it holds at the end
abbrev pub event_caveat : CaveatName → Option ℕ → Option CaveatFound
event_caveat name None = None
event_caveat name (Some event) = Some (record { name = name; at_end = true })

abbrev pub script_caveats : ScriptCaveats → List CaveatFound
script_caveats s =
    option_to_list (event_caveat names.HeldSector s.held)
    ++ option_to_list (event_caveat names.SkippedBlock s.skipped)

-- What a member looks at. The number of images that are lost stays at its greatest value, which no
-- update reaches.
unfoldable pub report_of : FindingsView → ReportView
report_of f = record {
  image = f.images.effect;
  table = f.images.table;
  flash = f.images.flash;
  same_decision = is_same_decision f.former f.finished;
  written = map written_found f.images.written;
  starts = start_found f.images.starts f.tally.early;
  fallback = falls_back f.images.fallback;
  lost = min (length f.images.lost) 0xffff_ffff;
  data_windows = data_each f.windows f.tally.other_data;
  records = are_records_ok f.records;
  again = is_again f.again;
  raised = f.raised;
  next = f.images.next;
  same_rows = not f.images.rows;
  by_mixed = f.tally.by_mixed;
  session = law_name f.session;
  boot = f.boot;
  buy = f.buy;
  cuts = class_counts f.tally;
  end_class = f.end_class;
  caveats = map caveat_found f.tally.caveats ++ script_caveats f.script;
}
