-- Worked reports: an update of which nothing bad is found, and others that differ from it in one
-- thing.
use Rattle.std.specs.Prelude.{ℕ, Bool, false, true, [], ◌∷◌, Option, None, Some}
use Rattle.check_require.specs.declared.caveats.CaveatName.{CaveatName}
use Rattle.check_require.specs.declared.report.CaveatFound.{CaveatFound}
use Rattle.check_require.specs.declared.report.ClassCounts.{ClassCounts}
use Rattle.cut_class.specs.declared.class.Class.{Class}
use Rattle.cut_class.specs.declared.class.Class.TheVariants.{Finished}
use Rattle.check_require.specs.declared.report.DataFound.{DataFound}
use Rattle.check_require.specs.declared.report.DataOwner.{DataOwner}
use Rattle.check_require.specs.declared.report.DataWritten.{DataWritten}
use Rattle.check_require.specs.declared.report.ImageEffect.{ImageEffect}
use Rattle.check_require.specs.declared.report.ImageEffect.TheVariants.{Up}
use Rattle.check_require.specs.declared.report.LawOfWrites.TheVariants.{Silent as NoWrites}
use Rattle.check_require.specs.declared.report.SessionLaw.TheVariants.{Gated, Silent}
use Rattle.check_require.specs.declared.report.StartFound.{StartFound}
use Rattle.check_require.specs.declared.report.WrittenFound.{WrittenFound}
use Rattle.check_require.specs.declared.report.Writer.{Writer}
use Rattle.check_require.specs.Reports.{ReportView}

-- a caveat that is found
abbrev pub caveat_at : CaveatName → Bool → CaveatFound
caveat_at caveat at_the_end = record { name = caveat; at_end = at_the_end }

-- a window that was written
abbrev pub written_by : Writer → Bool → WrittenFound
written_by writer is_valid = record { by = writer; valid = is_valid }

-- a window with data, which is torn at so many cuts
abbrev pub data_of : DataOwner → DataWritten → ℕ → DataFound
data_of owner how cuts = record { of = owner; written = how; torn = cuts }

-- an image that starts, with or without a digest, loose at so many cuts
abbrev pub started : Bool → ℕ → StartFound
started has_digest cuts = record { hashed = has_digest; loose = cuts }

-- so many cuts of the last four classes
abbrev pub counting : ℕ → ℕ → ℕ → ℕ → ClassCounts
counting of_whole of_tail of_mixed of_bootsel = record {
  former = 10;
  finished = 2;
  whole = of_whole;
  tail = of_tail;
  mixed = of_mixed;
  bootsel = of_bootsel;
}

-- what is found of an update that becomes of the image this, with this image at the end; whose
-- records all do something or not; with these cuts and this end; and with which so many images are
-- lost
abbrev pub finding : ImageEffect → Option StartFound → Bool → ClassCounts → Class → ℕ
    → ReportView
finding effect at_the_end all_records counts class_at_end lost_images = record {
  image = effect;
  table = false;
  flash = true;
  same_decision = false;
  written = written_by Writer.Script true ∷ [];
  starts = at_the_end;
  fallback = false;
  lost = lost_images;
  data_windows = [];
  records = all_records;
  again = false;
  raised = 0;
  next = 0;
  same_rows = true;
  by_mixed = 0;
  session = Gated;
  boot = NoWrites;
  buy = NoWrites;
  cuts = counts;
  end_class = class_at_end;
  caveats = [];
}

-- the same with this effect, of which nothing bad is found
abbrev pub turning : ImageEffect → ReportView
turning effect = finding effect (Some (started true 0)) true (counting 0 0 0 0) Finished 0

-- the same with these cuts
abbrev pub cut_as : ClassCounts → Class → ReportView
cut_as counts class_at_end = finding Up (Some (started true 0)) true counts class_at_end 0

-- an update with raises in its script and in the next boot, and rows that stay or not; and with
-- boots for half-written images that raise rows
abbrev pub raising : ℕ → ℕ → Bool → ℕ → ReportView
raising in_script in_boot stay for_mixed = record {
  image = Up;
  table = true;
  flash = false;
  same_decision = false;
  written = [];
  starts = None;
  fallback = true;
  lost = 0;
  data_windows = [];
  records = true;
  again = true;
  raised = in_script;
  next = in_boot;
  same_rows = stay;
  by_mixed = for_mixed;
  session = Silent;
  boot = NoWrites;
  buy = NoWrites;
  cuts = counting 0 0 0 0;
  end_class = Finished;
  caveats = [];
}
