-- Findings of worked examples: an update of which nothing bad is found, and others that differ from
-- it in a few things.
use Rattle.std.specs.Prelude.{ℕ, ◌∷◌, [], false, true, List, None, Ok, Some}
use Rattle.pico_board.specs.declared.window.Window.{Window}
use Rattle.worked_flashes.specs.Choices.{starts_alone}
use Rattle.worked_flashes.specs.Images.{image_of_version, version_at}
use Rattle.slot_choice.specs.Examples.{window_at}
use Rattle.image_check.specs.declared.why.Why.TheVariants.{Digest}
use Rattle.boot_rules.specs.declared.decision.Decision.{Decision}
use Rattle.boot_rules.specs.declared.decision.Decision.TheVariants.{Start, Bootsel}
use Rattle.boot_rules.specs.declared.decision.Fall.TheVariants.{NoImage}
use Rattle.cut_class.specs.declared.class.Class.{Class}
use Rattle.text_lines.specs.declared.outcome.EventOutcome.TheVariants.{Ignored}
use Rattle.check_counts.specs.Tallies.{Tally}
use Rattle.check_data.specs.declared.found.DataWindow.{DataWindow}
use Rattle.check_images.specs.declared.found.Hashed.{Hashed}
use Rattle.check_images.specs.declared.found.Hashed.TheVariants.{Yes}
use Rattle.check_images.specs.declared.found.ImageFacts.{ImageFacts}
use Rattle.check_images.specs.declared.found.Loss.TheVariants.{Fault}
use Rattle.check_images.specs.declared.found.LostWindow.{LostWindow}
use Rattle.check_laws.specs.declared.found.SessionFound.TheVariants.{Gated}
use Rattle.check_records.specs.declared.found.Again.TheVariants as agains
use Rattle.check_records.specs.declared.found.Records.{Records}
use Rattle.check_require.specs.declared.report.DataOwner.{DataOwner}
use Rattle.check_require.specs.declared.report.DataWritten.{DataWritten}
use Rattle.check_require.specs.declared.report.ImageEffect.{ImageEffect}
use Rattle.check_require.specs.declared.report.ImageEffect.TheVariants.{New}
use Rattle.check_require.specs.declared.report.LawOfWrites.TheVariants.{Silent}
use Rattle.check_require.specs.declared.report.Writer.TheVariants.{Script}
use Rattle.check_require.specs.Requires.{default_require}
use Rattle.check_lines.specs.Examples.{counts_so}
use Rattle.cli_course.specs.declared.status.Status.{Status}
use Rattle.cli_course.specs.Outcomes.{worked}
use Rattle.cli_check.specs.CheckWorks.{found_work}
use Rattle.cli_check.specs.Findings.{FindingsView, ImagesView}

-- windows of two sectors each
abbrev pub one : Window
one = window_at 0x2000 0x2000

abbrev pub other : Window
other = window_at 0x4000 0x2000

-- a boot before the update falls, and one after it starts version 1.2
abbrev pub falls : Decision
falls = Bootsel NoImage

abbrev pub starts : Decision
starts = Start (starts_alone false (image_of_version one 1 2 false))

-- an image of version 1.2, with a digest or without
abbrev pub image_with : Hashed → ImageFacts
image_with hashed = record {
  version = version_at 1 2;
  rollback = None;
  trial = false;
  hash = hashed;
  firm = true;
}

-- a window with data
abbrev pub data_in : Window → DataOwner → DataWritten → DataWindow
data_in window owner how = record { window = window; of = owner; written = how }

-- the image of the other window is lost
abbrev pub other_lost : LostWindow
other_lost = record { window = other; loss = Fault Digest }

-- a script's records, none, or one of which did nothing, or an unfinished download
abbrev pub all_well : Records
all_well = record { refused = None; unfinished = None; begins = false }

abbrev pub one_ignored : Records
one_ignored = record {
  refused = Some (record { count = 1; first = 3; outcome = Ignored });
  unfinished = None;
  begins = false;
}

abbrev pub not_done : Records
not_done = record { refused = None; unfinished = Some 2; begins = true }

-- the script writes a valid image into the first window, which starts; so many others are lost
abbrev pub images_so : ImageEffect → List LostWindow → ImagesView
images_so effect lost = record {
  effect = effect;
  table = false;
  flash = true;
  rows = false;
  written = record { window = one; by = Script; image = Ok (image_with Yes) } ∷ [];
  starts = Some (image_with Yes);
  fallback = None;
  lost = lost;
  next = 0;
}

-- what is found of an update of a board that did not start, with an end of this class, these counts
-- of its cuts, these images and records
abbrev pub found_so : Class → Tally → ImagesView → Records → FindingsView
found_so class counts images records = record {
  former = falls;
  finished = starts;
  end_class = class;
  tally = counts;
  images = images;
  windows = [];
  records = records;
  again = agains.Yes;
  raised = 0;
  session = Gated one;
  boot = Silent;
  buy = Silent;
  script = record { held = None; skipped = None };
}

-- the same with so many cuts of the last four classes, and no other fault
abbrev pub cuts_so : Class → ℕ → ℕ → ℕ → ℕ → FindingsView
cuts_so class whole tail mixed bootsel =
    found_so class (counts_so 10 2 whole tail mixed bootsel 10) (images_so New []) all_well

-- the status by what is asked where a team says nothing
abbrev pub status_by_default : FindingsView → Status
status_by_default f = (worked (found_work default_require f)).status
