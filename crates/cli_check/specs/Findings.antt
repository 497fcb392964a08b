-- What is found of an update, as plain data.
use Rattle.std.specs.Prelude.{ℕ, Bool, List, Option}
use Rattle.cut_class.specs.declared.class.Class.{Class}
use Rattle.boot_rules.specs.declared.decision.Decision.{Decision}
use Rattle.check_counts.specs.Tallies.{Tally, tally_of}
use Rattle.check_data.specs.declared.found.DataWindow.{DataWindow}
use Rattle.check_images.specs.declared.found.ImageFacts.{ImageFacts}
use Rattle.check_images.specs.declared.found.JudgedWindow.{JudgedWindow}
use Rattle.check_images.specs.declared.found.LostWindow.{LostWindow}
use Rattle.check_images.specs.declared.found.WrittenWindow.{WrittenWindow}
use Rattle.check_laws.specs.declared.found.SessionFound.{SessionFound}
use Rattle.check_records.specs.declared.found.Again.{Again}
use Rattle.check_records.specs.declared.found.Records.{Records}
use Rattle.check_records.specs.declared.found.ScriptCaveats.{ScriptCaveats}
use Rattle.check_require.specs.declared.report.ImageEffect.{ImageEffect}
use Rattle.check_require.specs.declared.report.LawOfWrites.{LawOfWrites}
use Rattle.cli_check.specs.declared.findings.Findings.{Findings}
use Rattle.cli_check.specs.declared.findings.ImagesFound.{ImagesFound}

-- what an update does to the images of a board
pub record ImagesView : Type 0 where
  pub effect : ImageEffect
  pub table : Bool
  pub flash : Bool
  pub rows : Bool
  pub written : List WrittenWindow
  pub starts : Option ImageFacts
  pub fallback : Option JudgedWindow
  pub lost : List LostWindow
  pub next : ℕ

abbrev pub images_from : ImagesFound → ImagesView
images_from f = record {
  effect = f.effect;
  table = f.table;
  flash = f.flash;
  rows = f.rows;
  written = f.written.items;
  starts = f.starts;
  fallback = f.fallback;
  lost = f.lost.items;
  next = f.next;
}

-- what is found of an update: what normal boots decide before it and after it, the class of its end,
-- what is counted over its cuts, and what else its lines tell
pub record FindingsView : Type 0 where
  pub former : Decision
  pub finished : Decision
  pub end_class : Class
  pub tally : Tally
  pub images : ImagesView
  pub windows : List DataWindow
  pub records : Records
  pub again : Again
  pub raised : ℕ
  pub session : SessionFound
  pub boot : LawOfWrites
  pub buy : LawOfWrites
  pub script : ScriptCaveats

abbrev pub findings_from : Findings → FindingsView
findings_from f = record {
  former = f.cuts.former;
  finished = f.cuts.finished;
  end_class = f.cuts.end_class;
  tally = tally_of f.cuts.counts;
  images = images_from f.images;
  windows = f.windows.items;
  records = f.records;
  again = f.again;
  raised = f.raised;
  session = f.laws.session;
  boot = f.laws.boot;
  buy = f.laws.buy;
  script = f.script;
}
