-- What `check` finds of an update, as plain data.
use Rattle.std.specs.Prelude.{ℕ, Bool, List, Option}
use Rattle.check_require.specs.declared.report.CaveatFound.{CaveatFound}
use Rattle.check_require.specs.declared.report.ClassCounts.{ClassCounts}
use Rattle.cut_class.specs.declared.class.Class.{Class}
use Rattle.check_require.specs.declared.report.DataFound.{DataFound}
use Rattle.check_require.specs.declared.report.ImageEffect.{ImageEffect}
use Rattle.check_require.specs.declared.report.LawOfWrites.{LawOfWrites}
use Rattle.check_require.specs.declared.report.Report.{Report}
use Rattle.check_require.specs.declared.report.SessionLaw.{SessionLaw}
use Rattle.check_require.specs.declared.report.StartFound.{StartFound}
use Rattle.check_require.specs.declared.report.WrittenFound.{WrittenFound}

pub record ReportView : Type 0 where
  pub image : ImageEffect
  pub table : Bool
  pub flash : Bool
  pub same_decision : Bool
  pub written : List WrittenFound
  pub starts : Option StartFound
  pub fallback : Bool
  pub lost : ℕ
  pub data_windows : List DataFound
  pub records : Bool
  pub again : Bool
  pub raised : ℕ
  pub next : ℕ
  pub same_rows : Bool
  pub by_mixed : ℕ
  pub session : SessionLaw
  pub boot : LawOfWrites
  pub buy : LawOfWrites
  pub cuts : ClassCounts
  pub end_class : Class
  pub caveats : List CaveatFound

abbrev pub report_from : Report → ReportView
report_from r = record {
  image = r.image;
  table = r.table;
  flash = r.flash;
  same_decision = r.same_decision;
  written = r.written.items;
  starts = r.starts;
  fallback = r.fallback;
  lost = r.lost;
  data_windows = r.data_windows.items;
  records = r.records;
  again = r.again;
  raised = r.raised;
  next = r.next;
  same_rows = r.same_rows;
  by_mixed = r.by_mixed;
  session = r.session;
  boot = r.boot;
  buy = r.buy;
  cuts = r.cuts;
  end_class = r.end;
  caveats = r.caveats.items;
}
