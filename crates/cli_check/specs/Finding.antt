-- What is found of a script on a content, as functions of the crates that find it.
use Rattle.std.specs.Prelude.{ℕ, not, List, bytes_eq}
use Rattle.std.specs.List.{list_any, count_by}
use Rattle.pico_board.specs.declared.boot.Cpu.{Cpu}
use Rattle.pico_board.specs.declared.boot.BootKind.TheVariants.{Normal}
use Rattle.pico_board.specs.Content.{Content}
use Rattle.boot_rules.specs.Choosing.{decision_in}
use Rattle.boot_rules.specs.Tables.{table_in}
use Rattle.boot_script.specs.Events.{EventView}
use Rattle.boot_sweep.specs.Moving.{MoveView}
use Rattle.cut_class.specs.declared.class.Class.{Class}
use Rattle.cut_class.specs.declared.class.Class.TheVariants.{Former, Finished, Whole, Tail, Mixed, Bootsel}
use Rattle.boot_cuts.specs.Answers.{end_answer}
use Rattle.boot_tape.specs.declared.notes.Note.{Note}
use Rattle.boot_tape.specs.Doers.{doers}
use Rattle.boot_tape.specs.Traces.{trace, trace_steps}
use Rattle.check_counts.specs.CaveatsSeen.{caveats_seen}
use Rattle.check_counts.specs.Counted.{script_cuts, sides_of}
use Rattle.check_counts.specs.Facts.{Sides, falls_on, has_other_table, is_early, is_of_class, is_on_other_data, is_other_class, is_raising}
use Rattle.check_counts.specs.Tallies.{Tally}
use Rattle.check_data.specs.declared.found.DataWindow.{DataWindow}
use Rattle.check_data.specs.Loose.{loose_bytes}
use Rattle.check_data.specs.Windows.{data_windows}
use Rattle.check_images.specs.Comparing.{is_same_found}
use Rattle.check_images.specs.Effects.{effect_of}
use Rattle.check_images.specs.Raising.{boot_raises, raise_count}
use Rattle.check_images.specs.Told.{fallback_told, lost_told, start_told, written_told}
use Rattle.check_laws.specs.declared.made.WriteLaws.{WriteLaws}
use Rattle.check_laws.specs.Made.{laws_over, made_by, no_writes}
use Rattle.check_laws.specs.Told.{session_told}
use Rattle.check_records.specs.declared.found.Again.{Again}
use Rattle.check_records.specs.Again.{again_by}
use Rattle.check_records.specs.Records.{records_of}
use Rattle.check_records.specs.Caveats.{script_caveats}
use Rattle.check_records.specs.Unerased.{first_unerased}
use Rattle.cli_check.specs.Findings.{FindingsView, ImagesView}
use Rattle.std.specs.Prelude.{map}

-- the counts over cuts that leave these contents
abbrev pub tally_in : Sides → List Content → Tally
tally_in s contents = record {
  former = count_by (is_of_class s Former) contents;
  finished = count_by (is_of_class s Finished) contents;
  whole = count_by (is_of_class s Whole) contents;
  tail = count_by (is_of_class s Tail) contents;
  mixed = count_by (is_of_class s Mixed) contents;
  bootsel = count_by (is_of_class s Bootsel) contents;
  falls = count_by (falls_on s.cpu) contents;
  early = count_by (is_early s) contents;
  other_data = map (λ w. count_by (is_on_other_data s w) contents) s.windows;
  by_mixed = count_by (is_raising s) contents;
  other_table = list_any (has_other_table s.first) contents;
  other_class = list_any (is_other_class s) contents;
  caveats = caveats_seen s contents;
}

-- the windows with data of a script
abbrev pub windows_of : Content → Cpu → List EventView → List DataWindow
windows_of c cpu events = data_windows c (trace c cpu events).last cpu (trace c cpu events).moves

-- the loose bytes of the image that starts at the end of a script
abbrev pub loose_of : Content → Cpu → List EventView → List ℕ
loose_of c cpu events = loose_bytes (trace c cpu events).last cpu (trace c cpu events).moves

-- what the cuts of a script are judged beside
abbrev pub script_sides : Content → Cpu → List EventView → Sides
script_sides c cpu events =
    sides_of c cpu events (windows_of c cpu events) (loose_of c cpu events)

abbrev pub script_tally : Content → Cpu → List EventView → List ℕ → Tally
script_tally c cpu events pattern =
    tally_in (script_sides c cpu events) (script_cuts c cpu events pattern)

-- What a script that leads from the content c to z does to the images, by its moves, by what is
-- noted of its events, and by the class of z.
abbrev pub images_by : Content → Content → Cpu → List MoveView → List Note → Class → ImagesView
images_by c z cpu moves notes class = record {
  effect = effect_of (decision_in c cpu Normal) (decision_in z cpu Normal) class;
  table = not (is_same_found (table_in c) (table_in z));
  flash = not (bytes_eq z.flash c.flash);
  rows = not (bytes_eq z.otp c.otp);
  written = written_told z cpu moves (doers notes);
  starts = start_told z cpu;
  fallback = fallback_told z cpu;
  lost = lost_told c z cpu;
  next = boot_raises z cpu;
}

-- what a script does to the images of the content
abbrev pub images_of : Content → Cpu → List EventView → ImagesView
images_of c cpu events =
    images_by c (trace c cpu events).last cpu (trace c cpu events).moves
    (trace c cpu events).notes (end_answer c cpu events).class

-- whether the script comes to the same end again, by what its cuts leave
abbrev pub again_in : Content → Cpu → List EventView → Tally → Again
again_in c cpu events t =
    again_by (first_unerased (trace_steps (trace c cpu events).done)) t.other_table
    (records_of c cpu events).begins t.other_class

-- the laws of the writes of its boots and of its buys
abbrev pub writes_of : Content → Cpu → List EventView → WriteLaws
writes_of c cpu events =
    laws_over cpu no_writes
    (made_by c (trace c cpu events).notes (trace c cpu events).moves)

-- what is found of a script on a content
unfoldable pub findings_of : Content → Cpu → List EventView → List ℕ → FindingsView
findings_of c cpu events pattern = record {
  former = decision_in c cpu Normal;
  finished = decision_in (trace c cpu events).last cpu Normal;
  end_class = (end_answer c cpu events).class;
  tally = script_tally c cpu events pattern;
  images = images_of c cpu events;
  windows = windows_of c cpu events;
  records = records_of c cpu events;
  again = again_in c cpu events (script_tally c cpu events pattern);
  raised = raise_count (trace_steps (trace c cpu events).done);
  session = session_told c cpu events;
  boot = (writes_of c cpu events).boot;
  buy = (writes_of c cpu events).buy;
  script = script_caveats c cpu events;
}
