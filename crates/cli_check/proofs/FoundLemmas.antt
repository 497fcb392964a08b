-- What the parts of the code find of a script, put together, is what the functions say.
use Rattle.std.proofs.Common.{◌≡◌, ◌≢◌, ◌∙◌, ◌↔◌, ℕ, Bool, true, false, List, Option, refl, ap, subst}
use Rattle.std.specs.Prelude.{Decides, bytes_eq, not}
use Rattle.std.proofs.lemmas.Bool.Decides.{same_from_decides}
use Rattle.std.proofs.lemmas.Slice.Eq.{bytes_eq-Decides}
use Rattle.pico_board.specs.declared.boot.Cpu.{Cpu}
use Rattle.pico_board.specs.Content.{Content}
use Rattle.boot_rules.specs.declared.decision.Decision.{Decision}
use Rattle.boot_rules.specs.Tables.{table_in}
use Rattle.boot_script.specs.Events.{EventView}
use Rattle.cut_class.specs.declared.class.Class.{Class}
use Rattle.boot_tape.specs.Traces.{trace, trace_steps}
use Rattle.check_counts.specs.declared.counting.Counted.{Counted}
use Rattle.check_counts.specs.Counted.{AreCounted, AreCounts, script_cuts, sides_of}
use Rattle.check_counts.specs.Tallies.{Tally, tally_of}
use Rattle.check_data.specs.declared.found.DataWindow.{DataWindow}
use Rattle.check_images.specs.declared.found.ImageFacts.{ImageFacts}
use Rattle.check_images.specs.declared.found.JudgedWindow.{JudgedWindow}
use Rattle.check_images.specs.declared.found.LostWindow.{LostWindow}
use Rattle.check_images.specs.declared.found.WrittenWindow.{WrittenWindow}
use Rattle.check_images.specs.Comparing.{is_same_found}
use Rattle.check_images.specs.Raising.{raise_count}
use Rattle.check_images.proofs.TableLemmas.{others-are}
use Rattle.check_laws.specs.declared.found.SessionFound.{SessionFound}
use Rattle.check_laws.specs.Told.{session_told}
use Rattle.check_records.specs.declared.found.Again.{Again}
use Rattle.check_records.specs.declared.found.Records.{Records}
use Rattle.check_records.specs.declared.found.ScriptCaveats.{ScriptCaveats}
use Rattle.check_records.specs.Again.{again_by}
use Rattle.check_records.specs.Caveats.{script_caveats}
use Rattle.check_records.specs.Records.{records_of}
use Rattle.check_records.specs.Unerased.{first_unerased}
use Rattle.check_require.specs.declared.report.ImageEffect.{ImageEffect}
use Rattle.check_require.specs.declared.report.LawOfWrites.{LawOfWrites}
use Rattle.cli_check.specs.declared.findings.Findings.{Findings}
use Rattle.cli_check.specs.Finding.{again_in, findings_of, images_of, loose_of, script_sides, script_tally, windows_of, writes_of}
use Rattle.cli_check.specs.Findings.{FindingsView, ImagesView, findings_from, images_from}
use Rattle.cli_check.proofs.TallyLemmas.{counts-told}

never : false ≡ true → ⊥
never e = cc

-- whether two lists of bytes differ, as a test says
pub bytes-told : (b : Bool) (xs ys : List ℕ) → ((b ≡ true) ↔ (xs ≢ ys)) → b ≡ not (bytes_eq xs ys)
bytes-told b xs ys test = same_from_decides b (not (bytes_eq xs ys)) test (go (bytes_eq xs ys) (bytes_eq-Decides xs ys))
  where
    go : (same : Bool) → Decides same (xs ≡ ys) → Decides (not same) (xs ≢ ys)
    go true is = (λ e. cc, λ differ. absurd (differ (is.0 refl)))
    go false is = (λ e alike. never (is.1 alike), λ differ. refl)

-- whether the tables of two contents differ
pub table-told : (c z : Content) (b : Bool) → ((b ≡ true) ↔ (table_in z ≢ table_in c))
    → b ≡ not (is_same_found (table_in c) (table_in z))
table-told c z b test =
    same_from_decides b (not (is_same_found (table_in c) (table_in z))) test
    (others-are (table_in c) (table_in z) (is_same_found (table_in c) (table_in z)) refl)

abbrev images : ImageEffect → Bool → Bool → Bool → List WrittenWindow → Option ImageFacts → Option JudgedWindow
    → List LostWindow → ℕ → ImagesView
images a b c d e f g h i = record {
  effect = a;
  table = b;
  flash = c;
  rows = d;
  written = e;
  starts = f;
  fallback = g;
  lost = h;
  next = i;
}

-- two findings on images with the same parts are the same
pub images-same : (a b : ImagesView) → a.effect ≡ b.effect → a.table ≡ b.table → a.flash ≡ b.flash → a.rows ≡ b.rows
    → a.written ≡ b.written → a.starts ≡ b.starts → a.fallback ≡ b.fallback → a.lost ≡ b.lost → a.next ≡ b.next
    → a ≡ b
images-same a b e f g h i j k l m =
    ap (λ x. images x a.table a.flash a.rows a.written a.starts a.fallback a.lost a.next) e
    ∙ (ap (λ x. images b.effect x a.flash a.rows a.written a.starts a.fallback a.lost a.next) f
    ∙ (ap (λ x. images b.effect b.table x a.rows a.written a.starts a.fallback a.lost a.next) g
    ∙ (ap (λ x. images b.effect b.table b.flash x a.written a.starts a.fallback a.lost a.next) h
    ∙ (ap (λ x. images b.effect b.table b.flash b.rows x a.starts a.fallback a.lost a.next) i
    ∙ (ap (λ x. images b.effect b.table b.flash b.rows b.written x a.fallback a.lost a.next) j
    ∙ (ap (λ x. images b.effect b.table b.flash b.rows b.written b.starts x a.lost a.next) k
    ∙ (ap (λ x. images b.effect b.table b.flash b.rows b.written b.starts b.fallback x a.next) l
    ∙ ap (λ x. images b.effect b.table b.flash b.rows b.written b.starts b.fallback b.lost x) m)))))))

abbrev findings : Decision → Decision → Class → Tally → ImagesView → List DataWindow → Records → Again → ℕ
    → SessionFound → LawOfWrites → LawOfWrites → ScriptCaveats → FindingsView
findings a b c d e f g h i j k l m = record {
  former = a;
  finished = b;
  end_class = c;
  tally = d;
  images = e;
  windows = f;
  records = g;
  again = h;
  raised = i;
  session = j;
  boot = k;
  buy = l;
  script = m;
}

findings-same : (a b : FindingsView) → a.former ≡ b.former → a.finished ≡ b.finished → a.end_class ≡ b.end_class
    → a.tally ≡ b.tally → a.images ≡ b.images → a.windows ≡ b.windows → a.records ≡ b.records → a.again ≡ b.again
    → a.raised ≡ b.raised → a.session ≡ b.session → a.boot ≡ b.boot → a.buy ≡ b.buy → a.script ≡ b.script → a ≡ b
findings-same a b e f g h i j k l m n o p q =
    ap (λ x. findings x a.finished a.end_class a.tally a.images a.windows a.records a.again a.raised a.session a.boot
    a.buy a.script) e
    ∙ (ap (λ x. findings b.former x a.end_class a.tally a.images a.windows a.records a.again a.raised a.session
    a.boot a.buy a.script) f
    ∙ (ap (λ x. findings b.former b.finished x a.tally a.images a.windows a.records a.again a.raised a.session a.boot
    a.buy a.script) g
    ∙ (ap (λ x. findings b.former b.finished b.end_class x a.images a.windows a.records a.again a.raised a.session
    a.boot a.buy a.script) h
    ∙ (ap (λ x. findings b.former b.finished b.end_class b.tally x a.windows a.records a.again a.raised a.session
    a.boot a.buy a.script) i
    ∙ (ap (λ x. findings b.former b.finished b.end_class b.tally b.images x a.records a.again a.raised a.session
    a.boot a.buy a.script) j
    ∙ (ap (λ x. findings b.former b.finished b.end_class b.tally b.images b.windows x a.again a.raised a.session
    a.boot a.buy a.script) k
    ∙ (ap (λ x. findings b.former b.finished b.end_class b.tally b.images b.windows b.records x a.raised a.session
    a.boot a.buy a.script) l
    ∙ (ap (λ x. findings b.former b.finished b.end_class b.tally b.images b.windows b.records b.again x a.session
    a.boot a.buy a.script) m
    ∙ (ap (λ x. findings b.former b.finished b.end_class b.tally b.images b.windows b.records b.again b.raised x
    a.boot a.buy a.script) n
    ∙ (ap (λ x. findings b.former b.finished b.end_class b.tally b.images b.windows b.records b.again b.raised
    b.session x a.buy a.script) o
    ∙ (ap (λ x. findings b.former b.finished b.end_class b.tally b.images b.windows b.records b.again b.raised
    b.session b.boot x a.script) p
    ∙ ap (λ x. findings b.former b.finished b.end_class b.tally b.images b.windows b.records b.again b.raised
    b.session b.boot b.buy x) q)))))))))))

-- what is found, part by part
pub record AreFound (c : Content) (cpu : Cpu) (events : List EventView) (pattern : List ℕ) (f : Findings) : Type 0 where
  pub windows : f.windows.items ≡ windows_of c cpu events
  pub counted : AreCounted c cpu events pattern f.windows.items
      (loose_of c cpu events) f.cuts
  pub images : images_from f.images ≡ images_of c cpu events
  pub records : f.records ≡ records_of c cpu events
  pub again : f.again ≡ again_by (first_unerased (trace_steps (trace c cpu events).done)) f.cuts.counts.other_table
      f.records.begins f.cuts.counts.other_class
  pub raised : f.raised ≡ raise_count (trace_steps (trace c cpu events).done)
  pub session : f.laws.session ≡ session_told c cpu events
  pub boot : f.laws.boot ≡ (writes_of c cpu events).boot
  pub buy : f.laws.buy ≡ (writes_of c cpu events).buy
  pub script : f.script ≡ script_caveats c cpu events

-- the counts beside the windows that are found
tally-told : (c : Content) (cpu : Cpu) (events : List EventView) (pattern : List ℕ) (windows : List DataWindow)
    (found : Counted) → windows ≡ windows_of c cpu events
    → AreCounted c cpu events pattern windows
    (loose_of c cpu events) found
    → tally_of found.counts ≡ script_tally c cpu events pattern
tally-told c cpu events pattern windows found is counted =
    let loose = loose_of c cpu events in
    let contents = script_cuts c cpu events pattern in
    counts-told (script_sides c cpu events) contents (tally_of found.counts)
    (subst (λ ws. AreCounts (sides_of c cpu events ws loose) contents (tally_of found.counts)) is counted.counts)

-- the same end again, by the records and the tally
again-told : (c : Content) (cpu : Cpu) (events : List EventView) (t u : Tally) (begins : Bool) → t ≡ u
    → begins ≡ (records_of c cpu events).begins
    → again_by (first_unerased (trace_steps (trace c cpu events).done)) t.other_table begins t.other_class
    ≡ again_in c cpu events u
again-told c cpu events t u begins tally records =
    let first = first_unerased (trace_steps (trace c cpu events).done) in
    ap (λ (x : Tally). again_by first x.other_table begins x.other_class) tally
    ∙ ap (λ x. again_by first u.other_table x u.other_class) records

pub found-told : (c : Content) (cpu : Cpu) (events : List EventView) (pattern : List ℕ) (f : Findings)
    → AreFound c cpu events pattern f → findings_from f ≡ findings_of c cpu events pattern
unfolding findings_of
found-told c cpu events pattern f is =
    let tally = tally-told c cpu events pattern f.windows.items f.cuts is.windows is.counted in
    let begins = ap (λ (r : Records). r.begins) is.records in
    let again = is.again ∙ again-told c cpu events (tally_of f.cuts.counts) (script_tally c cpu events pattern)
    f.records.begins tally begins in
    findings-same (findings_from f) (findings_of c cpu events pattern) is.counted.former is.counted.finished
    is.counted.end_class tally is.images is.windows is.records again is.raised is.session is.boot is.buy is.script
