-- What is found is its parts.
use Rattle.std.proofs.Common.{◌≡◌, ℕ, Bool, List, Option, ap, ◌∙◌}
use Rattle.boot_rules.specs.declared.decision.Decision.{Decision}
use Rattle.cut_class.specs.declared.class.Class.{Class}
use Rattle.check_counts.specs.declared.seen.CaveatSeen.{CaveatSeen}
use Rattle.check_counts.specs.Tallies.{Tally}
use Rattle.check_data.specs.declared.found.DataWindow.{DataWindow}
use Rattle.check_images.specs.declared.found.ImageFacts.{ImageFacts}
use Rattle.check_images.specs.declared.found.JudgedWindow.{JudgedWindow}
use Rattle.check_images.specs.declared.found.LostWindow.{LostWindow}
use Rattle.check_images.specs.declared.found.WrittenWindow.{WrittenWindow}
use Rattle.check_laws.specs.declared.found.SessionFound.{SessionFound}
use Rattle.check_records.specs.declared.found.Again.{Again}
use Rattle.check_records.specs.declared.found.Records.{Records}
use Rattle.check_records.specs.declared.found.ScriptCaveats.{ScriptCaveats}
use Rattle.check_require.specs.declared.report.ImageEffect.{ImageEffect}
use Rattle.check_require.specs.declared.report.LawOfWrites.{LawOfWrites}
use Rattle.cli_check.specs.Findings.{FindingsView, ImagesView}

-- images with the same parts are the same
pub same-images : (f g : ImagesView) → f.effect ≡ g.effect → f.table ≡ g.table → f.flash ≡ g.flash → f.rows ≡ g.rows
    → f.written ≡ g.written → f.starts ≡ g.starts → f.fallback ≡ g.fallback → f.lost ≡ g.lost → f.next ≡ g.next
    → f ≡ g
same-images f g e0 e1 e2 e3 e4 e5 e6 e7 e8 =
    let made : ImageEffect → Bool → Bool → Bool → List WrittenWindow → Option ImageFacts → Option JudgedWindow → List
    LostWindow → ℕ → ImagesView =
    λ x0 x1 x2 x3 x4 x5 x6 x7 x8. record {
      effect = x0;
      table = x1;
      flash = x2;
      rows = x3;
      written = x4;
      starts = x5;
      fallback = x6;
      lost = x7;
      next = x8;
    } in
    ap (λ x. made x f.table f.flash f.rows f.written f.starts f.fallback f.lost f.next) e0
    ∙ (ap (λ x. made g.effect x f.flash f.rows f.written f.starts f.fallback f.lost f.next) e1
    ∙ (ap (λ x. made g.effect g.table x f.rows f.written f.starts f.fallback f.lost f.next) e2
    ∙ (ap (λ x. made g.effect g.table g.flash x f.written f.starts f.fallback f.lost f.next) e3
    ∙ (ap (λ x. made g.effect g.table g.flash g.rows x f.starts f.fallback f.lost f.next) e4
    ∙ (ap (λ x. made g.effect g.table g.flash g.rows g.written x f.fallback f.lost f.next) e5
    ∙ (ap (λ x. made g.effect g.table g.flash g.rows g.written g.starts x f.lost f.next) e6
    ∙ (ap (λ x. made g.effect g.table g.flash g.rows g.written g.starts g.fallback x f.next) e7
    ∙ ap (λ x. made g.effect g.table g.flash g.rows g.written g.starts g.fallback g.lost x) e8)))))))

-- counts with the same parts are the same
pub same-tally : (f g : Tally) → f.former ≡ g.former → f.finished ≡ g.finished → f.whole ≡ g.whole → f.tail ≡ g.tail
    → f.mixed ≡ g.mixed → f.bootsel ≡ g.bootsel → f.falls ≡ g.falls → f.early ≡ g.early
    → f.other_data ≡ g.other_data → f.by_mixed ≡ g.by_mixed → f.other_table ≡ g.other_table
    → f.other_class ≡ g.other_class → f.caveats ≡ g.caveats → f ≡ g
same-tally f g e0 e1 e2 e3 e4 e5 e6 e7 e8 e9 e10 e11 e12 =
    let made : ℕ → ℕ → ℕ → ℕ → ℕ → ℕ → ℕ → ℕ → List ℕ → ℕ → Bool → Bool → List CaveatSeen → Tally =
    λ x0 x1 x2 x3 x4 x5 x6 x7 x8 x9 x10 x11 x12. record {
      former = x0;
      finished = x1;
      whole = x2;
      tail = x3;
      mixed = x4;
      bootsel = x5;
      falls = x6;
      early = x7;
      other_data = x8;
      by_mixed = x9;
      other_table = x10;
      other_class = x11;
      caveats = x12;
    } in
    ap (λ x. made x f.finished f.whole f.tail f.mixed f.bootsel f.falls f.early f.other_data f.by_mixed
    f.other_table f.other_class f.caveats) e0
    ∙ (ap (λ x. made g.former x f.whole f.tail f.mixed f.bootsel f.falls f.early f.other_data f.by_mixed
    f.other_table f.other_class f.caveats) e1
    ∙ (ap (λ x. made g.former g.finished x f.tail f.mixed f.bootsel f.falls f.early f.other_data f.by_mixed
    f.other_table f.other_class f.caveats) e2
    ∙ (ap (λ x. made g.former g.finished g.whole x f.mixed f.bootsel f.falls f.early f.other_data f.by_mixed
    f.other_table f.other_class f.caveats) e3
    ∙ (ap (λ x. made g.former g.finished g.whole g.tail x f.bootsel f.falls f.early f.other_data f.by_mixed
    f.other_table f.other_class f.caveats) e4
    ∙ (ap (λ x. made g.former g.finished g.whole g.tail g.mixed x f.falls f.early f.other_data f.by_mixed
    f.other_table f.other_class f.caveats) e5
    ∙ (ap (λ x. made g.former g.finished g.whole g.tail g.mixed g.bootsel x f.early f.other_data f.by_mixed
    f.other_table f.other_class f.caveats) e6
    ∙ (ap (λ x. made g.former g.finished g.whole g.tail g.mixed g.bootsel g.falls x f.other_data f.by_mixed
    f.other_table f.other_class f.caveats) e7
    ∙ (ap (λ x. made g.former g.finished g.whole g.tail g.mixed g.bootsel g.falls g.early x f.by_mixed
    f.other_table f.other_class f.caveats) e8
    ∙ (ap (λ x. made g.former g.finished g.whole g.tail g.mixed g.bootsel g.falls g.early g.other_data x
    f.other_table f.other_class f.caveats) e9
    ∙ (ap (λ x. made g.former g.finished g.whole g.tail g.mixed g.bootsel g.falls g.early g.other_data g.by_mixed x
    f.other_class f.caveats) e10
    ∙ (ap (λ x. made g.former g.finished g.whole g.tail g.mixed g.bootsel g.falls g.early g.other_data g.by_mixed
    g.other_table x f.caveats) e11
    ∙ ap (λ x. made g.former g.finished g.whole g.tail g.mixed g.bootsel g.falls g.early g.other_data g.by_mixed
    g.other_table g.other_class x) e12)))))))))))

-- findings with the same parts are the same
pub same-findings : (f g : FindingsView) → f.former ≡ g.former → f.finished ≡ g.finished → f.end_class ≡ g.end_class
    → f.tally ≡ g.tally → f.images ≡ g.images → f.windows ≡ g.windows → f.records ≡ g.records → f.again ≡ g.again
    → f.raised ≡ g.raised → f.session ≡ g.session → f.boot ≡ g.boot → f.buy ≡ g.buy → f.script ≡ g.script → f ≡ g
same-findings f g e0 e1 e2 e3 e4 e5 e6 e7 e8 e9 e10 e11 e12 =
    let made : Decision → Decision → Class → Tally → ImagesView → List DataWindow → Records → Again → ℕ → SessionFound →
    LawOfWrites → LawOfWrites → ScriptCaveats → FindingsView =
    λ x0 x1 x2 x3 x4 x5 x6 x7 x8 x9 x10 x11 x12. record {
      former = x0;
      finished = x1;
      end_class = x2;
      tally = x3;
      images = x4;
      windows = x5;
      records = x6;
      again = x7;
      raised = x8;
      session = x9;
      boot = x10;
      buy = x11;
      script = x12;
    } in
    ap (λ x. made x f.finished f.end_class f.tally f.images f.windows f.records f.again f.raised f.session f.boot
    f.buy f.script) e0
    ∙ (ap (λ x. made g.former x f.end_class f.tally f.images f.windows f.records f.again f.raised f.session f.boot
    f.buy f.script) e1
    ∙ (ap (λ x. made g.former g.finished x f.tally f.images f.windows f.records f.again f.raised f.session f.boot
    f.buy f.script) e2
    ∙ (ap (λ x. made g.former g.finished g.end_class x f.images f.windows f.records f.again f.raised f.session
    f.boot f.buy f.script) e3
    ∙ (ap (λ x. made g.former g.finished g.end_class g.tally x f.windows f.records f.again f.raised f.session
    f.boot f.buy f.script) e4
    ∙ (ap (λ x. made g.former g.finished g.end_class g.tally g.images x f.records f.again f.raised f.session f.boot
    f.buy f.script) e5
    ∙ (ap (λ x. made g.former g.finished g.end_class g.tally g.images g.windows x f.again f.raised f.session f.boot
    f.buy f.script) e6
    ∙ (ap (λ x. made g.former g.finished g.end_class g.tally g.images g.windows g.records x f.raised f.session
    f.boot f.buy f.script) e7
    ∙ (ap (λ x. made g.former g.finished g.end_class g.tally g.images g.windows g.records g.again x f.session
    f.boot f.buy f.script) e8
    ∙ (ap (λ x. made g.former g.finished g.end_class g.tally g.images g.windows g.records g.again g.raised x f.boot
    f.buy f.script) e9
    ∙ (ap (λ x. made g.former g.finished g.end_class g.tally g.images g.windows g.records g.again g.raised
    g.session x f.buy f.script) e10
    ∙ (ap (λ x. made g.former g.finished g.end_class g.tally g.images g.windows g.records g.again g.raised
    g.session g.boot x f.script) e11
    ∙ ap (λ x. made g.former g.finished g.end_class g.tally g.images g.windows g.records g.again g.raised g.session
    g.boot g.buy x) e12)))))))))))
