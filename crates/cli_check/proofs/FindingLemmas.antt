-- What the functions find of a script is found by the rules, and nothing else is.
use Rattle.std.proofs.Common.{◌≡◌, ℕ, Bool, List, Some, refl, sym, ap, ◌∙◌, subst}
use Rattle.pico_board.specs.declared.boot.Cpu.{Cpu}
use Rattle.pico_board.specs.declared.boot.BootKind.TheVariants.{Normal}
use Rattle.pico_board.specs.declared.window.Window.{Window}
use Rattle.pico_board.specs.Content.{Content, IsContent}
use Rattle.boot_rules.proofs.DecisionLemmas.{chosen-decision, decision-chosen}
use Rattle.boot_script.specs.Events.{EventView}
use Rattle.boot_machine.specs.Plays.{powerless}
use Rattle.cut_class.specs.declared.class.Class.{Class}
use Rattle.cut_class.specs.declared.class.Class.TheVariants as classes
use Rattle.boot_cuts.specs.Answers.{end_answer}
use Rattle.boot_cuts.specs.Classes.{Falls}
use Rattle.boot_cuts.proofs.ClassLemmas.{class-exactly}
use Rattle.boot_tape.specs.Traces.{trace, trace_steps}
use Rattle.check_counts.specs.Counted.{script_cuts}
use Rattle.check_counts.specs.Facts.{falls_on, is_early, is_of_class, is_on_other_data, is_raising}
use Rattle.check_counts.specs.Tallies.{Tally}
use Rattle.check_counts.proofs.RuleLemmas.{seen-right}
use Rattle.check_data.specs.Early.{StartsEarly}
use Rattle.check_data.specs.Others.{RunsOnOthers}
use Rattle.check_data.proofs.WindowLemmas.{windows-exactly}
use Rattle.check_laws.specs.OwnLaws.{BootMade, BuyMade, IsBootKept, IsBootLaw, IsBuyKept, IsBuyLaw, boot_kept, boots_in, buys_in, raises_own}
use Rattle.check_laws.proofs.MadeLemmas.{boot-law, buy-law}
use Rattle.check_laws.proofs.ToldLemmas.{session-once, session-told}
use Rattle.check_laws.proofs.WriteLawLemmas.{one-law}
use Rattle.check_records.specs.declared.found.Again.{Again}
use Rattle.check_records.specs.declared.found.Again.TheVariants.{Yes, NoStep, NoTable, NoTarget}
use Rattle.check_records.specs.declared.found.ScriptCaveats.{ScriptCaveats}
use Rattle.check_records.specs.Again.{AreCutFacts, IsAgain}
use Rattle.check_records.specs.Caveats.{script_caveats}
use Rattle.check_records.specs.Records.{records_of}
use Rattle.check_records.specs.Unerased.{IsFirstUnerased, first_unerased}
use Rattle.check_records.proofs.AgainLemmas.{again-is}
use Rattle.check_records.proofs.GatedLemmas.{held-gated}
use Rattle.check_records.proofs.UnerasedLemmas.{first-exactly}
use Rattle.check_require.specs.declared.report.LawOfWrites.{LawOfWrites}
use Rattle.cli_check.specs.Finding.{findings_of, script_sides, script_tally, windows_of, writes_of}
use Rattle.cli_check.specs.FindingRules.{AreCountsOf, AreFindings, HasClass, IsRaising}
use Rattle.cli_check.specs.Findings.{FindingsView}
use Rattle.cli_check.proofs.CountLemmas.{class-is, early-is, falls-exactly, other-class-is, other-is, raising-is, so-many, so-many-each, so-many-each-once, so-many-once, table-is}
use Rattle.cli_check.proofs.ImageLemmas.{images-are, images-once}
use Rattle.cli_check.proofs.PartLemmas.{same-findings, same-tally}
use Rattle.cli_check.proofs.SeenLemmas.{one-seen}
use Rattle.cli_check.proofs.TestLemmas.{one-test}

-- ---- whether the script comes to the same end again

first-once : (c : Content) (cpu : Cpu) (events : List EventView) (j k : ℕ)
    → IsFirstUnerased (trace_steps (trace c cpu events).done) j
    → IsFirstUnerased (trace_steps (trace c cpu events).done) k → j ≡ k
first-once c cpu events j k one two =
    let steps = trace_steps (trace c cpu events).done in
    same-some j k (sym ((first-exactly steps j).1 one) ∙ (first-exactly steps k).1 two)
  where
    same-some : (j k : ℕ) → Some j ≡ Some k → j ≡ k
    same-some j k e = cc

again-once : (c : Content) (cpu : Cpu) (events : List EventView) (pattern : List ℕ) (a b : Again)
    → IsAgain c cpu events pattern a → IsAgain c cpu events pattern b → a ≡ b
again-once c cpu events pattern (NoStep j) (NoStep k) x y = ap (λ n. NoStep n) (first-once c cpu events j k x y)
again-once c cpu events pattern NoTable NoTable x y = refl
again-once c cpu events pattern NoTarget NoTarget x y = refl
again-once c cpu events pattern Yes Yes x y = refl
again-once c cpu events pattern (NoStep j) NoTable x y = absurd (y.0 (j, x.here))
again-once c cpu events pattern (NoStep j) NoTarget x y = absurd (y.0 (j, x.here))
again-once c cpu events pattern (NoStep j) Yes x y = absurd (y.0 (j, x.here))
again-once c cpu events pattern NoTable (NoStep k) x y = absurd (x.0 (k, y.here))
again-once c cpu events pattern NoTarget (NoStep k) x y = absurd (x.0 (k, y.here))
again-once c cpu events pattern Yes (NoStep k) x y = absurd (x.0 (k, y.here))
again-once c cpu events pattern NoTable NoTarget x y = absurd (y.1 x.1)
again-once c cpu events pattern NoTarget NoTable x y = absurd (x.1 y.1)
again-once c cpu events pattern NoTable Yes x y = absurd (y.1 x.1)
again-once c cpu events pattern Yes NoTable x y = absurd (x.1 y.1)
again-once c cpu events pattern NoTarget Yes x y = absurd (y.2 x.2)
again-once c cpu events pattern Yes NoTarget x y = absurd (x.2 y.2)

-- ---- the counts over the cuts

module _ (c : Content) (cpu : Cpu) (events : List EventView) (pattern : List ℕ) where
  abbrev told : Tally
  told = script_tally c cpu events pattern

  abbrev last : Content
  last = (trace c cpu events).last

  facts-are : AreCutFacts c cpu events pattern told.other_table told.other_class
  facts-are = record { table = table-is c cpu events pattern; class = other-class-is c cpu events pattern }

  abbrev has : Class → Content → Bool
  has = is_of_class (script_sides c cpu events)

  abbrev Has : Class → Content → Type 0
  Has = HasClass c cpu events

  abbrev cuts : List Content
  cuts = script_cuts c cpu events pattern

  abbrev StartsSoon : Content → Type 0
  StartsSoon = StartsEarly c last (trace c cpu events).moves cpu

  abbrev RunsOn : Window → Content → Type 0
  RunsOn = RunsOnOthers c last (trace c cpu events).moves cpu

  pub counts-are : AreCountsOf c cpu events pattern (windows_of c cpu events) told
  counts-are = record {
    former = so-many (has classes.Former) (Has classes.Former) (class-is c cpu events pattern classes.Former) cuts;
    finished = so-many (has classes.Finished) (Has classes.Finished) (class-is c cpu events pattern classes.Finished) cuts;
    whole = so-many (has classes.Whole) (Has classes.Whole) (class-is c cpu events pattern classes.Whole) cuts;
    tail = so-many (has classes.Tail) (Has classes.Tail) (class-is c cpu events pattern classes.Tail) cuts;
    mixed = so-many (has classes.Mixed) (Has classes.Mixed) (class-is c cpu events pattern classes.Mixed) cuts;
    bootsel = so-many (has classes.Bootsel) (Has classes.Bootsel) (class-is c cpu events pattern classes.Bootsel) cuts;
    falls = so-many (falls_on cpu) (λ d. Falls d cpu) (falls-exactly cpu) cuts;
    early = so-many (is_early (script_sides c cpu events)) StartsSoon (early-is c cpu events pattern) cuts;
    other_data = so-many-each (is_on_other_data (script_sides c cpu events)) RunsOn cuts (windows_of c cpu events)
        (other-is c cpu events pattern);
    by_mixed = so-many (is_raising (script_sides c cpu events)) (IsRaising c cpu events)
        (raising-is c cpu events pattern) cuts;
    facts = facts-are;
    caveats = seen-right (script_sides c cpu events) cuts;
  }

  pub counts-once : (t : Tally) → AreCountsOf c cpu events pattern (windows_of c cpu events) t → t ≡ told
  counts-once t are =
      same-tally t told
      (so-many-once (has classes.Former) (Has classes.Former) (class-is c cpu events pattern classes.Former) cuts
      t.former are.former)
      (so-many-once (has classes.Finished) (Has classes.Finished) (class-is c cpu events pattern classes.Finished) cuts
      t.finished are.finished)
      (so-many-once (has classes.Whole) (Has classes.Whole) (class-is c cpu events pattern classes.Whole) cuts
      t.whole are.whole)
      (so-many-once (has classes.Tail) (Has classes.Tail) (class-is c cpu events pattern classes.Tail) cuts
      t.tail are.tail)
      (so-many-once (has classes.Mixed) (Has classes.Mixed) (class-is c cpu events pattern classes.Mixed) cuts
      t.mixed are.mixed)
      (so-many-once (has classes.Bootsel) (Has classes.Bootsel) (class-is c cpu events pattern classes.Bootsel) cuts
      t.bootsel are.bootsel)
      (so-many-once (falls_on cpu) (λ d. Falls d cpu) (falls-exactly cpu) cuts t.falls are.falls)
      (so-many-once (is_early (script_sides c cpu events)) StartsSoon (early-is c cpu events pattern) cuts
      t.early are.early)
      (so-many-each-once (is_on_other_data (script_sides c cpu events)) RunsOn cuts (windows_of c cpu events)
      (other-is c cpu events pattern) t.other_data are.other_data)
      (so-many-once (is_raising (script_sides c cpu events)) (IsRaising c cpu events)
      (raising-is c cpu events pattern) cuts t.by_mixed are.by_mixed)
      (one-test t.other_table told.other_table are.facts.table facts-are.table)
      (one-test t.other_class told.other_class are.facts.class facts-are.class)
      (one-seen c last cpu cuts t.caveats told.caveats are.caveats (seen-right (script_sides c cpu events) cuts))

-- ---- the laws

boot-once : (c : Content) (cpu : Cpu) (events : List EventView) (a b : LawOfWrites) → IsBootLaw c cpu events a
    → IsBootLaw c cpu events b → a ≡ b
boot-once c cpu events a b one two =
    one-law (λ (made : BootMade). made.done) (λ made. boot_kept made.before cpu made.kind made.done) (IsBootKept cpu)
    (boots_in (powerless c cpu) events) a b one two

buy-once : (c : Content) (cpu : Cpu) (events : List EventView) (a b : LawOfWrites) → IsBuyLaw c cpu events a
    → IsBuyLaw c cpu events b → a ≡ b
buy-once c cpu events a b one two =
    one-law (λ (made : BuyMade). made.done) (λ made. raises_own made.before cpu made.choice.image made.done)
    (IsBuyKept cpu) (buys_in (powerless c cpu) events) a b one two

-- ---- the caveats of the script itself
same-caveats : (a b : ScriptCaveats) → a.held ≡ b.held → a.skipped ≡ b.skipped → a ≡ b
same-caveats a b held skipped =
    ap (λ h. record { held = h; skipped = a.skipped }) held
    ∙ ap (λ s. record { held = b.held; skipped = s }) skipped

-- ---- all of it

module _ (c : Content) (cpu : Cpu) (events : List EventView) (pattern : List ℕ) (right : IsContent c) where
  abbrev z : Content
  z = (trace c cpu events).last

  -- what the functions find is found of the script
  pub findings-are : AreFindings c cpu events pattern (findings_of c cpu events pattern)
  unfolding findings_of
  findings-are = record {
    former = decision-chosen c cpu Normal;
    finished = decision-chosen z cpu Normal;
    end_class = (class-exactly c z (trace c cpu events).moves z cpu (end_answer c cpu events).class).1 refl;
    images = images-are c cpu events;
    windows = (windows-exactly c z cpu (trace c cpu events).moves (windows_of c cpu events)).1 refl;
    counts = counts-are c cpu events pattern;
    records = refl;
    again = again-is c cpu events pattern (script_tally c cpu events pattern).other_table
        (records_of c cpu events).begins (script_tally c cpu events pattern).other_class refl
        (facts-are c cpu events pattern) (first_unerased (trace_steps (trace c cpu events).done)) refl;
    raised = refl;
    session = session-told c cpu events right;
    boot = boot-law c cpu events (writes_of c cpu events) refl;
    buy = buy-law c cpu events (writes_of c cpu events) refl;
    held = held-gated c cpu events;
    skipped = refl;
  }

  -- and nothing else is
  pub findings-once : (f : FindingsView) → AreFindings c cpu events pattern f → f ≡ findings_of c cpu events pattern
  unfolding findings_of
  findings-once f are =
      let found = findings_of c cpu events pattern in
      let windows : f.windows ≡ windows_of c cpu events =
      (windows-exactly c z cpu (trace c cpu events).moves f.windows).0 are.windows in
      same-findings f found (chosen-decision c cpu Normal f.former are.former)
      (chosen-decision z cpu Normal f.finished are.finished)
      ((class-exactly c z (trace c cpu events).moves z cpu f.end_class).0 are.end_class)
      (counts-once c cpu events pattern f.tally
      (subst (λ ws. AreCountsOf c cpu events pattern ws f.tally) windows are.counts))
      (images-once c cpu events f.images are.images) windows are.records
      (again-once c cpu events pattern f.again found.again are.again findings-are.again) are.raised
      (session-once c cpu events right f.session are.session)
      (boot-once c cpu events f.boot found.boot are.boot findings-are.boot)
      (buy-once c cpu events f.buy found.buy are.buy findings-are.buy)
      (same-caveats f.script (script_caveats c cpu events) (are.held ∙ sym (held-gated c cpu events)) are.skipped)
