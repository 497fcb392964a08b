-- What a script does to the images is told by the rules, and nothing else is.
use Rattle.std.proofs.Common.{◌≡◌, ◌≢◌, ◌↔◌, inl, inr, true, List, refl, sym, subst}
use Rattle.pico_board.specs.declared.boot.Cpu.{Cpu}
use Rattle.pico_board.specs.declared.boot.BootKind.TheVariants.{Normal}
use Rattle.pico_board.specs.Content.{Content}
use Rattle.block_codec.specs.declared.versions.Version.{Version}
use Rattle.slot_choice.specs.declared.choice.Choice.{Choice}
use Rattle.slot_choice.specs.Versions.{is_below}
use Rattle.slot_choice.proofs.VersionLemmas.{irreflexive, transitive}
use Rattle.boot_rules.specs.declared.decision.Decision.TheVariants.{Start, Bootsel}
use Rattle.boot_rules.specs.declared.decision.Fall.{Fall}
use Rattle.boot_rules.specs.Choosing.{decision_in}
use Rattle.boot_rules.specs.Chosen.{Chosen}
use Rattle.boot_rules.specs.Tables.{table_in}
use Rattle.boot_rules.proofs.DecisionLemmas.{chosen-once, decision-chosen}
use Rattle.boot_script.specs.Events.{EventView}
use Rattle.boot_cuts.specs.Answers.{end_answer}
use Rattle.boot_cuts.specs.Classes.{Falls}
use Rattle.boot_cuts.proofs.ClassLemmas.{class-exactly}
use Rattle.boot_tape.specs.Doers.{doers}
use Rattle.boot_tape.specs.Traces.{trace}
use Rattle.check_require.specs.declared.report.ImageEffect.{ImageEffect}
use Rattle.check_require.specs.declared.report.ImageEffect.TheVariants.{Unchanged, New, Up, Same, Down}
use Rattle.check_images.specs.Effects.{IsEffect, IsUnchanged, Turns}
use Rattle.check_images.proofs.EffectLemmas.{effect-is}
use Rattle.check_images.proofs.ToldLemmas.{fallback-is, fallback-once, lost-once, start-is, start-once, told-lost, written-are, written-once}
use Rattle.cli_check.specs.Finding.{images_of}
use Rattle.cli_check.specs.FindingRules.{AreImages}
use Rattle.cli_check.specs.Findings.{ImagesView}
use Rattle.cli_check.proofs.PartLemmas.{same-images}
use Rattle.cli_check.proofs.TableLemmas.{other-found}
use Rattle.cli_check.proofs.TestLemmas.{apart, bytes-differ, one-test}

-- ---- the effect

fall-start : (fall : Fall) (choice : Choice) → Bootsel fall ≡ Start choice → ⊥
fall-start fall choice e = cc

same-choice : (a b : Choice) → Start a ≡ Start b → a ≡ b
same-choice a b e = cc

-- a boot that starts does not fall
no-fall : (c : Content) (cpu : Cpu) (choice : Choice) → Chosen c cpu Normal (Start choice) → Falls c cpu → ⊥
no-fall c cpu choice starts falls =
    fall-start falls.fall choice (chosen-once c cpu Normal (Bootsel falls.fall) (Start choice) falls.here starts)

abbrev Below : Version → Version → Type 0
Below v w = is_below v w ≡ true

abbrev Equals : Version → Version → Type 0
Equals v w = w ≡ v

abbrev Above : Version → Version → Type 0
Above v w = is_below w v ≡ true

never-below : (v w : Version) → Below v w → w ≡ v → ⊥
never-below v w below same =
    apart (is_below v v) (subst (λ u. is_below v u ≡ true) same below) (irreflexive v)

never-both : (v w : Version) → Below v w → Above v w → ⊥
never-both v w below above = apart (is_below v v) (transitive v w v below above) (irreflexive v)

never-above : (v w : Version) → w ≡ v → Above v w → ⊥
never-above v w same above =
    apart (is_below v v) (subst (λ u. is_below u v ≡ true) same above) (irreflexive v)

module _ (c z : Content) (cpu : Cpu) where
  -- one that turns is not unchanged, and did not fall before
  turned : (AreSo : Version → Version → Type 0) → Turns c z cpu AreSo → IsUnchanged c z cpu → ⊥
  turned AreSo t (inl falls) = no-fall z cpu t.last t.here falls
  turned AreSo t (inr former) = t.changed former

  started : (AreSo : Version → Version → Type 0) → Turns c z cpu AreSo → Falls c cpu → ⊥
  started AreSo t falls = no-fall c cpu t.former t.first falls

  -- two turns are between the same versions
  both : (One Two : Version → Version → Type 0) → ((v w : Version) → One v w → Two v w → ⊥) → Turns c z cpu One
      → Turns c z cpu Two → ⊥
  both One Two never t u =
      let before = same-choice t.former u.former
      (chosen-once c cpu Normal (Start t.former) (Start u.former) t.first u.first) in
      let after = same-choice t.last u.last
      (chosen-once z cpu Normal (Start t.last) (Start u.last) t.here u.here) in
      never u.former.image.version u.last.image.version
      (subst (λ (k : Choice). One u.former.image.version k.image.version) after
      (subst (λ (k : Choice). One k.image.version t.last.image.version) before t.versions)) u.versions

  pub one-effect : (a b : ImageEffect) → IsEffect c z cpu a → IsEffect c z cpu b → a ≡ b
  one-effect Unchanged Unchanged x y = refl
  one-effect New New x y = refl
  one-effect Up Up x y = refl
  one-effect Same Same x y = refl
  one-effect Down Down x y = refl
  one-effect Unchanged New x y = absurd (y.0 x)
  one-effect New Unchanged x y = absurd (x.0 y)
  one-effect Unchanged Up x y = absurd (turned Below y x)
  one-effect Up Unchanged x y = absurd (turned Below x y)
  one-effect Unchanged Same x y = absurd (turned Equals y x)
  one-effect Same Unchanged x y = absurd (turned Equals x y)
  one-effect Unchanged Down x y = absurd (turned Above y x)
  one-effect Down Unchanged x y = absurd (turned Above x y)
  one-effect New Up x y = absurd (started Below y x.1)
  one-effect Up New x y = absurd (started Below x y.1)
  one-effect New Same x y = absurd (started Equals y x.1)
  one-effect Same New x y = absurd (started Equals x y.1)
  one-effect New Down x y = absurd (started Above y x.1)
  one-effect Down New x y = absurd (started Above x y.1)
  one-effect Up Same x y = absurd (both Below Equals never-below x y)
  one-effect Same Up x y = absurd (both Below Equals never-below y x)
  one-effect Up Down x y = absurd (both Below Above never-both x y)
  one-effect Down Up x y = absurd (both Below Above never-both y x)
  one-effect Same Down x y = absurd (both Equals Above never-above x y)
  one-effect Down Same x y = absurd (both Equals Above never-above y x)

-- ---- all of it

turn : {A : Type 0} (P : Type 0) (x y : A) → (P ↔ (x ≢ y)) → P ↔ (y ≢ x)
turn P x y exactly = ((λ p e. exactly.0 p (sym e)), λ differ. exactly.1 (λ e. differ (sym e)))

module _ (c : Content) (cpu : Cpu) (events : List EventView) where
  abbrev last : Content
  last = (trace c cpu events).last

  -- what the functions tell of the images is right
  pub images-are : AreImages c cpu events (images_of c cpu events)
  images-are = record {
    effect = effect-is c last (trace c cpu events).moves cpu (decision_in c cpu Normal) (decision_in last cpu Normal)
        (end_answer c cpu events).class (decision-chosen c cpu Normal) (decision-chosen last cpu Normal)
        ((class-exactly c last (trace c cpu events).moves last cpu (end_answer c cpu events).class).1 refl);
    table = turn ((images_of c cpu events).table ≡ true) (table_in c) (table_in last)
        (other-found (table_in c) (table_in last));
    flash = bytes-differ last.flash c.flash;
    rows = bytes-differ last.otp c.otp;
    written = written-are last cpu (trace c cpu events).moves (doers (trace c cpu events).notes);
    starts = start-is last cpu;
    fallback = fallback-is last cpu;
    lost = told-lost c last cpu;
    next = refl;
  }

  -- and nothing else is
  pub images-once : (f : ImagesView) → AreImages c cpu events f → f ≡ images_of c cpu events
  images-once f are =
      let told = images_of c cpu events in
      same-images f told
      (one-effect c last cpu f.effect told.effect are.effect images-are.effect)
      (one-test f.table told.table are.table images-are.table)
      (one-test f.flash told.flash are.flash images-are.flash)
      (one-test f.rows told.rows are.rows images-are.rows)
      (written-once last cpu (trace c cpu events).moves (doers (trace c cpu events).notes) f.written told.written
      are.written images-are.written)
      (start-once last cpu f.starts told.starts are.starts images-are.starts)
      (fallback-once last cpu f.fallback told.fallback are.fallback images-are.fallback)
      (lost-once c last cpu f.lost told.lost are.lost images-are.lost) are.next
