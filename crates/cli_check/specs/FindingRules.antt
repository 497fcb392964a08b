-- What is found of a script on a content, in the words of the rules.
use Rattle.std.specs.Prelude.{◌≡◌, ◌≢◌, ◌⊎◌, ◌↔◌, ⊤, ℕ, ◌+◌, ◌<◌, true, List, [], ◌∷◌, length}
use Rattle.pico_board.specs.declared.boot.Cpu.{Cpu}
use Rattle.pico_board.specs.declared.boot.BootKind.TheVariants.{Normal}
use Rattle.pico_board.specs.declared.window.Window.{Window}
use Rattle.pico_board.specs.Content.{Content}
use Rattle.boot_rules.specs.Chosen.{Chosen}
use Rattle.boot_rules.specs.Tables.{table_in}
use Rattle.boot_script.specs.Events.{EventView}
use Rattle.boot_machine.specs.Plays.{powerless}
use Rattle.cut_class.specs.declared.class.Class.{Class}
use Rattle.cut_class.specs.declared.class.Class.TheVariants.{Former, Finished, Whole, Tail, Mixed, Bootsel}
use Rattle.boot_cuts.specs.Classes.{Falls, IsClass}
use Rattle.boot_tape.specs.Doers.{doers}
use Rattle.boot_tape.specs.Traces.{trace, trace_steps}
use Rattle.check_counts.specs.Counted.{script_cuts}
use Rattle.check_counts.specs.Rules.{AreCaveatsSeen}
use Rattle.check_counts.specs.Tallies.{Tally}
use Rattle.check_data.specs.declared.found.DataWindow.{DataWindow}
use Rattle.check_data.specs.Early.{StartsEarly}
use Rattle.check_data.specs.Others.{RunsOnOthers}
use Rattle.check_data.specs.Windows.{AreDataWindows}
use Rattle.check_images.specs.Effects.{IsEffect}
use Rattle.check_images.specs.Lost.{AreLost}
use Rattle.check_images.specs.Raising.{boot_raises, raise_count}
use Rattle.check_images.specs.Starting.{IsFallback, IsStart}
use Rattle.check_images.specs.Written.{AreWritten}
use Rattle.check_laws.specs.OwnLaws.{IsBootLaw, IsBuyLaw}
use Rattle.check_laws.specs.SessionLaws.{IsSessionLaw}
use Rattle.check_records.specs.Again.{AreCutFacts, IsAgain}
use Rattle.check_records.specs.Records.{records_of}
use Rattle.check_records.specs.Caveats.{first_event, is_skipping}
use Rattle.check_records.specs.GatedBlocks.{is_gated_block}
use Rattle.cli_check.specs.Findings.{FindingsView, ImagesView}

-- What a script that leads from the content c to z does to the images. It has the effect, whether
-- the table, the flash and the rows of z are others, and the windows that were written, with who
-- did it. It has what starts on z, what there is to fall back on, the images that are lost, and how
-- many rows the next boot raises.
pub record AreImages (c : Content) (cpu : Cpu) (events : List EventView) (f : ImagesView)
    : Type 0 where
  pub effect : IsEffect c (trace c cpu events).last cpu f.effect
  pub table : (f.table ≡ true) ↔ (table_in (trace c cpu events).last ≢ table_in c)
  pub flash : (f.flash ≡ true) ↔ ((trace c cpu events).last.flash ≢ c.flash)
  pub rows : (f.rows ≡ true) ↔ ((trace c cpu events).last.otp ≢ c.otp)
  pub written : AreWritten (trace c cpu events).last cpu (trace c cpu events).moves
      (doers (trace c cpu events).notes) f.written
  pub starts : IsStart (trace c cpu events).last cpu f.starts
  pub fallback : IsFallback (trace c cpu events).last cpu f.fallback
  pub lost : AreLost c (trace c cpu events).last cpu f.lost
  pub next : f.next ≡ boot_raises (trace c cpu events).last cpu

-- so many of the contents are so
abbrev pub AreSoMany : (Content → Type 0) → List Content → ℕ → Type 0
AreSoMany IsSo [] n = n ≡ 0
AreSoMany IsSo (d ∷ contents) n =
    (IsSo d × ((m : ℕ) × (n ≡ 1 + m) × AreSoMany IsSo contents m))
    ⊎ ((IsSo d → ⊥) × AreSoMany IsSo contents n)

-- in each of these windows so many of the contents are so
abbrev pub AreSoManyEach : (Window → Content → Type 0) → List Content → List DataWindow → List ℕ
    → Type 0
AreSoManyEach IsSo contents [] [] = ⊤
AreSoManyEach IsSo contents [] (n ∷ numbers) = ⊥
AreSoManyEach IsSo contents (w ∷ windows) [] = ⊥
AreSoManyEach IsSo contents (w ∷ windows) (n ∷ numbers) =
    AreSoMany (IsSo w.window) contents n × AreSoManyEach IsSo contents windows numbers

-- a cut of the script that leaves d has this class
abbrev pub HasClass : Content → Cpu → List EventView → Class → Content → Type 0
HasClass c cpu events class d =
    IsClass c (trace c cpu events).last (trace c cpu events).moves d cpu class

-- it is mixed, and a normal boot on d raises a row
abbrev pub IsRaising : Content → Cpu → List EventView → Content → Type 0
IsRaising c cpu events d = HasClass c cpu events Mixed d × (0 < boot_raises d cpu)

-- so many cuts of the script leave a content that is so
abbrev pub AreCuts : Content → Cpu → List EventView → List ℕ → (Content → Type 0) → ℕ → Type 0
AreCuts c cpu events pattern IsSo n = AreSoMany IsSo (script_cuts c cpu events pattern) n

-- What is counted over the cuts of a script that leads from the content c to z. It has the cuts of
-- each class, and those on which a normal boot falls. It has those on which the image that starts
-- on z starts before its loose bytes are there, for each window with data those on which an image
-- runs on other data, and the mixed ones on which a boot raises a row. It has what stands against
-- it that the script is played again, and the caveats.
pub record AreCountsOf (c : Content) (cpu : Cpu) (events : List EventView) (pattern : List ℕ)
    (windows : List DataWindow) (t : Tally) : Type 0 where
  pub former : AreCuts c cpu events pattern (HasClass c cpu events Former) t.former
  pub finished : AreCuts c cpu events pattern (HasClass c cpu events Finished) t.finished
  pub whole : AreCuts c cpu events pattern (HasClass c cpu events Whole) t.whole
  pub tail : AreCuts c cpu events pattern (HasClass c cpu events Tail) t.tail
  pub mixed : AreCuts c cpu events pattern (HasClass c cpu events Mixed) t.mixed
  pub bootsel : AreCuts c cpu events pattern (HasClass c cpu events Bootsel) t.bootsel
  pub falls : AreCuts c cpu events pattern (λ d. Falls d cpu) t.falls
  pub early : AreCuts c cpu events pattern
      (StartsEarly c (trace c cpu events).last (trace c cpu events).moves cpu) t.early
  pub other_data : AreSoManyEach
      (RunsOnOthers c (trace c cpu events).last (trace c cpu events).moves cpu)
      (script_cuts c cpu events pattern) windows t.other_data
  pub by_mixed : AreCuts c cpu events pattern (IsRaising c cpu events) t.by_mixed
  pub facts : AreCutFacts c cpu events pattern t.other_table t.other_class
  pub caveats : AreCaveatsSeen c (trace c cpu events).last cpu
      (script_cuts c cpu events pattern) t.caveats

-- What is found of a script that leads from the content c to z: what a normal boot decides on c and
-- on z, and the class of z; what it does to the images; the windows with data; what is counted over
-- its cuts; its records, and whether it comes to the same end again; its raises and its laws; and
-- the first events that are blocks of a gated download, or are skipped for their page alone.
pub record AreFindings (c : Content) (cpu : Cpu) (events : List EventView) (pattern : List ℕ)
    (f : FindingsView) : Type 0 where
  pub former : Chosen c cpu Normal f.former
  pub finished : Chosen (trace c cpu events).last cpu Normal f.finished
  pub end_class : HasClass c cpu events f.end_class (trace c cpu events).last
  pub images : AreImages c cpu events f.images
  pub windows : AreDataWindows c (trace c cpu events).last cpu (trace c cpu events).moves f.windows
  pub counts : AreCountsOf c cpu events pattern f.windows f.tally
  pub records : f.records ≡ records_of c cpu events
  pub again : IsAgain c cpu events pattern f.again
  pub raised : f.raised ≡ raise_count (trace_steps (trace c cpu events).done)
  pub session : IsSessionLaw c cpu events f.session
  pub boot : IsBootLaw c cpu events f.boot
  pub buy : IsBuyLaw c cpu events f.buy
  pub held : f.script.held ≡ first_event is_gated_block 0 (powerless c cpu) events
  pub skipped : f.script.skipped
      ≡ first_event (is_skipping (length c.flash)) 0 (powerless c cpu) events
