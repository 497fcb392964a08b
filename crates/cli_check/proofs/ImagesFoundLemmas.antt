-- What the parts of the code find of the images, put together, is what the functions say.
use Rattle.std.proofs.Common.{◌≡◌, ◌≢◌, ◌∙◌, ◌↔◌, true, List, ap, subst}
use Rattle.pico_board.specs.declared.boot.Cpu.{Cpu}
use Rattle.pico_board.specs.declared.boot.BootKind.TheVariants.{Normal}
use Rattle.pico_board.specs.Content.{Content}
use Rattle.boot_rules.specs.declared.decision.Decision.{Decision}
use Rattle.boot_rules.specs.Choosing.{decision_in}
use Rattle.boot_rules.specs.Chosen.{Chosen}
use Rattle.boot_rules.specs.Tables.{table_in}
use Rattle.boot_rules.proofs.DecisionLemmas.{chosen-decision}
use Rattle.cut_class.specs.declared.class.Class.{Class}
use Rattle.boot_sweep.specs.Moving.{MoveView}
use Rattle.boot_tape.specs.declared.notes.Doer.{Doer}
use Rattle.boot_tape.specs.declared.notes.Note.{Note}
use Rattle.boot_tape.specs.Doers.{doers}
use Rattle.check_images.specs.Effects.{effect_of}
use Rattle.check_images.specs.Lost.{AreLost}
use Rattle.check_images.specs.Raising.{boot_raises}
use Rattle.check_images.specs.Starting.{IsFallback, IsStart}
use Rattle.check_images.specs.Told.{fallback_told, lost_told, start_told, written_told}
use Rattle.check_images.specs.Written.{AreWritten}
use Rattle.check_images.proofs.ToldLemmas.{fallback-is, fallback-once, lost-once, start-is, start-once, told-lost, written-are, written-once}
use Rattle.cli_check.specs.Finding.{images_by}
use Rattle.cli_check.specs.Findings.{ImagesView}
use Rattle.cli_check.proofs.FoundLemmas.{bytes-told, images-same, table-told}

-- what is found of the images where a script leads from the content c to z, part by part
pub record AreImagesFound (c z : Content) (cpu : Cpu) (moves : List MoveView) (by : List Doer)
    (former finished : Decision) (class : Class) (f : ImagesView) : Type 0 where
  pub effect : f.effect ≡ effect_of former finished class
  pub table : (f.table ≡ true) ↔ (table_in z ≢ table_in c)
  pub flash : (f.flash ≡ true) ↔ (z.flash ≢ c.flash)
  pub rows : (f.rows ≡ true) ↔ (z.otp ≢ c.otp)
  pub written : AreWritten z cpu moves by f.written
  pub starts : IsStart z cpu f.starts
  pub fallback : IsFallback z cpu f.fallback
  pub lost : AreLost c z cpu f.lost
  pub next : f.next ≡ boot_raises z cpu

pub images-found : (c z : Content) (cpu : Cpu) (moves : List MoveView) (by : List Doer) (notes : List Note)
    (former finished : Decision) (class : Class) (f : ImagesView) → by ≡ doers notes → Chosen c cpu Normal former
    → Chosen z cpu Normal finished → AreImagesFound c z cpu moves by former finished class f
    → f ≡ images_by c z cpu moves notes class
images-found c z cpu moves by notes former finished class f who first last is =
    let written = subst (λ xs. AreWritten z cpu moves xs f.written) who is.written in
    images-same f (images_by c z cpu moves notes class)
    (is.effect
    ∙ (ap (λ d. effect_of d finished class) (chosen-decision c cpu Normal former first)
    ∙ ap (λ d. effect_of (decision_in c cpu Normal) d class) (chosen-decision z cpu Normal finished last)))
    (table-told c z f.table is.table) (bytes-told f.flash z.flash c.flash is.flash)
    (bytes-told f.rows z.otp c.otp is.rows)
    (written-once z cpu moves (doers notes) f.written (written_told z cpu moves (doers notes)) written
    (written-are z cpu moves (doers notes)))
    (start-once z cpu f.starts (start_told z cpu) is.starts (start-is z cpu))
    (fallback-once z cpu f.fallback (fallback_told z cpu) is.fallback (fallback-is z cpu))
    (lost-once c z cpu f.lost (lost_told c z cpu) is.lost (told-lost c z cpu)) is.next
