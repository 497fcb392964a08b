-- What is told of the images, as functions.
use Rattle.std.specs.Prelude.{ℕ, Bool, true, false, if◌then◌else◌, is_some, List, Option, Some, None, Result, Ok, Err}
use Rattle.std.specs.List.{filter_map}
use Rattle.pico_board.specs.declared.boot.Cpu.{Cpu}
use Rattle.pico_board.specs.declared.boot.BootKind.TheVariants.{Normal}
use Rattle.pico_board.specs.declared.window.Window.{Window}
use Rattle.pico_board.specs.Content.{Content, window_bytes}
use Rattle.block_codec.specs.declared.definition.Def.{Def}
use Rattle.image_def.specs.declared.started.Started.{Started}
use Rattle.image_check.specs.declared.examining.Defined.{Defined}
use Rattle.image_check.specs.declared.why.Why.{Why}
use Rattle.image_check.specs.Image.{defined_in, image_at}
use Rattle.boot_rules.specs.declared.decision.Decision.{Decision}
use Rattle.boot_rules.specs.declared.decision.Decision.TheVariants.{Start, Bootsel}
use Rattle.boot_rules.specs.Choosing.{decision_in}
use Rattle.boot_firm.specs.Firmness.{is_firm}
use Rattle.boot_sweep.specs.Moving.{MoveView}
use Rattle.boot_tape.specs.declared.notes.Doer.{Doer}
use Rattle.check_require.specs.declared.report.Writer.{Writer}
use Rattle.check_images.specs.declared.found.Hashed.{Hashed}
use Rattle.check_images.specs.declared.found.Hashed.TheVariants.{Yes, Bare, No}
use Rattle.check_images.specs.declared.found.ImageFacts.{ImageFacts}
use Rattle.check_images.specs.declared.found.JudgedWindow.{JudgedWindow}
use Rattle.check_images.specs.declared.found.LostWindow.{LostWindow}
use Rattle.check_images.specs.declared.found.WrittenWindow.{WrittenWindow}
use Rattle.check_images.specs.Boots.{after_boot}
use Rattle.check_images.specs.Losing.{lost_line}
use Rattle.check_images.specs.Members.{members_in}
use Rattle.check_images.specs.Written.{writer_of}

-- whether a definition has a digest, and what that covers
abbrev pub hash_of : Def → Hashed
hash_of def = if is_some def.digest then (if is_some def.map_item then Yes else Bare) else No

abbrev pub hash_in : Result Defined Why → Hashed
hash_in (Ok image) = hash_of image.def
hash_in (Err why) = No

-- what is told of an image that a window with these bytes holds
abbrev pub facts_of : Cpu → List ℕ → Started → ImageFacts
facts_of cpu bytes s = record {
  version = s.version;
  rollback = s.rollback;
  trial = s.trial;
  hash = hash_in (defined_in cpu bytes);
  firm = is_firm cpu bytes s;
}

abbrev pub told_by : Cpu → List ℕ → Result Started Why → Result ImageFacts Why
told_by cpu bytes (Ok s) = Ok (facts_of cpu bytes s)
told_by cpu bytes (Err why) = Err why

-- what is told of the image of a window, or the first rule that it fails
abbrev pub image_told : Content → Window → Cpu → Bool → Result ImageFacts Why
image_told c w cpu trial = told_by cpu (window_bytes c w) (image_at c w cpu trial)

-- what is told of the image that a decision on z starts
abbrev pub start_by : Content → Cpu → Decision → Option ImageFacts
start_by z cpu (Start choice) =
    Some (facts_of cpu (window_bytes z choice.image.window) choice.image)
start_by z cpu (Bootsel fall) = None

abbrev pub start_told : Content → Cpu → Option ImageFacts
start_told z cpu = start_by z cpu (decision_in z cpu Normal)

-- a window with its image on y, where no trial image is allowed
abbrev pub judged_on : Content → Cpu → Option Window → Option JudgedWindow
judged_on y cpu None = None
judged_on y cpu (Some w) = Some (record { window = w; image = image_told y w cpu false })

-- the other member of the unit that a decision starts, on y
abbrev pub fallback_by : Content → Cpu → Decision → Option JudgedWindow
fallback_by y cpu (Start choice) = judged_on y cpu choice.other
fallback_by y cpu (Bootsel fall) = None

abbrev pub fallback_told : Content → Cpu → Option JudgedWindow
fallback_told z cpu = fallback_by (after_boot z cpu) cpu (decision_in z cpu Normal)

-- the windows of c whose images are lost on z
abbrev pub lost_told : Content → Content → Cpu → List LostWindow
lost_told c z cpu =
    filter_map (lost_line c (members_in z cpu) (after_boot z cpu) cpu (decision_in z cpu Normal))
    (members_in c cpu)

-- the line of a window that this writer has written, if one has
abbrev pub written_by : Content → Cpu → Window → Option Writer → Option WrittenWindow
written_by z cpu w None = None
written_by z cpu w (Some by) =
    Some (record { window = w; by = by; image = image_told z w cpu true })

-- the windows that were written
abbrev pub written_told : Content → Cpu → List MoveView → List Doer → List WrittenWindow
written_told z cpu moves doers =
    filter_map (λ w. written_by z cpu w (writer_of moves doers w)) (members_in z cpu)
