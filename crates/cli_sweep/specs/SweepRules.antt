-- What is right for a sweep, and for the question whether an image is firm, by the rules.
use Rattle.std.specs.Prelude.{◌≡◌, ◌≢◌, ◌⊎◌, ℕ, true, false, List, [], ◌++◌, Some, codes}
use Rattle.pico_board.specs.declared.boot.Cpu.{Cpu}
use Rattle.pico_board.specs.Content.{Content, IsContent}
use Rattle.image_check.specs.declared.why.Why.{Why}
use Rattle.image_check.specs.Valid.{Valid}
use Rattle.image_check.specs.WhyNot.{WhyNot}
use Rattle.image_def.specs.declared.started.Started.{Started}
use Rattle.boot_sweep.specs.declared.error.SweepError.{SweepError}
use Rattle.boot_sweep.specs.Firms.{Firm}
use Rattle.boot_sweep.specs.Refusals.{IsRefusedSession, sweep_refusal}
use Rattle.boot_session.specs.Scripts.{script_session}
use Rattle.boot_sweep.specs.Swept.{IsSweep}
use Rattle.cli_course.specs.declared.status.Status.TheVariants.{Done}
use Rattle.cli_course.specs.Outcomes.{AnswerView}
use Rattle.text_lines.specs.Faults.{why_text}
use Rattle.cli_sweep.specs.FirmWorks.{image_alone, whole_window, firm_line}
use Rattle.cli_sweep.specs.SweepWorks.{sweep_fault}

-- `sweep`: the session of the script on a content is refused for no reason; the outcome prints two
-- lines for each of its steps, each with the result of its cut, and then the end line; it writes
-- nothing
pub record IsSweepOf (c : Content) (cpu : Cpu) (script pattern : List ℕ) (o : AnswerView)
    : Type 0 where
  pub right : IsContent c
  pub taken : (e : SweepError) → IsRefusedSession c cpu (script_session c cpu script) e → ⊥
  pub status : o.status ≡ Done
  pub text : IsSweep c cpu pattern (script_session c cpu script) o.text
  pub files : o.files ≡ []

-- the session of a script is refused, and the script is named with the reason. On a content it is
-- the reason that holds by the rules. Of numbers that are no bytes it is what the function says.
pub record IsSweepRefused (script : List ℕ) (c : Content) (cpu : Cpu)
    (bytes name fault : List ℕ) : Type 0 where
  pub reason : SweepError
  pub named : sweep_refusal c cpu (script_session c cpu bytes) ≡ Some reason
  pub holds : IsContent c → IsRefusedSession c cpu (script_session c cpu bytes) reason
  pub blames : name ≡ script
  pub tells : fault ≡ sweep_fault reason

-- an image is firm, and the line says so; or it is not firm, and the line says this
abbrev pub SaysFirm : List ℕ → Cpu → Started → List ℕ → Type 0
SaysFirm image cpu s text =
    (Firm (image_alone image) (whole_window image) cpu s × (text ≡ firm_line true))
    ⊎ ((Firm (image_alone image) (whole_window image) cpu s → ⊥) × (text ≡ firm_line false))

-- `firm`: the image, alone in a flash of its own with an OTP of zeros, is valid with trial images
-- allowed; the outcome prints whether it is firm, and writes nothing
pub record IsFirmOf (image : List ℕ) (cpu : Cpu) (o : AnswerView) : Type 0 where
  pub some : image ≢ []
  pub started : Started
  pub valid : Valid (image_alone image) (whole_window image) cpu true started
  pub status : o.status ≡ Done
  pub text : SaysFirm image cpu started o.text
  pub files : o.files ≡ []

-- an image has no byte, or it fails a rule
abbrev pub IsNoImage : List ℕ → Cpu → List ℕ → Type 0
IsNoImage image cpu fault =
    ((image ≡ []) × (fault ≡ codes "empty"))
    ⊎ ((image ≢ []) × (why : Why) × WhyNot (image_alone image) (whole_window image) cpu true why
    × (fault ≡ codes "not-bootable " ++ why_text why))

-- the image is refused with this fault
abbrev pub IsFirmRefused : List ℕ → List ℕ → Cpu → List ℕ → List ℕ → Type 0
IsFirmRefused name image cpu blamed fault = (blamed ≡ name) × IsNoImage image cpu fault
