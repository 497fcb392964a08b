-- What is right for the commands that make files of an image, and for `gen`, which makes a flash
-- of a number. This project's own, over the rules of a boot and of a download's target.
use Rattle.std.specs.Prelude.{◌≡◌, ◌≢◌, ◌⊎◌, ℕ, ◌<◌, ◌≤◌, List, [], ◌++◌, length, Some, None, codes}
use Rattle.pico_board.specs.declared.boot.Cpu.{Cpu}
use Rattle.pico_board.specs.declared.boot.Cpu.TheVariants.{Arm}
use Rattle.pico_board.specs.declared.boot.BootKind.TheVariants.{Normal}
use Rattle.pico_board.specs.Content.{Content}
use Rattle.part_table.specs.declared.target.Target.{Target}
use Rattle.boot_rules.specs.declared.decision.Decision.{Decision}
use Rattle.boot_rules.specs.Chosen.{Chosen}
use Rattle.uf2_place.specs.Files.{file_bytes, page_count}
use Rattle.script_plan.specs.declared.writing.WriteOrder.{WriteOrder}
use Rattle.script_plan.specs.Orders.{script_text}
use Rattle.image_pack.specs.Flashes.{generated}
use Rattle.cli_course.specs.declared.status.Status.TheVariants.{Done}
use Rattle.text_lines.specs.Texts.{decision_line}
use Rattle.cli_course.specs.Outcomes.{one_file, AnswerView}
use Rattle.cli_tools.specs.ToolWorks.{uf2_line, plan_target, script_line, made_content, gen_line}

-- why `uf2` refuses an image: it has no byte
abbrev pub IsNoUf2Image : List ℕ → List ℕ → Type 0
IsNoUf2Image image fault = (image ≡ []) × (fault ≡ codes "empty")

-- `uf2` refuses the image of this name with this fault
abbrev pub IsUf2Refused : List ℕ → List ℕ → List ℕ → List ℕ → Type 0
IsUf2Refused image i name fault = (name ≡ image) × IsNoUf2Image i fault

-- `uf2`: the outcome prints the number of blocks, and writes the UF2 file of the image
pub record IsUf2Of (image : List ℕ) (family : ℕ) (out : List ℕ) (o : AnswerView) : Type 0 where
  pub some : image ≢ []
  pub status : o.status ≡ Done
  pub text : o.text ≡ uf2_line (page_count (length image))
  pub files : o.files ≡ one_file out (file_bytes image family)

-- why `plan` and `load` refuse an image: a download of the processor's executables has no target;
-- otherwise the image has no byte, or more bytes than the target's window
abbrev pub IsTargetFault : Content → Cpu → List ℕ → List ℕ → Type 0
IsTargetFault c cpu image fault =
    ((plan_target c cpu ≡ None) × (fault ≡ codes "no-target"))
    ⊎ ((target : Target) × (plan_target c cpu ≡ Some target)
    × (((image ≡ []) × (fault ≡ codes "empty"))
    ⊎ ((target.window.len < length image) × (fault ≡ codes "past-window"))))

-- `plan` and `load` refuse the image of this name with this fault
abbrev pub IsTargetRefused : Content → Cpu → List ℕ → List ℕ → List ℕ → List ℕ → Type 0
IsTargetRefused c cpu image i name fault = (name ≡ image) × IsTargetFault c cpu i fault

-- `plan`, with the first sector last, and `load`, in ascending order: the outcome prints the window
-- of the target of the processor's executables, and the image's length; it writes the script that
-- writes the image into that window in this order
pub record IsScriptOf (order : WriteOrder) (c : Content) (cpu : Cpu) (image out : List ℕ)
    (o : AnswerView) : Type 0 where
  pub target : Target
  pub goes : plan_target c cpu ≡ Some target
  pub some : image ≢ []
  pub fits : length image ≤ target.window.len
  pub status : o.status ≡ Done
  pub text : o.text ≡ script_line order target.window (length image)
  pub files : o.files ≡ one_file out (script_text order target.window.start image)

-- `gen`: the outcome prints a line on the flash of the number, and the one decision that the rules
-- name for a normal boot for Arm; the boot is on that flash and an OTP of zeros; where the
-- decision is a fall, it is no failure
pub record IsGenOf (n : ℕ) (o : AnswerView) : Type 0 where
  pub decision : Decision
  pub chosen : Chosen (made_content n) Arm Normal decision
  pub status : o.status ≡ Done
  pub text : o.text ≡ gen_line n (generated n) ++ decision_line decision
  pub files : o.files ≡ []
