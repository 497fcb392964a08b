-- What is right for `stage`, in the words of the rules. This project's own, over the rules of a
-- valid image and of a download's target.
use Rattle.std.specs.Prelude.{◌≡◌, ◌≢◌, ◌⊎◌, ◌↔◌, ℕ, ◌/◌, ◌<◌, ◌≤◌, Bool, true, List, [], ◌++◌, length, take, Contains, Some, None, codes}
use Rattle.pico_board.specs.declared.boot.Cpu.{Cpu}
use Rattle.pico_board.specs.declared.window.Window.{Window}
use Rattle.pico_board.specs.Content.{Content, window_bytes}
use Rattle.part_table.specs.declared.target.Target.{Target}
use Rattle.block_codec.specs.Blocks.{BlockView}
use Rattle.block_loop.specs.Loop.{IsFirstBlock, IsLoop}
use Rattle.image_def.specs.declared.started.Started.{Started}
use Rattle.image_check.specs.declared.why.Why.{Why}
use Rattle.image_check.specs.Addressing.{in_flash}
use Rattle.image_check.specs.Valid.{IsValidImage}
use Rattle.image_check.specs.WhyNot.{IsWhyNot}
use Rattle.slot_choice.specs.declared.unit.SlotUnit.{SlotUnit}
use Rattle.slot_choice.specs.Units.{IsMember}
use Rattle.boot_rules.specs.Choosing.{boot_units_in}
use Rattle.boot_sweep.specs.Firms.{HasNoOtherBlock}
use Rattle.script_stage.specs.Stages.{stage_text}
use Rattle.script_stage.specs.Written.{written_window}
use Rattle.text_lines.specs.Faults.{why_text}
use Rattle.cli_course.specs.declared.status.Status.TheVariants.{Done}
use Rattle.cli_course.specs.Outcomes.{AnswerView, one_file}
use Rattle.cli_tools.specs.ToolWorks.{plan_target}
use Rattle.cli_stage.specs.Images.{elf_front, uf2_front}
use Rattle.cli_stage.specs.StageWorks.{stage_line}

-- the image has a byte, and no more of them than the window
pub record Fits (w : Window) (image : List ℕ) : Type 0 where
  pub some : image ≢ []
  pub few : length image ≤ w.len

-- the first four bytes are those of a UF2 file
abbrev pub IsUf2File : List ℕ → Type 0
IsUf2File image = take 4 image ≡ uf2_front

-- the first four bytes are those of an ELF file
abbrev pub IsElfFile : List ℕ → Type 0
IsElfFile image = take 4 image ≡ elf_front

-- the image fits, and it is neither a UF2 file nor an ELF file
pub record IsPlainImage (w : Window) (image : List ℕ) : Type 0 where
  pub fits : Fits w image
  pub no_uf2 : IsUf2File image → ⊥
  pub no_elf : IsElfFile image → ⊥

-- v: the window's bytes once the image is written there
abbrev pub written : Content → Window → List ℕ → List ℕ
written c w image = written_window image (window_bytes c w)

-- the fault of an image that goes to a window, the first in this order: it has no byte; it has more
-- bytes than the window; it is a UF2 file; it is an ELF file; what the window then holds is no
-- image that is valid for the processor with trial allowed, and this rule is the first that fails
abbrev pub IsImageFault : Content → Cpu → Window → List ℕ → List ℕ → Type 0
IsImageFault c cpu w image fault =
    ((image ≡ []) × (fault ≡ codes "empty"))
    ⊎ (((w.len < length image) × (fault ≡ codes "past-window"))
    ⊎ ((Fits w image × IsUf2File image × (fault ≡ codes "uf2-file"))
    ⊎ ((Fits w image × IsElfFile image × (fault ≡ codes "elf-file"))
    ⊎ (IsPlainImage w image × (why : Why)
    × IsWhyNot in_flash cpu true c.otp (written c w image) why
    × (fault ≡ codes "not-bootable " ++ why_text why)))))

-- why `stage` refuses an image: a download of the processor's executables has no target, or the
-- image has a fault in the target's window
abbrev pub IsStageFault : Content → Cpu → List ℕ → List ℕ → Type 0
IsStageFault c cpu image fault =
    ((plan_target c cpu ≡ None) × (fault ≡ codes "no-target"))
    ⊎ ((target : Target) × (plan_target c cpu ≡ Some target)
    × IsImageFault c cpu target.window image fault)

-- `stage` refuses the image of this name with this fault
abbrev pub IsStageRefused : Content → Cpu → List ℕ → List ℕ → List ℕ → List ℕ → Type 0
IsStageRefused c cpu image i name fault = (name ≡ image) × IsStageFault c cpu i fault

-- each block that stands below 4096 is a block of the loop
abbrev pub HasLoneLoop : List ℕ → Type 0
HasLoneLoop bytes = (loop : List BlockView) × IsLoop bytes loop × HasNoOtherBlock bytes loop

-- the window is a member of a boot unit
abbrev pub IsUnitWindow : Content → Cpu → Window → Type 0
IsUnitWindow c cpu w =
    (u : SlotUnit) × Contains (boot_units_in c cpu) u × IsMember u w

-- `stage`: the image fits into the window of the target of the processor's executables, and what
-- the window then holds is an image that is valid for the processor with trial allowed. The outcome
-- prints the window, the image's length, and whether each block below 4096 is one of the loop's. It
-- writes the script that writes the image there with the page of the first block last, and buys it
-- where it is a trial and the window is a member of a boot unit
pub record IsStageOf (c : Content) (cpu : Cpu) (image out : List ℕ) (o : AnswerView) : Type 0 where
  pub target : Target
  pub goes : plan_target c cpu ≡ Some target
  pub plain : IsPlainImage target.window image
  pub started : Started
  pub valid : IsValidImage in_flash target.window cpu true c.otp
      (written c target.window image) started
  pub first : BlockView
  pub begins : IsFirstBlock (written c target.window image) first
  pub is_staged : Bool
  pub order : (is_staged ≡ true) ↔ HasLoneLoop (written c target.window image)
  pub is_bought : Bool
  pub buys : (is_bought ≡ true) ↔ ((started.trial ≡ true) × IsUnitWindow c cpu target.window)
  pub status : o.status ≡ Done
  pub text : o.text ≡ stage_line target.window (length image) is_staged
  pub files : o.files ≡ one_file out
      (stage_text target.window.start (first.at / 256) is_bought image)
