-- Which commands judge nothing, and when a verdict comes.
use Rattle.std.proofs.Common.{ℕ, ◌≡◌, ◌⊎◌, ◌↔◌, ◌∙◌, sym, ap, inl, inr, true, false, List, length, Option, Some, None, refl}
use Rattle.cli_course.specs.Outcomes.{AnswerView, refused, worked}
use Rattle.cli_words.specs.Rows.{CommandLineView}
use Rattle.cli_inputs.specs.Inputs.{first_input_fault, unless_refused}
use Rattle.cli_course.specs.declared.status.Status.{Status}
use Rattle.cli_inputs.specs.Rules.{AreFormed, IsRefusedFor}
use Rattle.cli_inputs.proofs.InputLemmas.{Judged, one_faulty, judged-first}
use Rattle.boot_run.specs.Inputs.{inputs_of}
use Rattle.boot_run.specs.Commands.{work_of, command_outcome, IsRefusedWork, IsRight, IsRightWith, NeedsBytes, judges, is_verdict}
use Rattle.boot_run.proofs.RuleLemmas.{obeys, only, plain, plain-status}

-- a command that judges nothing ends with no verdict
pub no-verdict : (command : CommandLineView) (read : List (List ℕ)) → length read ≡ length (inputs_of command)
    → judges command.verb ≡ false → is_verdict (command_outcome command read).status ≡ false
no-verdict command read long h =
    go (first_input_fault (inputs_of command) read) (judged-first (inputs_of command) read long)
  where
    go : (o : Option AnswerView) → Judged (inputs_of command) read o
        → is_verdict (unless_refused o (worked (work_of command read))).status ≡ false
    go None j = plain-status (work_of command read) (plain command h read long)
    go (Some _) (one_faulty name fault first) = refl

-- a verdict comes exactly where each input has its form and what is right for the command ends with it
pub verdict-exactly : (command : CommandLineView) (read : List (List ℕ)) (status : Status)
    → length read ≡ length (inputs_of command) → NeedsBytes command read → is_verdict status ≡ true
    → ((command_outcome command read).status ≡ status) ↔ IsRightWith command read status
verdict-exactly command read status long need verdict = (
  λ h. go h (obeys command read long need).is,
  λ is. ap (λ (o : AnswerView). o.status)
      (sym (only command read is.o (record { long = long; is = inr (is.formed, is.right) }))) ∙ is.ends,
)
  where
    none : (o : AnswerView) (name fault : List ℕ) → o ≡ refused name fault → o.status ≡ status → ⊥
    none o name fault is h =
        let e : true ≡ false =
        sym verdict ∙ (sym (ap is_verdict h) ∙ ap (λ (x : AnswerView). is_verdict x.status) is) in cc

    go : (command_outcome command read).status ≡ status
        → ((name : List ℕ) × (fault : List ℕ)
        × IsRefusedFor (inputs_of command) (IsRefusedWork command read) read name fault
        × (command_outcome command read ≡ refused name fault))
        ⊎ (AreFormed (inputs_of command) read × IsRight command read (command_outcome command read))
        → IsRightWith command read status
    go h (inl (name, fault, refuses, is)) = absurd (none (command_outcome command read) name fault is h)
    go h (inr (all, right)) =
        record { formed = all; o = command_outcome command read; right = right; ends = h }
