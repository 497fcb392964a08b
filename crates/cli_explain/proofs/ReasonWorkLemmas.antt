-- The work of `explain` is right by the rules.
use Rattle.std.proofs.Common.{◌≡◌, ◌∙◌, [], refl, ap}
use Rattle.std.specs.Prelude.{⊤}
use Rattle.pico_board.specs.declared.boot.Cpu.{Cpu}
use Rattle.pico_board.specs.declared.boot.BootKind.{BootKind}
use Rattle.pico_board.specs.Content.{Content}
use Rattle.boot_reasons.specs.Reasons.{reasons_in}
use Rattle.boot_reasons.proofs.ReasonLemmas.{reasons-only, reasons-right}
use Rattle.cli_course.specs.declared.status.Status.TheVariants.{Done}
use Rattle.cli_course.specs.Outcomes.{AnswerView, worked}
use Rattle.cli_inputs.specs.Rules.{IsByRules}
use Rattle.cli_inputs.proofs.WorkLemmas.{same-outcome, never-refuses}
use Rattle.cli_explain.specs.Rules.{IsExplainOf}
use Rattle.cli_explain.specs.Texts.{explain_text}
use Rattle.cli_explain.specs.Works.{explain_work}

explain-right : (c : Content) (cpu : Cpu) (kind : BootKind)
    → IsExplainOf c cpu kind (worked (explain_work c cpu kind))
explain-right c cpu kind = record {
  reasons = reasons_in c cpu kind;
  explained = reasons-right c cpu kind;
  status = refl;
  text = refl;
  files = refl;
}

explain-only : (c : Content) (cpu : Cpu) (kind : BootKind) (o : AnswerView) → IsExplainOf c cpu kind o
    → o ≡ worked (explain_work c cpu kind)
explain-only c cpu kind o right =
    same-outcome o Done _ [] right.status
    (right.text ∙ ap explain_text (reasons-only c cpu kind right.reasons right.explained)) right.files

-- `explain` is right by its rules
pub explain-works : (c : Content) (cpu : Cpu) (kind : BootKind)
    → IsByRules ⊤ (explain_work c cpu kind) (λ name fault. ⊥) (IsExplainOf c cpu kind)
explain-works c cpu kind =
    never-refuses ⊤ (explain_work c cpu kind) (IsExplainOf c cpu kind) (λ need. explain-right c cpu kind)
    (explain-only c cpu kind) (λ h. cc)
