-- What is right for `explain`, by the rules of a boot.
use Rattle.std.specs.Prelude.{◌≡◌, []}
use Rattle.pico_board.specs.declared.boot.Cpu.{Cpu}
use Rattle.pico_board.specs.declared.boot.BootKind.{BootKind}
use Rattle.pico_board.specs.Content.{Content}
use Rattle.boot_reasons.specs.declared.reasons.Reasons.{Reasons}
use Rattle.boot_reasons.specs.Rules.{IsExplained}
use Rattle.cli_course.specs.declared.status.Status.TheVariants.{Done}
use Rattle.cli_course.specs.Outcomes.{AnswerView}
use Rattle.cli_explain.specs.Texts.{explain_text}

-- `explain`: the outcome prints the reasons that the rules name
pub record IsExplainOf (c : Content) (cpu : Cpu) (kind : BootKind) (o : AnswerView) : Type 0 where
  pub reasons : Reasons
  pub explained : IsExplained c cpu kind reasons
  pub status : o.status ≡ Done
  pub text : o.text ≡ explain_text reasons
  pub files : o.files ≡ []
