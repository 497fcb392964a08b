-- The work of `explain`, as a function of the content.
use Rattle.std.specs.Prelude.{false, []}
use Rattle.pico_board.specs.declared.boot.Cpu.{Cpu}
use Rattle.pico_board.specs.declared.boot.BootKind.{BootKind}
use Rattle.pico_board.specs.Content.{Content}
use Rattle.boot_reasons.specs.Reasons.{reasons_in}
use Rattle.cli_course.specs.Outcomes.{Work, Answers}
use Rattle.cli_explain.specs.Texts.{explain_text}

-- the reasons of a boot; a boot that falls is no fall of `explain` itself
abbrev pub explain_work : Content → Cpu → BootKind → Work
explain_work c cpu kind = Answers false (explain_text (reasons_in c cpu kind)) []
