-- The work of `caveats`, as a function of the content.
use Rattle.std.specs.Prelude.{[]}
use Rattle.pico_board.specs.declared.boot.Cpu.{Cpu}
use Rattle.pico_board.specs.declared.boot.BootKind.{BootKind}
use Rattle.pico_board.specs.Content.{Content}
use Rattle.boot_rules.specs.Choosing.{decision_in}
use Rattle.boot_caveats.specs.Caveats.{caveats_in}
use Rattle.cli_course.specs.Outcomes.{Work, Answers}
use Rattle.cli_boot.specs.Works.{is_fall}
use Rattle.cli_caveats.specs.Texts.{caveats_text}

-- what a boot decides, and the caveats of this answer
abbrev pub caveats_work : Content → Cpu → BootKind → Work
caveats_work c cpu kind =
    Answers (is_fall (decision_in c cpu kind))
    (caveats_text (decision_in c cpu kind) (caveats_in c cpu kind)) []
