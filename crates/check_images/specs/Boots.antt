-- The content after the steps that a normal boot does.
use Rattle.std.specs.Prelude.{◌≡◌}
use Rattle.pico_board.specs.declared.boot.Cpu.{Cpu}
use Rattle.pico_board.specs.declared.boot.BootKind.TheVariants.{Normal}
use Rattle.pico_board.specs.Content.{Content, IsContent}
use Rattle.pico_board.specs.Steps.{after_all}
use Rattle.boot_rules.specs.declared.decision.Decision.{Decision}
use Rattle.boot_rules.specs.Choosing.{decision_in}
use Rattle.boot_rules.specs.Chosen.{Chosen}
use Rattle.boot_machine.specs.Boots.{decided_steps}

abbrev pub after_boot : Content → Cpu → Content
after_boot z cpu = after_all z (decided_steps z cpu (decision_in z cpu Normal))

-- y is the content after a normal boot on the content z, which decides so
pub record IsBooted (z : Content) (cpu : Cpu) (y : Content) (d : Decision) : Type 0 where
  pub content : IsContent z
  pub chosen : Chosen z cpu Normal d
  pub left : y ≡ after_boot z cpu
