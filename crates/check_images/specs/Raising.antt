-- How many rows steps raise.
use Rattle.std.specs.Prelude.{ℕ, Bool, true, false, List, count_by}
use Rattle.pico_board.specs.declared.Step.{Step}
use Rattle.pico_board.specs.declared.step.Step.TheVariants.{Erase, Program, Raise}
use Rattle.pico_board.specs.declared.boot.Cpu.{Cpu}
use Rattle.pico_board.specs.declared.boot.BootKind.TheVariants.{Normal}
use Rattle.pico_board.specs.Content.{Content}
use Rattle.boot_rules.specs.Choosing.{decision_in}
use Rattle.boot_machine.specs.Boots.{decided_steps}

abbrev pub is_raise : Step → Bool
is_raise (Erase s) = false
is_raise (Program p d) = false
is_raise (Raise r b) = true

-- how many of the steps are raises
abbrev pub raise_count : List Step → ℕ
raise_count steps = count_by is_raise steps

-- how many raises are among the steps that a normal boot does
abbrev pub boot_raises : Content → Cpu → ℕ
boot_raises z cpu = raise_count (decided_steps z cpu (decision_in z cpu Normal))
