-- A boot of a script, or a buy, and the steps of it that are done: all, or the first ones where
-- power is lost behind these.
use Rattle.std.specs.Prelude.{◌≡◌, ◌++◌, List}
use Rattle.pico_board.specs.declared.Step.{Step}
use Rattle.pico_board.specs.declared.boot.Cpu.{Cpu}
use Rattle.slot_choice.specs.declared.choice.Choice.{Choice}
use Rattle.trial_buy.specs.Starting.{start_steps}
use Rattle.boot_rules.specs.declared.decision.Decision.TheVariants.{Start}
use Rattle.boot_rules.specs.Chosen.{Chosen}
use Rattle.boot_machine.specs.Machines.{MachineView}
use Rattle.law_boot_cuts.specs.Running.{buys}
use Rattle.check_laws.specs.OwnLaws.{BootMade, BuyMade}

-- the boot starts this choice, and completes the first steps of the start
pub record BeginsBoot (cpu : Cpu) (b : BootMade) (choice : Choice) : Type 0 where
  pub chosen : Chosen b.before cpu b.kind (Start choice)
  pub rest : List Step
  pub begins : start_steps b.before cpu choice ≡ b.done ++ rest

-- the image that the machine runs buys itself on the machine's content, and completes the first
-- steps of the buy
pub record BeginsBuy (n : MachineView) (b : BuyMade) : Type 0 where
  pub before : b.before ≡ n.content
  pub rest : List Step
  pub begins : buys n b.choice ≡ b.done ++ rest
