use Rattle.std.proofs.Common.{refl}
use Rattle.boot_script.specs.Events.{EventView}
use Rattle.text_lines.specs.declared.outcome.EventOutcome.TheVariants.{PowerLost}
use Rattle.law_boot_cuts.proofs.RunLemmas.{reset-cut}
use Rattle.law_boot_cuts.proofs.laws.running.a_reset_that_loses_power.Goals as goal

pub returns : goal.returns
returns k = λ m o kind choice on chosen moves.
    reset-cut m o kind choice on chosen
    ((k.only_lost_power_says_so.ensures.told m o (EventView.Reset kind) PowerLost moves).0 refl)
