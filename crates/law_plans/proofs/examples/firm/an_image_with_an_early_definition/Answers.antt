use Rattle.std.proofs.Common.{refl, arith}
use Rattle.pico_board.specs.declared.boot.Cpu.TheVariants.{Arm}
use Rattle.boot_sweep.specs.Firms.{IsFirm}
use Rattle.law_plans.specs.Examples.{early, arm_start_at}
use Rattle.law_plans.proofs.FirmExampleLemmas.{early-alone, early_held}
use Rattle.law_plans.proofs.examples.firm.an_image_with_an_early_definition.Goals as goal

never : IsFirm Arm early (arm_start_at 0x100) → ⊥
never f = let late = f.late in omega (arith, late)

pub returns : goal.returns
returns c = (early_held, refl, (refl, refl), early-alone, never)
