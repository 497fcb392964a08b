use Rattle.std.proofs.Common.{◌≡◌, false, sym, ap, ◌∙◌}
use Rattle.std.proofs.Math.Dec.{lit<}
use Rattle.pico_board.specs.declared.Step.TheVariants.{Program}
use Rattle.pico_board.specs.declared.boot.Cpu.TheVariants.{Arm}
use Rattle.pico_board.specs.Content.{Content}
use Rattle.pico_board.specs.Steps.{after_all}
use Rattle.worked_flashes.specs.Flashes.{arm_slot, bare_slot}
use Rattle.boot_sweep.specs.declared.results.CutResult.{CutResult}
use Rattle.boot_sweep.specs.declared.results.CutResult.TheVariants.{Chance}
use Rattle.boot_sweep.specs.Comparing.{result_of}
use Rattle.worked_flashes.specs.Flashes.{beside_small, data_page}
use Rattle.worked_flashes.specs.Writes.{longer_steps}
use Rattle.boot_sweep.specs.Sweeps.{Line}
use Rattle.law_plans.proofs.ExampleLemmas.{first-three}
use Rattle.law_plans.proofs.examples.cuts.a_line_before_a_step_that_says_chance.Goals as goal

pub returns : goal.returns
returns c = λ pattern.
    let before = beside_small bare_slot in
    let z = after_all before longer_steps in
    let short = beside_small (arm_slot 0x0001000a) in
    let chance : Chance ≡ result_of before z short Arm =
    (c.results_are_judged.ensures before z short Arm Chance).0 c.the_three_results_of_a_cut.ensures.chance in
    let line : CutResult → Line =
    λ r. record { number = 3; step = Program 66 data_page; within = false; result = r } in (
      6,
      lit< tt,
      ap (λ (d : Content). line (result_of before z d Arm)) first-three ∙ ap line (sym chance),
    )
