-- By computing.
use Rattle.std.proofs.Common.{◌≡◌, List, Some, false, slice_get, sym, ap, ◌∙◌, subst}
use Rattle.pico_board.specs.declared.Step.{Step}
use Rattle.pico_board.specs.declared.Step.TheVariants.{Program}
use Rattle.pico_board.specs.declared.boot.Cpu.TheVariants.{Arm}
use Rattle.pico_board.specs.Content.{Content}
use Rattle.pico_board.specs.Steps.{after_all}
use Rattle.boot_sweep.specs.declared.results.CutResult.{CutResult}
use Rattle.boot_sweep.specs.declared.results.CutResult.TheVariants.{Chance}
use Rattle.boot_sweep.specs.Comparing.{result_of}
use Rattle.boot_sweep.specs.Refusals.{IsRefusedSession}
use Rattle.boot_sweep.specs.Results.{IsCutResult}
use Rattle.boot_sweep.specs.Sweeps.{Line, sweep_lines}
use Rattle.boot_sweep.proofs.ResultLemmas.{judged-exactly}
use Rattle.worked_flashes.specs.Flashes.{data_page}
use Rattle.worked_flashes.specs.Writes.{longer_steps}
use Rattle.law_cuts.proofs.ExampleLemmas.{first-three, never-former, not-refused, one, session-is, short, small}
use Rattle.law_cuts.proofs.examples.a_script_that_is_swept.Goals as goal

pub returns-clause-one : goal.returns-clause-one
returns-clause-one c = one

pub returns-clause-session : goal.returns-clause-session
returns-clause-session c = session-is

pub returns-clause-swept : goal.returns-clause-swept
returns-clause-swept c =
    let right = c.a_cut_behind_the_image.ensures.session.right in record {
      right = right;
      one = one;
      swept = λ why refused.
          not-refused right why (subst (λ (xs : List Step). IsRefusedSession small Arm xs why) session-is refused);
    }

pub returns-clause-line : goal.returns-clause-line
returns-clause-line c = λ pattern.
    let z = after_all small longer_steps in
    let is : IsCutResult small z short Arm Chance = (
      λ former. never-former c.a_cut_behind_the_image.ensures.session.former c.a_cut_within_the_image.ensures.here former.0
          former.1 former.2,
      c.a_cut_within_the_image.ensures.not_finished,
    ) in
    let chance : Chance ≡ result_of small z short Arm = (judged-exactly small z short Arm Chance).0 is in
    let line : CutResult → Line =
    λ r. record { number = 3; step = Program 66 data_page; within = false; result = r } in
    ap (λ (xs : List Step). slice_get (sweep_lines small Arm pattern xs) 6) session-is
    ∙ (ap (λ (d : Content). Some (line (result_of small z d Arm))) first-three ∙ ap (λ r. Some (line r)) (sym chance))
