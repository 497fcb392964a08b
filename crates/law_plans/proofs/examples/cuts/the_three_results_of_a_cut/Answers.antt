use Rattle.std.proofs.Common.{◌≡◌, ◌++◌, ap, subst, arith}
use Rattle.pico_board.specs.declared.boot.BootKind.TheVariants.{Normal}
use Rattle.pico_board.specs.declared.boot.Cpu.TheVariants.{Arm}
use Rattle.pico_board.specs.Content.{Content}
use Rattle.boot_rules.specs.declared.decision.Decision.{Decision}
use Rattle.boot_rules.specs.declared.decision.Decision.TheVariants.{Start}
use Rattle.boot_rules.specs.Chosen.{Chosen}
use Rattle.worked_flashes.specs.Flashes.{arm_slot, bare_slot}
use Rattle.worked_flashes.specs.Flashes.{beside_small, mapped_page, small_with, vector_page}
use Rattle.worked_flashes.specs.Choices.{former_start, small_finished, small_former}
use Rattle.boot_sweep.specs.Results.{DecidesAsBefore}
use Rattle.law_plans.proofs.ExampleLemmas.{one-decision, start_of}
use Rattle.law_plans.proofs.examples.cuts.the_three_results_of_a_cut.Goals as goal

pub returns-clause-former : goal.returns-clause-former
returns-clause-former c =
    (Start former_start, c.a_cut_between_two_pages.ensures.session.former, c.a_cut_between_two_pages.ensures.former)

abbrev before : Content
before = beside_small bare_slot

abbrev short : Content
short = beside_small (arm_slot 0x0001000a)

not-former : (c d : Content) (e : Decision) → Chosen c Arm Normal e → (Chosen d Arm Normal e → ⊥) → DecidesAsBefore c d Arm → ⊥
not-former c d e former never is =
    never (subst (λ x. Chosen d Arm Normal x) (one-decision c is.0 e is.1 former) is.2)

pub returns-clause-finished : goal.returns-clause-finished
returns-clause-finished c = (
  not-former before (beside_small (small_with (vector_page ++ mapped_page 0x0001000a))) (Start small_former)
      c.a_cut_behind_the_image.ensures.session.former c.a_cut_behind_the_image.ensures.not_former,
  c.a_cut_behind_the_image.ensures.finished,
)

apart : Start small_former ≡ Start small_finished → ⊥
apart e = let starts : 0x2000 ≡ 0x4000 = ap start_of e in absurd (omega (arith, starts))

pub returns-clause-chance : goal.returns-clause-chance
returns-clause-chance c = (
  not-former before short (Start small_former) c.a_cut_behind_the_image.ensures.session.former
      (λ former. apart (one-decision short (Start small_former) (Start small_finished) former
      c.a_cut_within_the_image.ensures.here)),
  c.a_cut_within_the_image.ensures.not_finished,
)
