-- By computing.
use Rattle.std.proofs.Common.{◌≡◌, ap, ◌∙◌, subst}
use Rattle.pico_board.specs.declared.boot.BootKind.TheVariants.{Normal}
use Rattle.pico_board.specs.declared.boot.Cpu.TheVariants.{Arm}
use Rattle.pico_board.specs.Content.{Content}
use Rattle.pico_board.specs.Steps.{after_all}
use Rattle.image_def.specs.declared.started.Started.{Started}
use Rattle.image_check.specs.SameImage.{SameImage}
use Rattle.slot_choice.specs.declared.choice.Choice.{Choice}
use Rattle.boot_rules.specs.declared.decision.Decision.{Decision}
use Rattle.boot_rules.specs.declared.decision.Decision.TheVariants.{Bootsel, Start}
use Rattle.boot_rules.specs.Choosing.{decision_in}
use Rattle.boot_rules.specs.AccidentalImages.{HasNoAccidentalImage}
use Rattle.worked_flashes.specs.Choices.{small_finished, small_slot}
use Rattle.worked_flashes.specs.Writes.{longer_steps}
use Rattle.boot_session.specs.CutSessions.{StartsFinished}
use Rattle.boot_session.proofs.ExampleLemmas.{small_before, chosen-by, decided}
use Rattle.boot_session.proofs.CutWithinLemmas.{cut_short, finished, done, starts-short, starts-finished, other-byte, unfinished, never-free}
use Rattle.boot_session.proofs.examples.session.a_cut_within_the_image.Goals as goal

pub returns-clause-unfinished : goal.returns-clause-unfinished
returns-clause-unfinished c = unfinished

pub returns-clause-here : goal.returns-clause-here
returns-clause-here c = chosen-by cut_short (Start small_finished) starts-short

pub returns-clause-after : goal.returns-clause-after
returns-clause-after c =
    chosen-by (after_all small_before longer_steps) (Start small_finished)
    (ap (λ (x : Content). decision_in x Arm Normal) done ∙ starts-finished)

pub returns-clause-not_same : goal.returns-clause-not_same
returns-clause-not_same c = λ same.
    other-byte (subst (λ (z : Content). SameImage cut_short z small_finished.image Arm) done same)

never-finished : StartsFinished finished cut_short Arm → ⊥
never-finished starts =
    let e : Start starts.choice ≡ Start small_finished =
    decided cut_short (Start starts.choice) starts.here ∙ starts-short in
    let image : starts.choice.image ≡ small_finished.image = image-of starts.choice e in
    other-byte (subst (λ (s : Started). SameImage cut_short finished s Arm) image starts.same)
  where
    image_of : Decision → Started
    image_of (Start choice) = choice.image
    image_of (Bootsel fall) = small_finished.image

    image-of : (choice : Choice) → Start choice ≡ Start small_finished → choice.image ≡ small_finished.image
    image-of choice e = ap image_of e

pub returns-clause-not_finished : goal.returns-clause-not_finished
returns-clause-not_finished c = λ starts.
    never-finished (subst (λ (z : Content). StartsFinished z cut_short Arm) done starts)

pub returns-clause-accident : goal.returns-clause-accident
returns-clause-accident c = λ accident_free.
    never-free (subst (λ (z : Content). HasNoAccidentalImage small_before z cut_short small_slot Arm) done accident_free)
