use Rattle.std.proofs.Common.{false, subst, sym}
use Rattle.pico_board.specs.Content.{Content}
use Rattle.pico_board.specs.MemBoard.{state_of}
use Rattle.pico_board.specs.declared.boot.BootKind.TheVariants.{Normal}
use Rattle.boot_rules.specs.Chosen.{Chosen}
use Rattle.check_images.specs.Images.{IsJudged}
use Rattle.check_images.specs.Starting.{IsFallback}
use Rattle.check_images.proofs.BootLemmas.{booted-inside, fall-none, start-none}
use Rattle.check_images.proofs.starting.fallback_of.Goals as goal

pub returns-in_default-clause-fallback : goal.returns-in_default-clause-fallback
returns-in_default-clause-fallback c = λ z booted.
    fall-none z c.args.cpu c.in_default.field-0
    (subst (λ d. Chosen z c.args.cpu Normal d) c.in_default.is booted.chosen)

pub returns-in_err-window-clause-fallback : goal.returns-in_err-window-clause-fallback
returns-in_err-window-clause-fallback c = λ z booted.
    subst (λ line. IsFallback z c.args.cpu line) (sym c.from_residual.ensures)
    (start-none z c.args.cpu c.in-Start.choice
    (subst (λ d. Chosen z c.args.cpu Normal d) c.in-Start.is booted.chosen) c.in_err-window.was)

pub image_in-image-requires-clause-inside : goal.image_in-image-requires-clause-inside
image_in-image-requires-clause-inside c =
    let z = c.requires.booted.0 in
    let booted = c.requires.booted.1 in
    booted-inside z c.args.cpu (state_of c.args.after.now).content c.in-Start.choice booted.content
    (subst (λ d. Chosen z c.args.cpu Normal d) c.in-Start.is booted.chosen) booted.left c.in_ok-window.window
    c.in_ok-window.was

pub returns-clause-fallback : goal.returns-clause-fallback
returns-clause-fallback c = λ z booted. record {
  choice = c.in-Start.choice;
  chosen = subst (λ d. Chosen z c.args.cpu Normal d) c.in-Start.is booted.chosen;
  other = c.in_ok-window.was;
  image = subst (λ (y : Content). IsJudged y c.in_ok-window.window c.args.cpu false c.image_in-image.result) booted.left
      c.image_in-image.ensures.judged;
}
