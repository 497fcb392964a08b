use Rattle.std.proofs.Common.{◌∙◌, ap}
use Rattle.pico_board.specs.Content.{Content}
use Rattle.pico_board.specs.MemBoard.{state_of}
use Rattle.pico_board.specs.Steps.{after_all}
use Rattle.pico_board.specs.declared.boot.BootKind.TheVariants.{Normal}
use Rattle.boot_machine.specs.Boots.{decided_steps}
use Rattle.boot_rules.proofs.DecisionLemmas.{chosen-decision}
use Rattle.check_images.proofs.booting.after_boot.Goals as goal

pub returns-clause-content : goal.returns-clause-content
returns-clause-content c =
    let z = (state_of c.args.board.now).content in
    c.settle_by.ensures.content
    ∙ (ap (λ (x : Content). after_all x (decided_steps x c.args.cpu c.args.decision.now)) c.in_ok-after.ensures.same
    ∙ ap (λ d. after_all z (decided_steps z c.args.cpu d))
    (chosen-decision z c.args.cpu Normal c.args.decision.now c.requires.chosen))
