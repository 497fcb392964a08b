use Rattle.std.proofs.Common.{◌∙◌, ap, subst, sym}
use Rattle.pico_board.specs.MemBoard.{state_of}
use Rattle.pico_board.specs.Steps.{after_all}
use Rattle.pico_board.specs.declared.boot.BootKind.TheVariants.{Normal}
use Rattle.boot_machine.specs.Boots.{decided_steps}
use Rattle.boot_rules.specs.Chosen.{Chosen}
use Rattle.boot_rules.proofs.StartLemmas.{start-valid}
use Rattle.check_images.proofs.BootLemmas.{placed-choice, settled}
use Rattle.check_images.proofs.booting.settle_by.Goals as goal

pub settle-requires-clause-placed : goal.settle-requires-clause-placed
settle-requires-clause-placed c =
    let z = (state_of c.args.board.now).content in
    placed-choice z c.args.cpu c.in-Start.choice c.args.board.now.sizes
    (subst (λ x. Chosen z c.args.cpu Normal x) c.in-Start.is c.requires.chosen)

pub settle-requires-clause-valid : goal.settle-requires-clause-valid
settle-requires-clause-valid c =
    let z = (state_of c.args.board.now).content in
    start-valid z c.args.cpu Normal c.in-Start.choice
    (subst (λ x. Chosen z c.args.cpu Normal x) c.in-Start.is c.requires.chosen)

pub returns-in-Start-clause-content : goal.returns-in-Start-clause-content
returns-in-Start-clause-content c =
    let z = (state_of c.args.board.now).content in
    (settled c.args.board.now c.settle.new.board _ _ c.requires.ready c.settle.ensures.steps).content
    ∙ ap (λ d. after_all z (decided_steps z c.args.cpu d)) (sym c.in-Start.is)

pub returns-in-Start-clause-ready : goal.returns-in-Start-clause-ready
returns-in-Start-clause-ready c =
    (settled c.args.board.now c.settle.new.board _ _ c.requires.ready c.settle.ensures.steps).ready
