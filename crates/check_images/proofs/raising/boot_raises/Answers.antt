use Rattle.std.proofs.Common.{ap, subst, sym, ◌∙◌}
use Rattle.pico_board.specs.MemBoard.{state_of}
use Rattle.pico_board.specs.declared.boot.BootKind.TheVariants.{Normal}
use Rattle.boot_rules.specs.Chosen.{Chosen}
use Rattle.boot_rules.proofs.StartLemmas.{start-valid}
use Rattle.trial_buy.proofs.ImageLemmas.{valid-rows}
use Rattle.boot_machine.specs.Boots.{decided_steps}
use Rattle.check_images.specs.Raising.{raise_count}
use Rattle.check_images.proofs.RaiseLemmas.{boot-counted, start-counted}
use Rattle.check_images.proofs.raising.boot_raises.Goals as goal

pub image_raises-requires-clause-rows : goal.image_raises-requires-clause-rows
image_raises-requires-clause-rows c =
    let z = (state_of c.args.board.now).content in
    let chosen = c.requires.chosen in
    valid-rows z c.in-Start.choice.image.window chosen.0 _ c.in-Start.choice.image
    (start-valid z chosen.0 Normal c.in-Start.choice
    (subst (λ d. Chosen z chosen.0 Normal d) c.in-Start.is chosen.1))

pub returns-else-choice : goal.returns-else-choice
returns-else-choice c = λ cpu chosen.
    (let z = (state_of c.args.board.now).content in
    boot-counted z cpu c.args.decision.now chosen c.image_raises.result
    (c.image_raises.ensures ∙ (sym (start-counted z cpu c.in-Start.choice c.if-choice.false)
    ∙ sym (ap (λ d. raise_count (decided_steps z cpu d)) c.in-Start.is))))

pub returns-in-Bootsel : goal.returns-in-Bootsel
returns-in-Bootsel c = λ cpu chosen.
    (let z = (state_of c.args.board.now).content in
    boot-counted z cpu c.args.decision.now chosen 0
    (sym (ap (λ d. raise_count (decided_steps z cpu d)) c.in-Bootsel.is)))
