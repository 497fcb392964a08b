use Rattle.std.proofs.Common.{◌∙◌, ap, length, subst, sym}
use Rattle.pico_board.specs.MemBoard.{state_of}
use Rattle.pico_board.specs.declared.boot.BootKind.TheVariants.{Normal}
use Rattle.boot_rules.specs.Choosing.{decision_in}
use Rattle.boot_rules.specs.Chosen.{Chosen}
use Rattle.boot_rules.proofs.DecisionLemmas.{decision-chosen}
use Rattle.boot_cuts.specs.Classing.{class_by}
use Rattle.boot_cuts.proofs.BesideLemmas.{former-is, has-apart, judge-by}
use Rattle.boot_cuts.proofs.beside.former_class.Goals as goal

pub returns-then-starts_apart-clause-exact : goal.returns-then-starts_apart-clause-exact
returns-then-starts_apart-clause-exact c =
    let start = (state_of c.args.ends.now.start.now).content in
    let d = (state_of c.args.board.now).content in
    let ends = c.args.ends.now.ends in
    former-is ends.former ends.finished ends.cpu start (state_of ends.board.now).content
    c.args.ends.now.torn.now d (decision_in d ends.cpu Normal)
    c.requires.decided
    (has-apart start d c.args.slot.window ends.cpu ends.former
    (subst (λ e. Chosen start ends.cpu Normal e) (sym c.requires.ends.former) (decision-chosen start ends.cpu Normal))
    c.requires.same (c.starts_apart.ensures c.if-starts_apart.true))
    ∙ judge-by c.args.ends.now (length d.flash) d c.requires.ends

pub returns-else-starts_apart-clause-exact : goal.returns-else-starts_apart-clause-exact
returns-else-starts_apart-clause-exact c =
    let d = (state_of c.args.board.now).content in
    let ends = c.args.ends.now.ends in
    c.class_on.ensures.exact
    ∙ (ap (class_by ends.former ends.finished ends.cpu (state_of c.args.ends.now.start.now).content
    (state_of ends.board.now).content c.args.ends.now.torn.now d) (sym c.requires.decided)
    ∙ judge-by c.args.ends.now (length d.flash) d c.requires.ends)

pub class_on-requires-clause-chosen : goal.class_on-requires-clause-chosen
class_on-requires-clause-chosen c =
    let d = (state_of c.args.board.now).content in
    let ends = c.args.ends.now.ends in
    subst (λ e. Chosen d ends.cpu Normal e) c.requires.decided (decision-chosen d ends.cpu Normal)
