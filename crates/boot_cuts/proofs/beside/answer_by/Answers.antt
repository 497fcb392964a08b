use Rattle.std.proofs.Common.{◌∙◌, ap, length, subst, sym}
use Rattle.pico_board.specs.declared.mem_board.MemBoard.{MemBoard}
use Rattle.pico_board.specs.MemBoard.{state_of}
use Rattle.pico_board.specs.declared.boot.BootKind.TheVariants.{Normal}
use Rattle.boot_rules.specs.Choosing.{decision_in}
use Rattle.boot_rules.specs.Chosen.{Chosen}
use Rattle.boot_rules.proofs.DecisionLemmas.{decision-chosen}
use Rattle.boot_cuts.specs.Classing.{class_by}
use Rattle.boot_cuts.specs.Judging.{judge}
use Rattle.boot_cuts.proofs.BesideLemmas.{answer-parts, decides-after, decides-before, judge-by}
use Rattle.boot_cuts.proofs.beside.answer_by.Goals as goal

pub former_class-requires-clause-decided : goal.former_class-requires-clause-decided
former_class-requires-clause-decided c =
    let ends = c.args.ends.now.ends in
    ap (λ (b : MemBoard). decision_in (state_of b).content ends.cpu Normal) c.board.ensures
    ∙ decides-before ends.former ends.finished (decision_in (state_of c.args.board.now).content ends.cpu Normal)
    (sym c.in-Before.is ∙ c.requires.verdict)

pub returns-in_ok-copy_of_decision-in-Before-clause-exact : goal.returns-in_ok-copy_of_decision-in-Before-clause-exact
returns-in_ok-copy_of_decision-in-Before-clause-exact c =
    let ends = c.args.ends.now.ends in
    let decided = decides-before ends.former ends.finished
    (decision_in (state_of c.args.board.now).content ends.cpu Normal) (sym c.in-Before.is ∙ c.requires.verdict) in
    answer-parts _ _ _ _
    (c.former_class.ensures.exact
    ∙ ap (λ (b : MemBoard). (judge c.args.ends.now (state_of b).content).class) c.board.ensures)
    (c.in_ok-copy_of_decision-in-Before.ensures ∙ sym decided)

pub returns-in_ok-copy_of_decision-in-After-clause-exact : goal.returns-in_ok-copy_of_decision-in-After-clause-exact
returns-in_ok-copy_of_decision-in-After-clause-exact c =
    let ends = c.args.ends.now.ends in
    let start = (state_of c.args.ends.now.start.now).content in
    let z = (state_of ends.board.now).content in
    let d = (state_of c.args.board.now).content in
    let decided = decides-after ends.former ends.finished (decision_in d ends.cpu Normal)
    (sym c.in-After.is ∙ c.requires.verdict) in
    answer-parts _ _ _ _
    (c.class_on.ensures.exact
    ∙ (ap (λ (b : MemBoard). class_by ends.former ends.finished ends.cpu start z c.args.ends.now.torn.now
    (state_of b).content ends.finished)
    c.board-in-After.ensures
    ∙ (ap (class_by ends.former ends.finished ends.cpu start z c.args.ends.now.torn.now d) (sym decided)
    ∙ judge-by c.args.ends.now (length d.flash) d c.requires.ends)))
    (c.in_ok-copy_of_decision-in-After.ensures ∙ sym decided)

pub class_on-requires-clause-chosen : goal.class_on-requires-clause-chosen
class_on-requires-clause-chosen c =
    let ends = c.args.ends.now.ends in
    let d = (state_of c.args.board.now).content in
    subst (λ (b : MemBoard). Chosen (state_of b).content ends.cpu Normal ends.finished) (sym c.board-in-After.ensures)
    (subst (λ e. Chosen d ends.cpu Normal e)
    (decides-after ends.former ends.finished (decision_in d ends.cpu Normal) (sym c.in-After.is ∙ c.requires.verdict))
    (decision-chosen d ends.cpu Normal))
